-- A step of one seat: what it knows afterwards has to fit, and what the others know.
use Rattle.std.proofs.Common.{◌≡◌, ◌∙◌, refl, sym, ap, subst, inl, inr, ◌⊎◌, ⊎_elim, ℕ, zero, suc, ◌+◌, ◌<◌, ◌≢◌, Bool, true, false, List, [], ◌∷◌, ◌++◌, length, length-append, Option, Some, None, set, arith}
use Rattle.std.proofs.Math.ListN.{length-set}
use Rattle.std.specs.List.{Contains}
use Rattle.std.proofs.lemmas.Bool.{cases_eq}
use Rattle.std.proofs.lemmas.Bool.Decides.{nat_tests}
use mathlib.Core.Option.{some, some-injective, some-ne-none}
use lib.ListN.{get_elem?}
use Rattle.atomic_table.proofs.Lists.{at_set}
use Rattle.pb_base.proofs.ListLemmas.{in_cases, in_head, in_none, in_tail}
use Rattle.pb_taskgraph.specs.Plans.{Plan}
use Rattle.pb_core.specs.States.{with}
use Rattle.pb_core.proofs.WithLemmas.{with-other, with-same}
use Rattle.pb_cells.specs.declared.view.View.{View}
use Rattle.pb_cells.specs.Banks.{Bank}
use Rattle.pb_cells.specs.Stories.{AreSeats, Fits, IsStory, Keeps, Story, Tells, is_listed}

-- ---- whether a number is listed
pub in-listed : (xs : List ℕ) (n : ℕ) → Contains xs n → is_listed xs n ≡ true
in-listed [] n h = absurd (in_none n h)
in-listed (x ∷ xs) n h = elim (in_cases x n xs h) [
  | inl same ↦ grind (arith, nat_tests)
  | inr later ↦ let rest = in-listed xs n later in grind (arith, nat_tests)
]

pub listed-in : (xs : List ℕ) (n : ℕ) → is_listed xs n ≡ true → Contains xs n
listed-in [] n e = let wrong : false ≡ true = e in absurd (cc)
listed-in (x ∷ xs) n e = ⊎_elim
    (λ (same : n ≡ x). subst (Contains (x ∷ xs)) (sym same) (in_head x xs))
    (λ (other : n ≡ x → ⊥). in_tail x n xs (listed-in xs n (grind (arith, nat_tests))))
    (cases_eq n x)

pub either_way : (x : Bool) → (x ≡ true) ⊎ (x ≡ false)
either_way true = inl refl
either_way false = inr refl

-- two functions that differ from others at the same number
pub with-both : {X Y : Type 0} (f : ℕ → X) (h : ℕ → Y) (n : ℕ) (x : X) (z : Y) (k : ℕ) (P : X → Y → Type 0) → (k ≡ n → P x z) → ((k ≡ n → ⊥) → P (f k) (h k)) → P (with f n x k) (with h n z k)
with-both f h n x z k P here other = ⊎_elim
    (λ (same : k ≡ n). subst (λ a. P a (with h n z k)) (sym (with-same f n x k same)) (subst (P x) (sym (with-same h n z k same)) (here same)))
    (λ (apart : k ≡ n → ⊥). subst (λ a. P a (with h n z k)) (sym (with-other f n x k apart)) (subst (P (f k)) (sym (with-other h n z k apart)) (other apart)))
    (cases_eq k n)

pub seat-inside : {A : Type 0} (xs : List A) (i : ℕ) (x : A) → get_elem? xs i ≡ some x → i < length xs
seat-inside [] i x e = absurd (some-ne-none x (sym e))
seat-inside (y ∷ xs) zero x e = omega arith
seat-inside (y ∷ xs) (suc i) x e = let rest = seat-inside xs i x e in omega arith

pub last-seat : {A : Type 0} (xs : List A) (a b : A) (i : ℕ) → get_elem? (xs ++ a ∷ []) i ≡ some b → ((i < length xs) × (get_elem? xs i ≡ some b)) ⊎ ((i ≡ length xs) × (a ≡ b))
last-seat [] a b zero e = inr (refl, some-injective a b e)
last-seat [] a b (suc i) e = absurd (some-ne-none b (sym e))
last-seat (x ∷ xs) a b zero e = inl (omega arith, e)
last-seat (x ∷ xs) a b (suc i) e = ⊎_elim
    (λ (there : (i < length xs) × (get_elem? xs i ≡ some b)). let below = there.0 in inl (omega arith, there.1))
    (λ (last : (i ≡ length xs) × (a ≡ b)). inr (ap suc last.0, last.1))
    (last-seat xs a b i e)

pub some-one : {X : Type 0} (o : Option X) (x z : X) → o ≡ Some x → o ≡ Some z → x ≡ z
some-one o x z e f = let same : Some x ≡ Some z = sym e ∙ f in cc

pub none-some : {X : Type 0} (o : Option X) (x : X) → o ≡ None → o ≡ Some x → ⊥
none-some o x empty is = let wrong : None ≡ Some x = sym empty ∙ is in cc

-- one seat knows of a task
pub keeps-same : (runner taker : ℕ → Option ℕ) (t id o : ℕ) → Keeps runner taker t id → Keeps runner taker t o → o ≡ id
keeps-same runner taker t id o (inl mine) (inl theirs) = some-one (runner t) o id theirs.0 mine.0
keeps-same runner taker t id o (inl mine) (inr taken) = absurd (none-some (taker t) o mine.1 taken)
keeps-same runner taker t id o (inr mine) (inl theirs) = absurd (none-some (taker t) id theirs.1 mine)
keeps-same runner taker t id o (inr mine) (inr taken) = some-one (taker t) o id taken mine

module _ (p : Plan) (b : Bank) (views : List View) (y : Story) (ok : IsStory p b views y) where
  module _ (id : ℕ) (v : View) (at : get_elem? views id ≡ some v) (c : Bank) (z : Story) where
    -- one seat steps
    pub seat-steps : (w : View) → Tells p c z → AreSeats z.core.holder z.core.runner z.taker (length views) → Fits p c z id w
        → ((o : ℕ) (u : View) → (o ≡ id → ⊥) → Fits p b y o u → Fits p c z o u) → IsStory p c (set views id w) z
    seat-steps w tells seats own others = record {
      tells = tells;
      seats = subst (AreSeats z.core.holder z.core.runner z.taker) (sym (length-set views id w)) seats;
      fits = λ o u e. ⊎_elim
          (λ (here : (o ≡ id) × (w ≡ u)). subst (λ i. Fits p c z i u) (sym here.0) (subst (Fits p c z id) here.1 own))
          (λ (other : (o ≢ id) × (get_elem? views o ≡ some u)). others o u other.0 (ok.fits o u other.1))
          (at_set views id o w u e);
    }

    -- one seat is cut in two
    pub seat-splits : (w new : View) → Tells p c z → AreSeats z.core.holder z.core.runner z.taker (length views + 1) → Fits p c z id w → Fits p c z (length views) new
        → ((o : ℕ) (u : View) → (o ≡ id → ⊥) → o < length views → Fits p b y o u → Fits p c z o u) → IsStory p c (set views id w ++ new ∷ []) z
    seat-splits w new tells seats own right others = record {
      tells = tells;
      seats = subst (AreSeats z.core.holder z.core.runner z.taker) (omega (arith, length-append (set views id w) (new ∷ []), length-set views id w)) seats;
      fits = λ o u e. ⊎_elim
          (λ (there : (o < length (set views id w)) × (get_elem? (set views id w) o ≡ some u)). ⊎_elim
          (λ (here : (o ≡ id) × (w ≡ u)). subst (λ i. Fits p c z i u) (sym here.0) (subst (Fits p c z id) here.1 own))
          (λ (other : (o ≢ id) × (get_elem? views o ≡ some u)). others o u other.0 (seat-inside views o u other.1) (ok.fits o u other.1))
          (at_set views id o w u there.1))
          (λ (last : (o ≡ length (set views id w)) × (new ≡ u)). subst (λ i. Fits p c z i u) (sym (last.0 ∙ length-set views id w)) (subst (Fits p c z (length views)) last.1 right))
          (last-seat (set views id w) new u o e);
    }

  -- one seat takes in another
  pub seat-joins : (id : ℕ) (v : View) (other : ℕ) (u : View) → get_elem? views id ≡ some v → (other ≡ id → ⊥) → get_elem? views other ≡ some u
      → (z : Story) (w spent : View) → Tells p b z → AreSeats z.core.holder z.core.runner z.taker (length views) → Fits p b z id w → Fits p b z other spent
      → ((o : ℕ) (x : View) → (o ≡ id → ⊥) → (o ≡ other → ⊥) → Fits p b y o x → Fits p b z o x) → IsStory p b (set (set views id w) other spent) z
  seat-joins id v other u at apart there z w spent tells seats own left others = record {
    tells = tells;
    seats = subst (AreSeats z.core.holder z.core.runner z.taker) (sym (length-set (set views id w) other spent ∙ length-set views id w)) seats;
    fits = λ o x e. ⊎_elim
        (λ (here : (o ≡ other) × (spent ≡ x)). subst (λ i. Fits p b z i x) (sym here.0) (subst (Fits p b z other) here.1 left))
        (λ (more : (o ≢ other) × (get_elem? (set views id w) o ≡ some x)). ⊎_elim
        (λ (here : (o ≡ id) × (w ≡ x)). subst (λ i. Fits p b z i x) (sym here.0) (subst (Fits p b z id) here.1 own))
        (λ (rest : (o ≢ id) × (get_elem? views o ≡ some x)). others o x rest.0 more.0 (ok.fits o x rest.1))
        (at_set views id o w x more.1))
        (at_set (set views id w) other o spent x e);
  }
