-- Elements of the front of a list, marks, and how many there are.
use Rattle.std.proofs.Common.{inl, inr, ◌≡◌, ◌≢◌, ◌⊎◌, ◌∙◌, refl, sym, ap, subst, ⊎_elim, ℕ, zero, suc, ◌+◌, ◌<◌, ◌≤◌, Bool, true, false, List, [], ◌∷◌, length, take, get_or, arith}
use Rattle.std.proofs.Math.ListN.{set, length-set}
use Rattle.std.specs.List.{Contains}
use Rattle.std.proofs.lemmas.Bool.{cases_eq, cases_lt, false≢true}
use Rattle.std.proofs.lemmas.List.{ext_get_or, get_or-set_other, get_or-set_same, get_or_default, get_or_past, take_all, take_more}
use Rattle.std.proofs.lemmas.List.Elements.{Contains-append_left, Contains-push, Contains-push_cases}
use Rattle.pb_layers.specs.Graphs.{IsFilled, IsMarked, count, marked}

pub contains-nil : {A : Type 0} (x : A) → Contains [] x → ⊥
contains-nil x c = let below = c.1 in absurd (omega arith)

pub contains-one : {A : Type 0} (y x : A) → Contains (y ∷ []) x → y ≡ x
contains-one y x c = ⊎_elim (λ (none : Contains [] x). absurd (contains-nil x none)) (λ e. e) (Contains-push_cases [] y x c)

pub contains-here : {A : Type 0} (x : A) → Contains (x ∷ []) x
contains-here x = Contains-push [] x

module _ {A : Type 0} (xs : List A) (i : ℕ) (d : A) (here : i < length xs) where
  pub contains-more_cases : (x : A) → Contains (take (i + 1) xs) x → Contains (take i xs) x ⊎ (get_or xs i d ≡ x)
  contains-more_cases x c =
      let P : List A → Type 0 = λ l. Contains l x in
      Contains-push_cases (take i xs) (get_or xs i d) x (subst P (take_more xs i d here) c)

  pub contains-more_old : (x : A) → Contains (take i xs) x → Contains (take (i + 1) xs) x
  contains-more_old x c =
      let P : List A → Type 0 = λ l. Contains l x in
      subst P (sym (take_more xs i d here)) (Contains-append_left (take i xs) (get_or xs i d ∷ []) x c)

  pub contains-more_new : Contains (take (i + 1) xs) (get_or xs i d)
  contains-more_new =
      let P : List A → Type 0 = λ l. Contains l (get_or xs i d) in
      subst P (sym (take_more xs i d here)) (Contains-push (take i xs) (get_or xs i d))

pub contains-read : {A : Type 0} (xs : List A) (i : ℕ) (x : A) → i < length xs → x ≡ get_or xs i x → Contains xs x
contains-read xs i x here is = (i, here, sym is)

pub contains-all : {A : Type 0} (xs : List A) (x : A) (n : ℕ) → length xs ≤ n → Contains xs x → Contains (take n xs) x
contains-all {A} xs x n over c = let P : List A → Type 0 = λ l. Contains l x in subst P (sym (take_all n xs over)) c

pub contains-some : {A : Type 0} (xs : List A) (x : A) → Contains xs x → 0 < length xs
contains-some xs x c = let below = c.1 in omega arith

-- ---- elements of a list with one more in front
pub contains-cons_cases : {A : Type 0} (x v : A) (xs : List A) → Contains (x ∷ xs) v → (x ≡ v) ⊎ Contains xs v
contains-cons_cases {A} x v xs c = at c.0 c.1 c.2
  where
    at : (k : ℕ) → k < length (x ∷ xs) → get_or (x ∷ xs) k v ≡ v → (x ≡ v) ⊎ Contains xs v
    at zero below e = inl e
    at (suc k) below e = inr (k, omega arith, e)

pub contains-cons : {A : Type 0} (x v : A) (xs : List A) → Contains xs v → Contains (x ∷ xs) v
contains-cons x v xs c = let below = c.1 in (suc c.0, omega arith, c.2)

pub contains-first : {A : Type 0} (x : A) (xs : List A) → Contains (x ∷ xs) x
contains-first x xs = (0, omega arith, refl)

-- ---- marks
pub marked-inside : (marks : List Bool) (v : ℕ) → IsMarked marks v → v < length marks
marked-inside marks v is = ⊎_elim (λ (l : v < length marks). l) (λ (over : length marks ≤ v). absurd (false≢true (sym (get_or_past marks v false over) ∙ is))) (cases_lt v (length marks))

pub mark-set_same : (marks : List Bool) (v : ℕ) (b : Bool) → v < length marks → marked (set marks v b) v ≡ b
mark-set_same marks v b here = get_or-set_same marks v b false here

pub mark-set_other : (marks : List Bool) (v w : ℕ) (b : Bool) → w ≢ v → marked (set marks v b) w ≡ marked marks w
mark-set_other marks v w b ne = get_or-set_other marks v w b false ne

pub count-unset : (marks : List Bool) (v : ℕ) → IsMarked marks v → count (set marks v false) + 1 ≡ count marks
count-unset [] v is = absurd (false≢true is)
count-unset (true ∷ marks) zero is = refl
count-unset (false ∷ marks) zero is = absurd (false≢true is)
count-unset (true ∷ marks) (suc v) is = let rest = count-unset marks v is in omega arith
count-unset (false ∷ marks) (suc v) is = count-unset marks v is

-- fewer marks, and one less
pub count-fewer : (some more : List Bool) → length some ≡ length more → ((v : ℕ) → IsMarked some v → IsMarked more v) → count some ≤ count more
count-fewer [] [] same fewer = omega arith
count-fewer [] (m ∷ more) same fewer = absurd (omega arith)
count-fewer (s ∷ some) [] same fewer = absurd (omega arith)
count-fewer (true ∷ some) (true ∷ more) same fewer = let rest = count-fewer some more (omega arith) (λ v h. fewer (suc v) h) in omega arith
count-fewer (true ∷ some) (false ∷ more) same fewer = absurd (false≢true (fewer 0 refl))
count-fewer (false ∷ some) (true ∷ more) same fewer = let rest = count-fewer some more (omega arith) (λ v h. fewer (suc v) h) in omega arith
count-fewer (false ∷ some) (false ∷ more) same fewer = count-fewer some more (omega arith) (λ v h. fewer (suc v) h)

pub count-less : (some more : List Bool) (v : ℕ) → length some ≡ length more → ((w : ℕ) → IsMarked some w → IsMarked more w) → marked some v ≡ false → IsMarked more v → count some < count more
count-less some more v same fewer off on =
    let step = count-unset more v on in
    let below = count-fewer some (set more v false) (omega (arith, length-set more v false)) (λ w h. other w h) in
    omega arith
  where
    other : (w : ℕ) → IsMarked some w → IsMarked (set more v false) w
    other w h = ⊎_elim (λ (e : w ≡ v). absurd (false≢true (sym off ∙ ap (marked some) (sym e) ∙ h))) (λ (ne : w ≢ v). mark-set_other more v w false ne ∙ fewer w h) (cases_eq w v)

-- the same marks
pub marks-same : (xs ys : List Bool) → length xs ≡ length ys → ((v : ℕ) → IsMarked xs v → IsMarked ys v) → ((v : ℕ) → IsMarked ys v → IsMarked xs v) → xs ≡ ys
marks-same xs ys same there back = ext_get_or false xs ys same (λ v below. by_mark (marked xs v) (marked ys v) (there v) (back v))
  where
    by_mark : (a b : Bool) → (a ≡ true → b ≡ true) → (b ≡ true → a ≡ true) → a ≡ b
    by_mark true b h k = sym (h refl)
    by_mark false true h k = k refl
    by_mark false false h k = refl

-- ---- values written at nodes
pub filled-none : {A : Type 0} (xs : List A) (value : A) → IsFilled A xs xs [] value
filled-none xs value = record { room = refl; written = λ v d below c. absurd (contains-nil v c); kept = λ v d c. refl }

pub filled-more : {A : Type 0} (old new : List A) (nodes : List ℕ) (value : A) (i : ℕ) → i < length nodes → get_or nodes i 0 < length old → IsFilled A old new (take i nodes) value →
    IsFilled A old (set new (get_or nodes i 0) value) (take (i + 1) nodes) value
filled-more {A} old new nodes value i here inside f =
    let v = get_or nodes i 0 in
    record {
      room = length-set new v value ∙ f.room;
      written = λ w d below c.
          ⊎_elim
          (λ (e : w ≡ v). ap (λ k. get_or (set new v value) k d) e ∙ get_or-set_same new v value d (omega (arith, f.room)))
          (λ (ne : w ≢ v). get_or-set_other new v w value d ne ∙ f.written w d below (⊎_elim (λ h. h) (λ (e : v ≡ w). absurd (ne (sym e))) (contains-more_cases nodes i 0 here w c)))
          (cases_eq w v);
      kept = λ w d out.
          get_or-set_other new v w value d (λ e. out (same w e))
          ∙ f.kept w d (λ c. out (contains-more_old nodes i 0 here w c));
    }
  where
    same : (w : ℕ) → w ≡ get_or nodes i 0 → Contains (take (i + 1) nodes) w
    same w e = let P : ℕ → Type 0 = λ k. Contains (take (i + 1) nodes) k in subst P (sym e) (contains-more_new nodes i 0 here)

pub filled-all : {A : Type 0} (old new : List A) (nodes : List ℕ) (value : A) (n : ℕ) → length nodes ≤ n → IsFilled A old new (take n nodes) value → IsFilled A old new nodes value
filled-all {A} old new nodes value n over f = let P : List ℕ → Type 0 = λ l. IsFilled A old new l value in subst P (take_all n nodes over) f

pub marked-read : (marks : List Bool) (v : ℕ) (b : Bool) → v < length marks → b ≡ get_or marks v b → marked marks v ≡ b
marked-read marks v b inside is = get_or_default marks v false b inside ∙ sym is
