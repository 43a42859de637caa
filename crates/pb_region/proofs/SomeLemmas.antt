-- A transform has no negative side, or a first one.
use Rattle.std.proofs.Common.{◌≡◌, refl, sym, subst, inl, inr, ◌⊎◌, ℕ, zero, suc, ◌<◌, ◌≤◌, List, [], ◌∷◌, length, take, get_or, slice_get, Some, ℤ, pos, negsuc, ◌*ℤ◌, ◌≤ℤ◌, ◌<ℤ◌, arith}
use Rattle.std.specs.List.{All}
use Rattle.std.proofs.lemmas.Int.{ints}
use Rattle.pb_linear.specs.Most.{Most}
use Rattle.pb_linear.specs.Numbers.{Numbers, exact_value, multiple}
use Rattle.pb_linear.specs.Sizes.{IsRanges, leasts_of}
use Rattle.pb_linear.specs.declared.sizes.Sizes.{Sizes}
use Rattle.pb_linear.specs.declared.sizes.TheConstants.{SIZE_TOP}
use Rattle.pb_linear.proofs.SizesLemmas.{InRange-length}
use Rattle.pb_linear.proofs.Values.{exact_value-multiple}
use Rattle.pb_syntax.specs.declared.refusal.Refusal.TheVariants.{NegativeDim}
use Rattle.pb_program.specs.Forms.{DeclValue}
use Rattle.pb_program.specs.Trees.{ProgTransform}
use Rattle.pb_linear.specs.Held.{AreHeld}
use Rattle.pb_linear.proofs.Held.{few_leasts, hold, hold_held, hold_is, least_low, le_or_lt, some_most}
use Rattle.pb_region.specs.Dims.{AreSides, HasNegative, HasNoNegative, HaveNoNegative, IsFirstAxis, IsFirstNegative, IsNegative, IsNeverNegative, sides}

module _ (leasts : List ℕ) (few : length leasts ≤ 8) (low : (i : ℕ) → i < length leasts → get_or leasts i 0 ≤ SIZE_TOP) where
  negative_by : (n : Numbers) (s : List ℕ) → Most (exact_value (multiple (negsuc 0) n)) leasts (exact_value (multiple (negsuc 0) n) s) s
      → (exact_value (multiple (negsuc 0) n) s ≤ℤ pos 0) ⊎ (pos 0 <ℤ exact_value (multiple (negsuc 0) n) s) → IsNeverNegative leasts n ⊎ ((u : Sizes) × IsNegative leasts n u)
  negative_by n s most (inl never) = inl (λ t r. omega (arith, ints, most.greatest t r, exact_value-multiple (negsuc 0) n t))
  negative_by n s most (inr above) =
      let long = InRange-length leasts s most.in_range in
      let negated : Most (λ t. negsuc 0 *ℤ exact_value n t) leasts (exact_value (multiple (negsuc 0) n) s) s =
      subst (λ (v : List ℕ → ℤ). Most v leasts (exact_value (multiple (negsuc 0) n) s) s) (λ i t. exact_value-multiple (negsuc 0) n t i) most in
      let small : length s ≤ 8 = omega arith in
      inr (
        hold s small,
        record {
          held = subst (λ k. AreHeld k (hold s small)) long (hold_held s small);
          most = exact_value (multiple (negsuc 0) n) s;
          above = above;
          greatest = subst (Most (λ t. negsuc 0 *ℤ exact_value n t) leasts (exact_value (multiple (negsuc 0) n) s)) (sym (hold_is s small)) negated;
        },
      )

  side_answer : (n : Numbers) → IsNeverNegative leasts n ⊎ ((u : Sizes) × IsNegative leasts n u)
  side_answer n = let m = some_most (multiple (negsuc 0) n) leasts few low in negative_by n m.0 m.1 (le_or_lt (exact_value (multiple (negsuc 0) n) m.0) (pos 0))

-- all items of a list have one of two properties, or there is a first that has the other
record First {A : Type 0} (P Q : A → Type 0) (xs : List A) : Type 0 where
  place : ℕ
  item : A
  there : slice_get xs place ≡ Some item
  is : Q item
  earlier : All P (take place xs)

none_at : {A : Type 0} (P : A → Type 0) → All P []
none_at P k d below = absurd (omega arith)

one_more_at : {A : Type 0} (P : A → Type 0) (x : A) (xs : List A) → P x → All P xs → All P (x ∷ xs)
one_more_at P x xs p all zero d below = p
one_more_at P x xs p all (suc k) d below = all k d (omega arith)

after_first : {A : Type 0} (P Q : A → Type 0) (x : A) (xs : List A) → P x → All P xs ⊎ First P Q xs → All P (x ∷ xs) ⊎ First P Q (x ∷ xs)
after_first P Q x xs p (inl all) = inl (one_more_at P x xs p all)
after_first P Q x xs p (inr f) = inr (record { place = suc f.place; item = f.item; there = f.there; is = f.is; earlier = one_more_at P x (take f.place xs) p f.earlier })

first_of : {A : Type 0} (P Q : A → Type 0) → ((x : A) → P x ⊎ Q x) → (xs : List A) → All P xs ⊎ First P Q xs
first_of P Q each [] = inl (none_at P)
first_of P Q each (x ∷ xs) = elim (each x) [
  | inl p ↦ after_first P Q x xs p (first_of P Q each xs)
  | inr q ↦ inr (record { place = 0; item = x; there = refl; is = q; earlier = none_at P })
]

module _ (leasts : List ℕ) (few : length leasts ≤ 8) (low : (i : ℕ) → i < length leasts → get_or leasts i 0 ≤ SIZE_TOP) where
  matrix_answer : (d : DeclValue) → HasNoNegative leasts d ⊎ ((axis : ℕ) × (s : Sizes) × IsFirstAxis leasts d axis s)
  matrix_answer d = elim (first_of (IsNeverNegative leasts) (λ n. (u : Sizes) × IsNegative leasts n u) (side_answer leasts few low) (sides d)) [
    | inl all ↦ inl (record { sides = all })
    | inr f ↦ inr (f.place, f.is.0, record { side = f.item; there = f.there; negative = f.is.1; earlier = f.earlier })
  ]

  matrices_answer : (ms : List DeclValue) → HaveNoNegative leasts ms ⊎ ((matrix : ℕ) × (axis : ℕ) × (s : Sizes) × IsFirstNegative leasts ms matrix axis s)
  matrices_answer ms = elim (first_of (HasNoNegative leasts) (λ d. (axis : ℕ) × (s : Sizes) × IsFirstAxis leasts d axis s) matrix_answer ms) [
    | inl all ↦ inl (record { each = all })
    | inr f ↦ inr (f.place, f.is.0, f.is.1, record { decl = f.item; there = f.there; first = f.is.2; earlier = f.earlier })
  ]

pub sides_or_refused : (number : ℕ) (t : ProgTransform) → IsRanges t.ranges → AreSides t ⊎ HasNegative number t
sides_or_refused number t ok =
    elim (matrices_answer (leasts_of t.ranges) (few_leasts t.ranges ok) (least_low t.ranges ok) t.matrices) [
      | inl none ↦ inl none
      | inr f ↦ inr (record { why = NegativeDim number f.0 f.1 f.2; told = (refl, f.3) })
    ]
