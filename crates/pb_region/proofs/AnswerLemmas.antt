-- A rule has boxes or one refusal.
use Rattle.std.proofs.Common.{◌≡◌, refl, ◌⊎◌, inl, inr, ℕ, zero, suc, ◌<◌, ◌≤◌, List, length, Bool, true, false, Option, Some, None, arith}
use Rattle.std.proofs.lemmas.Bool.{cases_lt}
use Rattle.pb_linear.specs.Sizes.{leasts_of}
use Rattle.pb_syntax.specs.declared.refusal.Refusal.{Refusal}
use Rattle.pb_syntax.specs.declared.refusal.Refusal.TheVariants.{NotABox, OverlapOutputs}
use Rattle.pb_program.specs.declared.view.Read.{Read}
use Rattle.pb_program.specs.Forms.{DeclValue}
use Rattle.pb_program.specs.Trees.{ProgRule, ProgTransform}
use Rattle.pb_region.specs.Overlaps.{HasNoOverlap, IsFirst, IsFirstOverlap, overlap_at}
use Rattle.pb_region.specs.Rules.{HasRefusal, IsAccepted, IsRefused, first_no_box}
use Rattle.pb_region.proofs.OverlapLemmas.{not_in_order, not_there}

-- ---- a first number at which a test passes, or none
clash : (b : Bool) → b ≡ true → b ≡ false → ⊥
clash true t f = cc
clash false t f = cc

last_one : (p : ℕ → Bool) (n : ℕ) (b : Bool) → p n ≡ b → ((k : ℕ) → k < n → p k ≡ false) → ((k : ℕ) × (k < suc n) × IsFirst p k) ⊎ ((k : ℕ) → k < suc n → p k ≡ false)
last_one p n true e none = inl (n, omega arith, record { passes = e; earlier = none })
last_one p n false e none = inr (λ k h. elim (cases_lt k n) [ inl below ↦ none k below | inr at ↦ let same : k ≡ n = omega arith in rw same e ])

first_below : (p : ℕ → Bool) (n : ℕ) → ((k : ℕ) × (k < n) × IsFirst p k) ⊎ ((k : ℕ) → k < n → p k ≡ false)
first_below p zero = inr (λ k h. absurd (omega arith))
first_below p (suc n) = elim (first_below p n) [
  | inl found ↦ inl (found.0, omega (arith, found.1), found.2)
  | inr none ↦ last_one p n (p n) refl none
]

-- the same for pairs, by the first and then by the second number
module _ (f : ℕ → ℕ → Bool) (n : ℕ) (past : (i j : ℕ) → n ≤ j → f i j ≡ false) where
  FirstPair : ℕ → ℕ → Type 0
  FirstPair i j = (f i j ≡ true) × ((k l : ℕ) → f k l ≡ true → (i < k) ⊎ ((i ≡ k) × (j ≤ l)))

  whole_row : (i : ℕ) → ((j : ℕ) → j < n → f i j ≡ false) → (j : ℕ) → f i j ≡ false
  whole_row i none j = elim (cases_lt j n) [ inl below ↦ none j below | inr over ↦ past i j over ]

  in_row : (i j k l : ℕ) → IsFirst (f i) j → i ≡ k → f k l ≡ true → j ≤ l
  in_row i j k l first e t = elim (cases_lt l j) [ inl before ↦ let here : f i l ≡ true = rw e t in absurd (clash (f i l) here (first.earlier l before)) | inr h ↦ h ]

  found : (i j : ℕ) → IsFirst (f i) j → ((k l : ℕ) → k < i → f k l ≡ false) → FirstPair i j
  unfolding FirstPair
  found i j first none = (
    first.passes,
    λ k l t. elim (cases_lt k i) [
      | inl before ↦ absurd (clash (f k l) t (none k l before))
      | inr after ↦ elim (cases_lt i k) [ inl later ↦ inl later | inr same ↦ let e : i ≡ k = omega arith in inr (e, in_row i j k l first e t) ]
    ],
  )

  rows : (m : ℕ) → ((i : ℕ) × (j : ℕ) × FirstPair i j) ⊎ ((k l : ℕ) → k < m → f k l ≡ false)
  rows zero = inr (λ k l h. absurd (omega arith))
  rows (suc m) = elim (rows m) [
    | inl some ↦ inl some
    | inr none ↦ elim (first_below (f m) n) [
      | inl first ↦ inl (m, first.0, found m first.0 first.2 none)
      | inr no_more ↦ inr (λ k l h. elim (cases_lt k m) [ inl b ↦ none k l b | inr at ↦ let e : k ≡ m = omega arith in rw e (whole_row m no_more l) ])
    ]
  ]

module _ (leasts : List ℕ) (ms : List DeclValue) (outs : List Read) where
  at_pair : ℕ → ℕ → Bool
  at_pair = overlap_at leasts ms outs

  some_pair : ((i : ℕ) × (j : ℕ) × IsFirstOverlap leasts ms outs i j) ⊎ HasNoOverlap leasts ms outs
  unfolding FirstPair
  some_pair = elim (rows (overlap_at leasts ms outs) (length outs) (not_there leasts ms outs) (length outs)) [
    | inl pair ↦ inl (pair.0, pair.1, record { overlaps = pair.2.0; earliest = pair.2.1 })
    | inr none ↦ inr (λ i j. elim (cases_lt i (length outs)) [
      | inl below ↦ none i j below
      | inr over ↦ elim (cases_lt i j) [ inl after ↦ not_there leasts ms outs i j (omega arith) | inr before ↦ not_in_order leasts ms outs i j before ]
    ])
  ]

-- ---- the answers of a rule
module _ (number_t number_r : ℕ) (t : ProgTransform) (r : ProgRule) where
  some_by : (o : Option ℕ) → first_no_box t r ≡ o → IsAccepted t r ⊎ HasRefusal number_t number_r t r
  some_by (Some k) e = inr (record { why = NotABox number_t number_r k; told = (refl, refl, e) })
  some_by None e = elim (some_pair (leasts_of t.ranges) t.matrices r.outs) [
    | inl pair ↦ inr (record { why = OverlapOutputs number_t number_r pair.0 pair.1; told = (refl, refl, e, pair.2) })
    | inr none ↦ inl (record { conditions = e; outputs = none })
  ]

  pub some_answer : IsAccepted t r ⊎ HasRefusal number_t number_r t r
  some_answer = some_by (first_no_box t r) refl

  -- a refusal by its reason
  data Told (e : Refusal) : Type 0 where
    no_box : (k : ℕ) → first_no_box t r ≡ Some k → e ≡ NotABox number_t number_r k → Told e
    pair : (i j : ℕ) → first_no_box t r ≡ None → IsFirstOverlap (leasts_of t.ranges) t.matrices r.outs i j → e ≡ OverlapOutputs number_t number_r i j → Told e

  told_of : (e : Refusal) → IsRefused number_t number_r t r e → Told e
  told_of (NotABox a b k) h = no_box k h.2 (cc (h.0, h.1))
  told_of (OverlapOutputs a b i j) h = pair i j h.2 h.3 (cc (h.0, h.1))
  told_of _ h = absurd h

  not_told : (e : Refusal) → IsAccepted t r → Told e → ⊥
  not_told e h (no_box k some same) = let none = h.conditions in cc
  not_told e h (pair i j none first same) = clash _ first.overlaps (h.outputs i j)

  pub not_both : (e : Refusal) → IsAccepted t r → IsRefused number_t number_r t r e → ⊥
  not_both e h refused = not_told e h (told_of e refused)

  same_pair : (i j k l : ℕ) → (i < k) ⊎ ((i ≡ k) × (j ≤ l)) → (k < i) ⊎ ((k ≡ i) × (l ≤ j)) → (i ≡ k) × (j ≡ l)
  same_pair i j k l (inl a) (inl b) = absurd (omega arith)
  same_pair i j k l (inl a) (inr b) = absurd (omega (arith, b.0))
  same_pair i j k l (inr a) (inl b) = absurd (omega (arith, a.0))
  same_pair i j k l (inr a) (inr b) = (a.0, omega (arith, a.1, b.1))

  same_told : (e f : Refusal) → Told e → Told f → e ≡ f
  same_told e f (no_box k some a) (no_box l other b) = cc
  same_told e f (no_box k some a) (pair i j none first b) = cc
  same_told e f (pair i j none first a) (no_box k some b) = cc
  same_told e f (pair i j none first a) (pair k l same other b) =
      let both = same_pair i j k l (first.earliest k l other.overlaps) (other.earliest i j first.overlaps) in cc (both.0, both.1)

  pub one_refusal : (e f : Refusal) → IsRefused number_t number_r t r e → IsRefused number_t number_r t r f → e ≡ f
  one_refusal e f a b = same_told e f (told_of e a) (told_of f b)
