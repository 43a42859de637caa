-- A transform has no negative side, or one first side with one list of sizes.
use Rattle.std.proofs.Common.{◌≡◌, ◌∙◌, sym, ap, subst, inl, inr, ℕ, ◌<◌, ◌≤◌, List, length, take, slice_get, Some, negsuc, ◌*ℤ◌, arith}
use Rattle.std.specs.List.{All}
use Rattle.std.proofs.lemmas.Bool.{cases_lt}
use Rattle.std.proofs.lemmas.Int.{ints}
use Rattle.std.proofs.lemmas.List.{get_or-take, length-take-le}
use Rattle.std.proofs.lemmas.Option.{get_or_from_slice_get, slice_get_within}
use Rattle.pb_linear.specs.Most.{Most}
use Rattle.pb_linear.specs.Numbers.{Numbers, exact_value}
use Rattle.pb_linear.specs.Sizes.{leasts_of, sizes_of}
use Rattle.pb_linear.specs.declared.sizes.Sizes.{Sizes}
use Rattle.pb_syntax.specs.declared.refusal.Refusal.{Refusal}
use Rattle.pb_syntax.specs.declared.refusal.Refusal.TheVariants.{NegativeDim}
use Rattle.pb_program.specs.Forms.{DeclValue}
use Rattle.pb_program.specs.Trees.{ProgTransform}
use Rattle.pb_linear.proofs.Held.{held_same, same_most}
use Rattle.pb_region.specs.Dims.{AreSides, HasNoNegative, IsFirstAxis, IsFirstNegative, IsNegative, IsNeverNegative, IsRefused, sides}

pub all_at : {A : Type 0} (P : A → Type 0) (xs : List A) (k : ℕ) (x : A) → All P xs → slice_get xs k ≡ Some x → P x
all_at P xs k x h at = subst P (get_or_from_slice_get xs k x x at) (h k x (slice_get_within xs k x at))

all_before : {A : Type 0} (P : A → Type 0) (xs : List A) (n k : ℕ) (x : A) → All P (take n xs) → k < n → n ≤ length xs → slice_get xs k ≡ Some x → P x
all_before P xs n k x h below fits at =
    subst P (get_or-take n xs k x below ∙ get_or_from_slice_get xs k x x at) (h k x (omega (arith, length-take-le n xs fits)))

some_same : {A : Type 0} (x y : A) → Some x ≡ Some y → x ≡ y
some_same x y e = cc

module _ (leasts : List ℕ) where
  clash : (n : Numbers) (s : Sizes) → IsNeverNegative leasts n → IsNegative leasts n s → ⊥
  clash n s never h = omega (arith, ints, h.above, h.greatest.reached, never (sizes_of s) h.greatest.in_range)

  no_side : (d : DeclValue) (axis : ℕ) (s : Sizes) → HasNoNegative leasts d → IsFirstAxis leasts d axis s → ⊥
  no_side d axis s none h = clash h.side s (all_at (IsNeverNegative leasts) (sides d) axis h.side none.sides h.there) h.negative

  -- the first of two matrices isn't before the other
  not_before : (ms : List DeclValue) (i a j b : ℕ) (s u : Sizes) → IsFirstNegative leasts ms i a s → IsFirstNegative leasts ms j b u → i < j → ⊥
  not_before ms i a j b s u h k before =
      no_side h.decl a s (all_before (HasNoNegative leasts) ms j i h.decl k.earlier before (omega (arith, slice_get_within ms j k.decl k.there)) h.there) h.first

  pub same_matrix : (ms : List DeclValue) (i a j b : ℕ) (s u : Sizes) → IsFirstNegative leasts ms i a s → IsFirstNegative leasts ms j b u → i ≡ j
  same_matrix ms i a j b s u h k = elim (cases_lt i j) [
    | inl before ↦ absurd (not_before ms i a j b s u h k before)
    | inr after ↦ elim (cases_lt j i) [ inl before ↦ absurd (not_before ms j b i a u s k h before) | inr same ↦ omega arith ]
  ]

  axis_before : (d : DeclValue) (a b : ℕ) (s u : Sizes) → IsFirstAxis leasts d a s → IsFirstAxis leasts d b u → a < b → ⊥
  axis_before d a b s u h k before =
      clash h.side s (all_before (IsNeverNegative leasts) (sides d) b a h.side k.earlier before (omega (arith, slice_get_within (sides d) b k.side k.there)) h.there) h.negative

  same_axis : (d : DeclValue) (a b : ℕ) (s u : Sizes) → IsFirstAxis leasts d a s → IsFirstAxis leasts d b u → a ≡ b
  same_axis d a b s u h k = elim (cases_lt a b) [
    | inl before ↦ absurd (axis_before d a b s u h k before)
    | inr after ↦ elim (cases_lt b a) [ inl before ↦ absurd (axis_before d b a u s k h before) | inr same ↦ omega arith ]
  ]

  same_sizes : (d : DeclValue) (a b : ℕ) (s u : Sizes) → a ≡ b → IsFirstAxis leasts d a s → IsFirstAxis leasts d b u → sizes_of s ≡ sizes_of u
  same_sizes d a b s u e h k =
      let side : h.side ≡ k.side = let there : slice_get (sides d) b ≡ Some h.side = rw (sym e) h.there in some_same h.side k.side (sym there ∙ k.there) in
      same_most leasts (λ t. negsuc 0 *ℤ exact_value k.side t) h.negative.most k.negative.most (sizes_of s) (sizes_of u) (subst (λ n. Most (λ t. negsuc 0 *ℤ exact_value n t) leasts h.negative.most (sizes_of s)) side h.negative.greatest) k.negative.greatest

  pub same_side : (ms : List DeclValue) (i a j b : ℕ) (s u : Sizes) → IsFirstNegative leasts ms i a s → IsFirstNegative leasts ms j b u → (a ≡ b) × (sizes_of s ≡ sizes_of u)
  same_side ms i a j b s u h k =
      let e = same_matrix ms i a j b s u h k in
      let decl : h.decl ≡ k.decl = let there : slice_get ms j ≡ Some h.decl = rw (sym e) h.there in some_same h.decl k.decl (sym there ∙ k.there) in
      let first : IsFirstAxis leasts k.decl a s = subst (λ d. IsFirstAxis leasts d a s) decl h.first in
      let axis = same_axis k.decl a b s u first k.first in
      (axis, same_sizes k.decl a b s u axis first k.first)

pub not_refused : (number : ℕ) (t : ProgTransform) (e : Refusal) → AreSides t → IsRefused number t e → ⊥
not_refused number t (NegativeDim transform matrix axis s) none h =
    let first = h.1 in no_side (leasts_of t.ranges) first.decl axis s (all_at (HasNoNegative (leasts_of t.ranges)) t.matrices matrix first.decl none.each first.there) first.first
not_refused number t _ none h = absurd h

-- two refusals are one
same_told : (number matrix other axis more : ℕ) (s u : Sizes) → matrix ≡ other → axis ≡ more → s ≡ u → NegativeDim number matrix axis s ≡ NegativeDim number other more u
same_told number matrix other axis more s u a b c = cc

pub one_negative : (number : ℕ) (t : ProgTransform) (e f : Refusal) → IsRefused number t e → IsRefused number t f → e ≡ f
one_negative number t (NegativeDim i matrix axis s) (NegativeDim j other more u) (is, h) (was, k) =
    let side = same_side (leasts_of t.ranges) t.matrices matrix axis other more s u h k in
    let sizes = held_same (length (leasts_of t.ranges)) s u h.first.negative.held k.first.negative.held side.1 in
    ap (λ n. NegativeDim n matrix axis s) is ∙ same_told number matrix other axis more s u (same_matrix (leasts_of t.ranges) t.matrices matrix axis other more s u h k) side.0 sizes ∙ ap (λ n. NegativeDim n other more u) (sym was)
one_negative number t (NegativeDim i matrix axis s) _ h k = absurd k
one_negative number t _ f h k = absurd h
