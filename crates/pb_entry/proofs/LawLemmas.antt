-- Inputs have one answer at most.
use Rattle.std.proofs.Common.{◌≡◌, ◌≢◌, ◌∙◌, refl, sym, ap, subst, inl, inr, ⊎_elim, ◌⊎◌, ℕ, ◌<◌, ◌≤◌, List, length, get_or, pos, arith}
use Rattle.std.specs.List.{All}
use Rattle.std.proofs.lemmas.Bool.{cases_lt, cases_order}
use Rattle.std.proofs.lemmas.Int.{ints}
use Rattle.std.proofs.lemmas.List.{get_or-take, get_or_past, length-take}
use Rattle.pb_linear.specs.Numbers.{Numbers, exact_value}
use Rattle.pb_linear.specs.Sizes.{InRange, leasts_of}
use Rattle.pb_linear.specs.declared.sizes.Ranges.{Ranges}
use Rattle.pb_linear.proofs.SizesLemmas.{InRange-at, InRange-length}
use Rattle.pb_matrix.specs.Value.{MatrixValue}
use Rattle.pb_program.specs.Trees.{ProgTransform}
use Rattle.pb_check.proofs.FirstLemmas.{none_first, same_item, same_place}
use Rattle.pb_entry.specs.Fitting.{AreBound, AreUnfit, FailsDims, FailsLater, FailsSides, FirstOut, Given, HasDims, HasOtherDims, HasOtherSide, HasSides, IsFirstOut, IsIn, IsOther, given}
use Rattle.pb_entry.specs.declared.refusal.RunRefusal.{RunRefusal}
use Rattle.pb_entry.specs.declared.refusal.RunRefusal.TheVariants.{BadShape, Memory, SizeOutOfRange, TooLarge, UnknownTransform, WrongCount}
use Rattle.pb_entry.proofs.BoundLemmas.{values_once}

-- ---- dimensions
dims_is : (number : ℕ) (g : Given) (e : RunRefusal) → HasOtherDims number g e → (e ≡ BadShape number 2 g.0.dims g.1.shape.dims) × (g.0.dims ≢ g.1.shape.dims)
dims_is number g (BadShape m a w f) h = ((λ i. BadShape (h.0 i) (h.1 i) (h.2 i) (h.3 i)), λ same. h.4 (h.2 ∙ same ∙ sym h.3))
dims_is number g UnknownTransform h = absurd h
dims_is number g (WrongCount w f) h = absurd h
dims_is number g (SizeOutOfRange k v) h = absurd h
dims_is number g (TooLarge what) h = absurd h
dims_is number g Memory h = absurd h

pub dims_apart : (e : RunRefusal) (number : ℕ) (g : Given) → HasDims g → HasOtherDims number g e → ⊥
dims_apart e number g fits h = (dims_is number g e h).1 (sym fits)

dims_once : (gs : List Given) (e f : RunRefusal) → FailsDims gs e → FailsDims gs f → e ≡ f
dims_once gs e f a b =
    let P : RunRefusal → ℕ → Given → Type 0 = λ r number g. HasOtherDims number g r in
    let place = same_place HasDims (P e) (P f) (dims_apart e) (dims_apart f) gs a b in
    let item = same_item HasDims (P e) (P f) gs a b place in
    (dims_is a.place a.item e a.fails).0 ∙ (λ i. BadShape (place i) 2 (item i).0.dims (item i).1.shape.dims) ∙ sym (dims_is b.place b.item f b.fails).0

-- ---- ranges
pub in_each : (r : Ranges) (sizes : List ℕ) → InRange (leasts_of r) sizes → (k : ℕ) → k < r.count → IsIn r k (get_or sizes k 0)
in_each r sizes range k below = ⊎_elim
    (λ (h : k < length (leasts_of r)). let at = InRange-at (leasts_of r) sizes range k h in (omega (arith, at.0, get_or-take r.count r.least k 0 below), at.1))
    (λ (h : length (leasts_of r) ≤ k).
    let long = length-take r.count r.least in
    let least : get_or r.least k 0 ≡ 0 = get_or_past r.least k 0 (omega (arith, h, long)) in
    let size : get_or sizes k 0 ≡ 0 = get_or_past sizes k 0 (omega (arith, h, InRange-length (leasts_of r) sizes range)) in
    (omega (arith, least), omega (arith, size)))
    (cases_lt k (length (leasts_of r)))

out_is : (r : Ranges) (sizes : List ℕ) (e : RunRefusal) → FirstOut r sizes e → (k : ℕ) × (e ≡ SizeOutOfRange k (get_or sizes k 0)) × IsFirstOut r sizes k (get_or sizes k 0)
out_is r sizes (SizeOutOfRange k v) h = (k, ap (λ w. SizeOutOfRange k w) h.value, record { there = h.there; value = refl; out = λ fits. h.out (subst (IsIn r k) (sym h.value) fits); earlier = h.earlier })
out_is r sizes (BadShape m a w f) h = absurd h
out_is r sizes UnknownTransform h = absurd h
out_is r sizes (WrongCount w f) h = absurd h
out_is r sizes (TooLarge what) h = absurd h
out_is r sizes Memory h = absurd h

out_once : (r : Ranges) (sizes : List ℕ) (e f : RunRefusal) → FirstOut r sizes e → FirstOut r sizes f → e ≡ f
out_once r sizes e f a b =
    let j = out_is r sizes e a in
    let k = out_is r sizes f b in
    let same : j.0 ≡ k.0 = ⊎_elim (λ s. s) (λ o. ⊎_elim (λ before. absurd (j.2.out (k.2.earlier j.0 before))) (λ after. absurd (k.2.out (j.2.earlier k.0 after))) o) (cases_order j.0 k.0) in
    j.1 ∙ ap (λ i. SizeOutOfRange i (get_or sizes i 0)) same ∙ sym k.1

range_apart : (r : Ranges) (sizes : List ℕ) (e : RunRefusal) → InRange (leasts_of r) sizes → FirstOut r sizes e → ⊥
range_apart r sizes e range out = let k = out_is r sizes e out in k.2.out (in_each r sizes range k.0 k.2.there)

-- ---- sides
pub other_is : (number axis : ℕ) (form : Numbers) (sizes : List ℕ) (side : ℕ) (e : RunRefusal) → IsOther number axis form sizes side e → (wanted : ℕ) × (e ≡ BadShape number axis wanted side) × (pos wanted ≡ exact_value form sizes) × (wanted ≢ side)
other_is number axis form sizes side (BadShape m a w f) h = (w, (λ i. BadShape (h.0 i) (h.1 i) w (h.2.found_is i)), h.2.wanted_is, λ same. h.2.other (same ∙ sym h.2.found_is))
other_is number axis form sizes side UnknownTransform h = absurd h
other_is number axis form sizes side (WrongCount w f) h = absurd h
other_is number axis form sizes side (SizeOutOfRange k v) h = absurd h
other_is number axis form sizes side (TooLarge what) h = absurd h
other_is number axis form sizes side Memory h = absurd h

other_apart : (number axis : ℕ) (form : Numbers) (sizes : List ℕ) (side : ℕ) (e : RunRefusal) → pos side ≡ exact_value form sizes → IsOther number axis form sizes side e → ⊥
other_apart number axis form sizes side e is h = let o = other_is number axis form sizes side e h in o.3 (omega (arith, ints, o.2, is))

other_once : (number axis : ℕ) (form : Numbers) (sizes : List ℕ) (side : ℕ) (e f : RunRefusal) → IsOther number axis form sizes side e → IsOther number axis form sizes side f → e ≡ f
other_once number axis form sizes side e f a b =
    let x = other_is number axis form sizes side e a in
    let y = other_is number axis form sizes side f b in
    let same : x.0 ≡ y.0 = omega (arith, ints, x.2, y.2) in
    x.1 ∙ ap (λ w. BadShape number axis w side) same ∙ sym y.1

module _ (sizes : List ℕ) where
  pub sides_apart : (e : RunRefusal) (number : ℕ) (g : Given) → HasSides sizes g → HasOtherSide sizes number g e → ⊥
  sides_apart e number g fits (inl h) = other_apart number 0 g.0.w sizes g.1.shape.w e fits.0 h
  sides_apart e number g fits (inr h) = other_apart number 1 g.0.h sizes g.1.shape.h e fits.1 h.1

  side_once : (number : ℕ) (g : Given) (e f : RunRefusal) → HasOtherSide sizes number g e → HasOtherSide sizes number g f → e ≡ f
  side_once number g e f (inl a) (inl b) = other_once number 0 g.0.w sizes g.1.shape.w e f a b
  side_once number g e f (inl a) (inr b) = absurd (other_apart number 0 g.0.w sizes g.1.shape.w e b.0 a)
  side_once number g e f (inr a) (inl b) = absurd (other_apart number 0 g.0.w sizes g.1.shape.w f a.0 b)
  side_once number g e f (inr a) (inr b) = other_once number 1 g.0.h sizes g.1.shape.h e f a.1 b.1

  sides_once : (gs : List Given) (e f : RunRefusal) → FailsSides gs sizes e → FailsSides gs sizes f → e ≡ f
  sides_once gs e f a b =
      let P : RunRefusal → ℕ → Given → Type 0 = λ r number g. HasOtherSide sizes number g r in
      let place = same_place (HasSides sizes) (P e) (P f) (sides_apart e) (sides_apart f) gs a b in
      let item = same_item (HasSides sizes) (P e) (P f) gs a b place in
      side_once b.place b.item e f (subst (λ g. HasOtherSide sizes b.place g e) item (subst (λ n. HasOtherSide sizes n a.item e) place a.fails)) b.fails

-- ---- the whole
module _ (t : ProgTransform) (inputs : List MatrixValue) where
  pub one_list : (sizes others : List ℕ) → AreBound t inputs sizes → AreBound t inputs others → sizes ≡ others
  one_list sizes others a b = values_once (given t inputs) (length t.sizes) sizes others a.values b.values

  later_at : (e : RunRefusal) (f : FailsLater t inputs e) (sizes : List ℕ) → f.sizes ≡ sizes → FirstOut t.ranges sizes e ⊎ (InRange (leasts_of t.ranges) sizes × FailsSides (given t inputs) sizes e)
  later_at e f sizes same = subst (λ s. FirstOut t.ranges s e ⊎ (InRange (leasts_of t.ranges) s × FailsSides (given t inputs) s e)) same f.why

  later_once : (sizes : List ℕ) (e f : RunRefusal) → FirstOut t.ranges sizes e ⊎ (InRange (leasts_of t.ranges) sizes × FailsSides (given t inputs) sizes e) → FirstOut t.ranges sizes f ⊎ (InRange (leasts_of t.ranges) sizes × FailsSides (given t inputs) sizes f) → e ≡ f
  later_once sizes e f (inl a) (inl b) = out_once t.ranges sizes e f a b
  later_once sizes e f (inl a) (inr b) = absurd (range_apart t.ranges sizes e b.0 a)
  later_once sizes e f (inr a) (inl b) = absurd (range_apart t.ranges sizes f a.0 b)
  later_once sizes e f (inr a) (inr b) = sides_once sizes (given t inputs) e f a.1 b.1

  no_dims : (e : RunRefusal) → All HasDims (given t inputs) → FailsDims (given t inputs) e → ⊥
  no_dims e all f = none_first HasDims (λ number g. HasOtherDims number g e) (dims_apart e) (given t inputs) all f

  pub one_refusal : (e f : RunRefusal) → AreUnfit t inputs e → AreUnfit t inputs f → e ≡ f
  one_refusal e f (inl a) (inl b) = dims_once (given t inputs) e f a b
  one_refusal e f (inl a) (inr b) = absurd (no_dims e b.0 a)
  one_refusal e f (inr a) (inl b) = absurd (no_dims f a.0 b)
  one_refusal e f (inr a) (inr b) =
      let same = values_once (given t inputs) (length t.sizes) a.1.sizes b.1.sizes a.1.values b.1.values in
      later_once b.1.sizes e f (later_at e a.1 b.1.sizes same) b.1.why

  pub not_both : (sizes : List ℕ) (e : RunRefusal) → AreBound t inputs sizes → AreUnfit t inputs e → ⊥
  not_both sizes e a (inl b) = no_dims e a.dims b
  not_both sizes e a (inr b) =
      let same = values_once (given t inputs) (length t.sizes) b.1.sizes sizes b.1.values a.values in
      ⊎_elim (λ out. range_apart t.ranges sizes e a.range out) (λ h. none_first (HasSides sizes) (λ number g. HasOtherSide sizes number g e) (sides_apart sizes e) (given t inputs) a.sides h.1) (later_at e b.1 sizes same)
