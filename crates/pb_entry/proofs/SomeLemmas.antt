-- Inputs have an answer.
use Rattle.std.proofs.Common.{◌≡◌, ◌≢◌, ◌∙◌, refl, sym, ap, subst, inl, inr, ⊎_elim, ◌⊎◌, ℕ, ◌<◌, ◌≤◌, List, length, get_or, ℤ, pos, negsuc, ◌≤ℤ◌, arith}
use Rattle.std.specs.List.{All, zip}
use Rattle.std.proofs.lemmas.Bool.{cases_eq, cases_lt}
use Rattle.std.proofs.lemmas.Int.{ints}
use Rattle.std.proofs.lemmas.List.{get_or-take, get_or_past, length-take}
use Rattle.std.proofs.lemmas.Option.{get_or_from_slice_get, slice_get_within}
use Rattle.std.proofs.lemmas.Slice.Zip.{get_or-zip, length-zip}
use Rattle.pb_base.proofs.WayLemmas.{Decided, decided-and, decided-not, first-below}
use Rattle.pb_linear.specs.Numbers.{Numbers, exact_value}
use Rattle.pb_linear.specs.Sizes.{InRange, leasts_of}
use Rattle.pb_linear.specs.declared.sizes.TheConstants.{SIZE_TOP}
use Rattle.pb_linear.proofs.SizesLemmas.{InRange-from}
use Rattle.pb_matrix.specs.Value.{MatrixValue}
use Rattle.pb_program.specs.Forms.{DeclValue}
use Rattle.pb_program.specs.Trees.{ProgTransform}
use Rattle.pb_program.specs.WellFormed.{AreRanges}
use Rattle.pb_check.proofs.FirstLemmas.{some_first}
use Rattle.pb_entry.specs.Fitting.{AreBound, AreUnfit, FailsDims, FailsSides, FirstOut, Given, HasDims, HasOtherDims, HasOtherSide, HasSides, IsEnterable, IsIn, IsNatural, IsOther, given}
use Rattle.pb_entry.specs.declared.refusal.RunRefusal.{RunRefusal}
use Rattle.pb_entry.specs.declared.refusal.RunRefusal.TheVariants.{BadShape, SizeOutOfRange}
use Rattle.pb_entry.proofs.BoundLemmas.{value_there, values_there}
use Rattle.pb_entry.proofs.SideLemmas.{natural_sides}

some_dims : (gs : List Given) → All HasDims gs ⊎ ((e : RunRefusal) × FailsDims gs e)
some_dims gs = ⊎_elim inl
    (λ f. inr (f.fails.0, record { place = f.place; item = f.item; there = f.there; fails = f.fails.1; earlier = f.earlier }))
    (some_first HasDims (λ number g. (e : RunRefusal) × HasOtherDims number g e) gs (λ number g at. ⊎_elim inl (λ ne. inr (BadShape number 2 g.0.dims g.1.shape.dims, (refl, refl, refl, refl, λ same. ne (sym same)))) (cases_eq g.1.shape.dims g.0.dims)))

decided_le : (m n : ℕ) → Decided (m ≤ n)
decided_le m n = ⊎_elim (λ (h : n < m). inr (λ le. omega arith)) (λ h. inl h) (cases_lt n m)

-- all sizes are in range, or there is a first that isn't
some_range : (t : ProgTransform) (sizes : List ℕ) → AreRanges (length t.sizes) t.ranges → length sizes ≡ length t.sizes → InRange (leasts_of t.ranges) sizes ⊎ ((e : RunRefusal) × FirstOut t.ranges sizes e)
some_range t sizes ranges counted =
    let r = t.ranges in
    let full : r.count ≤ length r.least = ⊎_elim (λ (h : length r.least < r.count). let low = ranges.low (length r.least) (omega (arith, ranges.counted)) in let past = get_or_past r.least (length r.least) 0 (omega arith) in omega (arith, low.0, past)) (λ h. h) (cases_lt (length r.least) r.count) in
    let long : length (leasts_of r) ≡ r.count = omega (arith, length-take r.count r.least) in
    let inside : (k : ℕ) → Decided (IsIn r k (get_or sizes k 0)) = λ k. decided-and (decided_le (get_or r.least k 0) (get_or sizes k 0)) (decided_le (get_or sizes k 0) SIZE_TOP) in
    let yes_in : (k : ℕ) → (IsIn r k (get_or sizes k 0) → ⊥) → ⊥ → IsIn r k (get_or sizes k 0) = λ k h f. absurd f in
    ⊎_elim
    (λ f. inr (SizeOutOfRange f.0 (get_or sizes f.0 0), record { there = f.1; value = refl; out = f.2; earlier = λ j before. ⊎_elim (λ h. h) (λ h. absurd (f.3 j before h)) (inside j) }))
    (λ none. inl (InRange-from (leasts_of r) sizes (omega (arith, long, counted, ranges.counted)) (λ k below.
    let there : k < r.count = omega (arith, long) in
    let fits : IsIn r k (get_or sizes k 0) = ⊎_elim (λ h. h) (λ h. absurd (none k there h)) (inside k) in
    (omega (arith, fits.0, get_or-take r.count r.least k 0 there), fits.1))))
    (first-below (λ k. IsIn r k (get_or sizes k 0) → ⊥) (λ k. decided-not (inside k)) r.count)

-- a side has its value, or differs
some_side : (number axis : ℕ) (form : Numbers) (sizes : List ℕ) (side : ℕ) (z : ℤ) → z ≡ exact_value form sizes → pos 0 ≤ℤ z → (pos side ≡ exact_value form sizes) ⊎ ((e : RunRefusal) × IsOther number axis form sizes side e)
some_side number axis form sizes side (pos n) is natural = ⊎_elim
    (λ (same : n ≡ side). inl (ap (λ k. pos k) (sym same) ∙ is))
    (λ (ne : n ≢ side). inr (BadShape number axis n side, (refl, refl, record { wanted_is = is; found_is = refl; other = ne })))
    (cases_eq n side)
some_side number axis form sizes side (negsuc n) is natural = absurd (omega (arith, ints, natural))

some_sides : (sizes : List ℕ) (number : ℕ) (g : Given) → IsNatural sizes g.0 → HasSides sizes g ⊎ ((e : RunRefusal) × HasOtherSide sizes number g e)
some_sides sizes number g natural = ⊎_elim
    (λ wide. ⊎_elim (λ tall. inl (wide, tall)) (λ h. inr (h.0, inr (wide, h.1))) (some_side number 1 g.0.h sizes g.1.shape.h (exact_value g.0.h sizes) refl natural.1))
    (λ h. inr (h.0, inl h.1))
    (some_side number 0 g.0.w sizes g.1.shape.w (exact_value g.0.w sizes) refl natural.0)

all_sides : (sizes : List ℕ) (matrices : List DeclValue) (inputs : List MatrixValue) → All (IsNatural sizes) matrices → All (HasSides sizes) (zip matrices inputs) ⊎ ((e : RunRefusal) × FailsSides (zip matrices inputs) sizes e)
all_sides sizes matrices inputs natural =
    let gs = zip matrices inputs in
    ⊎_elim inl
    (λ f. inr (f.fails.0, record { place = f.place; item = f.item; there = f.there; fails = f.fails.1; earlier = f.earlier }))
    (some_first (HasSides sizes) (λ number g. (e : RunRefusal) × HasOtherSide sizes number g e) gs (λ number g at.
    let within = slice_get_within gs number g at in
    let long = length-zip matrices inputs in
    let pair = sym (get_or_from_slice_get gs number g g at) ∙ get_or-zip matrices inputs number g (omega (arith, within, long)) (omega (arith, within, long)) in
    let fits : IsNatural sizes (get_or matrices number g.0) = natural number g.0 (omega (arith, within, long)) in
    some_sides sizes number g (subst (IsNatural sizes) (ap (λ p. p.0) (sym pair)) fits)))

pub some_answer : (t : ProgTransform) (inputs : List MatrixValue) → IsEnterable t → length inputs ≡ t.inputs → ((sizes : List ℕ) × AreBound t inputs sizes) ⊎ ((e : RunRefusal) × AreUnfit t inputs e)
some_answer t inputs e count =
    let gs = given t inputs in
    let parts = e.well_formed.parts in
    let enough : length inputs ≤ length t.matrices = omega (arith, parts, count) in
    let values = values_there gs (length t.sizes) (λ k below. value_there t.matrices inputs k enough (rw count (e.well_formed.bound k below))) in
    ⊎_elim
    (λ dims. ⊎_elim
    (λ range. ⊎_elim
    (λ sides. inl (values.0, record { dims = dims; values = values.1; range = range; sides = sides }))
    (λ off. inr (off.0, inr (dims, record { sizes = values.0; values = values.1; why = inr (range, off.1) })))
    (all_sides values.0 t.matrices inputs (natural_sides t values.0 e range)))
    (λ out. inr (out.0, inr (dims, record { sizes = values.0; values = values.1; why = inl out.1 })))
    (some_range t values.0 e.well_formed.ranges values.1.counted))
    (λ f. inr (f.0, inl f.1))
    (some_dims gs)
