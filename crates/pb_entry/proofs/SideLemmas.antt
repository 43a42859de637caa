-- The sides of matrices at sizes in range.
use Rattle.std.proofs.Common.{◌≡◌, refl, ap, ℕ, ◌==◌, Bool, true, false, List, length, get_or, Some, slice_get, pos, ◌*ℤ◌, ◌≤ℤ◌, arith}
use Rattle.std.specs.List.{All}
use Rattle.std.proofs.lemmas.Bool.{eqb-true}
use Rattle.std.proofs.lemmas.Int.{ints}
use Rattle.std.proofs.lemmas.List.{get_or_default}
use Rattle.pb_linear.specs.Numbers.{exact_value}
use Rattle.pb_linear.specs.Sizes.{InRange, leasts_of}
use Rattle.pb_linear.proofs.Values.{exact_value-multiple, exact_value-with_constant}
use Rattle.pb_program.specs.Forms.{DeclValue, constant_numbers}
use Rattle.pb_program.specs.Trees.{ProgTransform}
use Rattle.pb_program.specs.WellFormed.{IsDecl}
use Rattle.pb_region.specs.Dims.{HasNoNegative, IsNeverNegative, sides}
use Rattle.pb_region.proofs.NegativeLemmas.{all_at}
use Rattle.pb_region.proofs.SmallLemmas.{at_place}
use Rattle.pb_check.proofs.OrderLemmas.{at_item}
use Rattle.pb_entry.specs.Fitting.{IsEnterable, IsNatural}

one_is : (sizes : List ℕ) → exact_value (constant_numbers (pos 1)) sizes ≡ pos 1
one_is sizes =
    let n = constant_numbers (pos 0) in
    let none : exact_value n sizes ≡ pos 0 *ℤ exact_value n sizes = exact_value-multiple (pos 0) n sizes in
    omega (arith, ints, exact_value-with_constant (pos 1) n sizes, none)

tall : (n : ℕ) (d : DeclValue) (leasts sizes : List ℕ) (flat : Bool) → (d.dims == 1) ≡ flat → IsDecl n d → HasNoNegative leasts d → InRange leasts sizes → pos 0 ≤ℤ exact_value d.h sizes
tall n d leasts sizes true e h none range = omega (arith, ints, ap (λ k. exact_value k sizes) (h.flat (eqb-true d.dims 1 e)), one_is sizes)
tall n d leasts sizes false e h none range = let there : slice_get (sides d) 1 ≡ Some d.h = rw e refl in all_at (IsNeverNegative leasts) (sides d) 1 d.h none.sides there sizes range

-- no side is negative
pub natural_sides : (t : ProgTransform) (sizes : List ℕ) → IsEnterable t → InRange (leasts_of t.ranges) sizes → All (IsNatural sizes) t.matrices
natural_sides t sizes e range k d below =
    let decl = get_or t.matrices k d in
    let leasts = leasts_of t.ranges in
    let there : slice_get t.matrices k ≡ Some decl = at_item t.matrices k decl below (get_or_default t.matrices k d decl below) in
    let none = all_at (HasNoNegative leasts) t.matrices k decl e.sides.each there in
    let fits = at_place (IsDecl (length t.sizes)) t.matrices k decl e.well_formed.matrices there in
    (all_at (IsNeverNegative leasts) (sides decl) 0 decl.w none.sides refl sizes range, tall (length t.sizes) decl leasts sizes (decl.dims == 1) refl fits none range)
