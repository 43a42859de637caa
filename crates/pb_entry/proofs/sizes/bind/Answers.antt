use Rattle.std.proofs.Common.{◌∙◌, ◌<◌, ◌≤◌, ap, subst, length, sym, take, arith}
use Rattle.std.specs.List.{All, zip}
use Rattle.pb_linear.specs.Sizes.{InRange, leasts_of, sizes_of}
use Rattle.pb_linear.proofs.SizesLemmas.{in_range_top}
use Rattle.pb_program.specs.Trees.{bare_transform}
use Rattle.pb_program.specs.WellFormed.{IsBound}
use Rattle.pb_entry.specs.Fitting.{HasValue, IsNatural}
use Rattle.pb_entry.proofs.BoundLemmas.{value_there}
use Rattle.pb_entry.proofs.SideLemmas.{natural_sides}
use Rattle.pb_entry.proofs.sizes.bind.Goals as goal

pub values-sizes-requires-clause-given : goal.values-sizes-requires-clause-given
values-sizes-requires-clause-given c size below =
    let t = c.args.transform.now in
    let fits = c.requires.transform.well_formed in
    let same = c.deref-2.ensures.value ∙ ap (λ x. x.matrices) c.transform.view_is in
    let enough : length c.args.inputs.now ≤ length t.matrices = omega (arith, fits.parts, c.requires.count) in
    let there : size < length t.sizes = omega (arith, below, fits.ranges.counted, ap (λ x. x.ranges.count) c.transform.view_is) in
    let bound = subst (λ n. IsBound (take n t.matrices) size) (sym c.requires.count) (fits.bound size there) in
    let value = value_there t.matrices c.args.inputs.now size enough bound in
    (value.0, subst (λ ms. HasValue (zip ms c.args.inputs.now) size value.0) (sym same) value.1)

pub check_sides-requires-clause-top : goal.check_sides-requires-clause-top
check_sides-requires-clause-top c = in_range_top (leasts_of c.transform.inside.ranges) c.values-sizes.result c.in_ok-check_range.ensures.fits

pub check_sides-requires-clause-natural : goal.check_sides-requires-clause-natural
check_sides-requires-clause-natural c =
    let sizes = sizes_of c.values-sizes.result in
    let same = c.deref-3.ensures.value ∙ ap (λ x. x.matrices) c.transform.view_is in
    let range = subst (λ r. InRange (leasts_of r) sizes) (ap (λ x. x.ranges) c.transform.view_is) c.in_ok-check_range.ensures.fits in
    subst (All (IsNatural sizes)) (sym same) (natural_sides (bare_transform c.args.transform.now) sizes c.requires.transform range)
