use Rattle.std.proofs.Common.{◌∙◌, sym, subst}
use Rattle.pb_linear.proofs.SizesLemmas.{in_range_top}
use Rattle.pb_linear.specs.Sizes.{leasts_of, sizes_of}
use Rattle.pb_program.specs.Trees.{bare_prog, bare_transform}
use Rattle.pb_recursion.proofs.ShapeLemmas.{map_get}
use Rattle.pb_cost.specs.Linked.{CanBeBegun}
use Rattle.pb_cost.proofs.BlankLemmas.{are_given, ins}
use Rattle.pb_cost.proofs.LimitLemmas.{begun, callable_at, has_range}
use Rattle.pb_cost.proofs.at_size.cost_at.Goals as goal

pub given_sides-requires-clause-transform : goal.given_sides-requires-clause-transform
given_sides-requires-clause-transform c = callable_at c.args.a.now c.prog.ensures.accepted c.args.t c.args.transform.now c.requires.there

pub given_sides-requires-clause-sizes : goal.given_sides-requires-clause-sizes
given_sides-requires-clause-sizes c = in_range_top (leasts_of c.args.transform.now.ranges) c.args.s.now c.requires.range

pub call_cost-requires-clause-sizes : goal.call_cost-requires-clause-sizes
call_cost-requires-clause-sizes c =
    let v = c.args.a.now in
    has_range v c.prog.ensures.accepted c.args.c.now c.requires.valid c.args.t (bare_transform c.args.transform.now) (map_get bare_transform v.program.transforms c.args.t c.args.transform.now c.requires.there) (sizes_of c.args.s.now) c.requires.range

pub has_few_links-requires-clause-begun : goal.has_few_links-requires-clause-begun
has_few_links-requires-clause-begun c =
    let v = c.args.a.now in
    let accepted = c.prog.ensures.accepted in
    let x = bare_transform c.args.transform.now in
    let there = map_get bare_transform v.program.transforms c.args.t c.args.transform.now c.requires.there in
    let sizes = sizes_of c.args.s.now in
    let sides = c.deref-2.ensures.value ∙ c.in_ok-given.ensures in
    let enters = c.given_matrices_can_enter.ensures.enters (bare_prog v.program) c.args.t x sizes (ins v accepted c.args.c.now c.requires.valid c.args.t x there sizes c.requires.range) accepted.well_formed accepted.sound there c.requires.range (are_given v accepted c.args.c.now c.requires.valid c.args.t x there sizes c.requires.range) in
    subst (CanBeBegun v c.args.c.now c.args.t) (sym sides)
    (begun v accepted c.args.c.now c.requires.valid c.args.t x there sizes c.requires.range enters (sym c.in_ok-has_few_counts.ensures ∙ c.if-not-branch.false))
