use Rattle.std.proofs.Common.{◌<◌, ◌^◌, length, subst, sym}
use Rattle.pb_linear.specs.Sizes.{sizes_of}
use Rattle.pb_check.specs.Ranked.{cell}
use Rattle.pb_check.proofs.AcceptedLemmas.{covered, few, some_segment}
use Rattle.pb_check.proofs.PlacedLemmas.{found_some, held_in, sizes_top}
use Rattle.pb_program.specs.Trees.{bare_prog}
use Rattle.pb_check.proofs.accepted.Accepted.covered.Goals as goal

pub segment_of-requires-clause-few : goal.segment_of-requires-clause-few
segment_of-requires-clause-few c =
    subst (λ ns. length ns < 2 ^ 32) (sym c.nodes.ensures) (few c.args.self.now c.found.ensures.accepted c.args.t c.found.result.now c.found.ensures.there (sizes_of c.args.s.now) (cell c.args.matrix c.args.x c.args.y) c.requires)

pub segment_of-requires-clause-sizes : goal.segment_of-requires-clause-sizes
segment_of-requires-clause-sizes c = sizes_top (bare_prog c.args.self.now.program) c.args.t c.args.s.now (cell c.args.matrix c.args.x c.args.y) c.requires

pub unwrap-requires : goal.unwrap-requires
unwrap-requires c =
    found_some c.segment_of.result (c.found.result.now).nodes (sizes_of c.args.s.now) (cell c.args.matrix c.args.x c.args.y) c.nodes.result.now c.nodes.ensures c.segment_of.ensures.none
    (some_segment c.args.self.now c.found.ensures.accepted c.args.t c.found.result.now c.found.ensures.there (sizes_of c.args.s.now) (cell c.args.matrix c.args.x c.args.y) c.requires)

pub returns : goal.returns
returns c =
    let place = cell c.args.matrix c.args.x c.args.y in
    let held = held_in c.segment_of.result c.unwrap.result c.nodes.result.now c.found.result.now.nodes (sizes_of c.args.s.now) place c.unwrap.ensures c.nodes.ensures c.segment_of.ensures.found in
    covered c.args.self.now c.found.ensures.accepted c.args.t c.found.result.now c.found.ensures.there (sizes_of c.args.s.now) place c.requires c.unwrap.result held
