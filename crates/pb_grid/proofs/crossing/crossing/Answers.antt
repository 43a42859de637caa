use Rattle.std.proofs.Common.{◌∙◌, ◌+◌, ap, sym, arith}
use Rattle.std.specs.List.{find}
use Rattle.pb_linear.specs.Sizes.{leasts_of}
use Rattle.pb_grid.specs.Crossings.{crossing}
use Rattle.pb_grid.specs.Cuts.{crosses}
use Rattle.pb_grid.proofs.ListLemmas.{pair_end, pair_here, pair_later, rest_all}
use Rattle.pb_grid.proofs.crossing.crossing.Goals as goal

pub returns-in-Some-clause-found : goal.returns-in-Some-clause-found
unfolding crossing
returns-in-Some-clause-found c =
    sym (c.loop-place.invariant ∙ pair_here (crosses (leasts_of c.args.ranges.now)) c.args.cuts.now c.loop-place.place c.index-cuts-place.result (omega arith) c.index-cuts-place.is c.in-Some.second (sym (c.in-Some.ensures.found ∙ ap (find (crosses (leasts_of c.args.ranges.now) c.index-cuts-place.result)) (rest_all c.args.cuts.now (c.loop-place.place + 1)))))

pub loop-place-preserved : goal.loop-place-preserved
unfolding crossing
loop-place-preserved c =
    c.loop-place.invariant ∙ pair_later (crosses (leasts_of c.args.ranges.now)) c.args.cuts.now c.loop-place.place c.index-cuts-place.result (omega arith) c.index-cuts-place.is (sym (c.in_default.ensures.found ∙ ap (find (crosses (leasts_of c.args.ranges.now) c.index-cuts-place.result)) (rest_all c.args.cuts.now (c.loop-place.place + 1))))

pub returns-clause-found : goal.returns-clause-found
unfolding crossing
returns-clause-found c = sym (c.loop-place.invariant ∙ pair_end (crosses (leasts_of c.args.ranges.now)) c.args.cuts.now c.loop-place.place (omega arith))
