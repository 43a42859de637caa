use Rattle.std.proofs.Common.{◌∙◌}
use Rattle.pb_eval.proofs.SumLemmas.{longer_by_one, steps_more_of}
use Rattle.pb_eval.proofs.sum.Sum.go_on.Goals as goal

pub loop-next-preserved : goal.loop-next-preserved
loop-next-preserved c = record {
  count = longer_by_one c.loop-next.self.rest c.put.new.self.rest _ c.loop-next.next-index c.loop-next.invariant.count c.put.ensures.rest;
  steps = steps_more_of c.args.cells.now c.args.rest.now c.loop-next.next-index _ c.loop-next.self.rest c.put.new.self.rest c.in-Some.moving c.loop-next-test.true c.loop-next.invariant.count c.loop-next.invariant.steps c.in-Some.ensures c.put.ensures.rest;
  first = c.put.ensures.first ∙ c.loop-next.invariant.first;
}
