use Rattle.std.proofs.Common.{◌∙◌}
use Rattle.pb_eval.proofs.TrapLemmas.{row_end, row_number, row_trapped}
use Rattle.pb_eval.proofs.traps.row_trap.Goals as goal

pub returns-in-Some-clause-trap : goal.returns-in-Some-clause-trap
returns-in-Some-clause-trap g c = row_trapped _ _ _ _ _ _ _ c.loop-x-test.true c.place.ensures c.trap.ensures.trap c.in-Some.is ∙ c.loop-x.invariant.trap

pub loop-x-preserved : goal.loop-x-preserved
loop-x-preserved g c = record {
  trap = row_number _ _ _ _ _ _ c.loop-x-test.true c.place.ensures c.trap.ensures.trap c.in-None.is ∙ c.loop-x.invariant.trap;
  same_reference = c.trap.ensures.same_reference ∙ c.loop-x.invariant.same_reference;
}

pub returns-clause-trap : goal.returns-clause-trap
returns-clause-trap g c = row_end _ _ _ _ c.loop-x-test.false ∙ c.loop-x.invariant.trap
