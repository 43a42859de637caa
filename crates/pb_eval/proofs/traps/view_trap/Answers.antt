use Rattle.std.proofs.Common.{◌∙◌}
use Rattle.pb_eval.proofs.TrapLemmas.{rows_end, rows_none, rows_some}
use Rattle.pb_eval.proofs.traps.view_trap.Goals as goal

pub returns-in-Some-clause-trap : goal.returns-in-Some-clause-trap
returns-in-Some-clause-trap g c = rows_some _ _ _ _ c.loop-y-test.true c.in-Some.ensures.trap ∙ c.loop-y.invariant.trap

pub loop-y-preserved : goal.loop-y-preserved
loop-y-preserved g c = record {
  trap = rows_none _ _ _ c.loop-y-test.true c.in-None.ensures.trap ∙ c.loop-y.invariant.trap;
  same_reference = c.row_trap.ensures.same_reference ∙ c.loop-y.invariant.same_reference;
}

pub returns-clause-trap : goal.returns-clause-trap
returns-clause-trap g c = rows_end _ _ _ c.loop-y-test.false ∙ c.loop-y.invariant.trap
