use Rattle.std.proofs.Common.{rules}
use Rattle.pb_names.specs.Views.{cond_faults}
use Rattle.pb_resolve.proofs.FaultLemmas.{fails_next}
use Rattle.pb_resolve.proofs.scope.Scope.conditions.Goals as goal

pub returns-in_err-condition-clause-refused : goal.returns-in_err-condition-clause-refused
returns-in_err-condition-clause-refused c =
    let h = fails_next (cond_faults c.args.self.now) c.args.conds.now c.loop-next.next-index c.next-item.result c.in_err-condition.field-0.0 c.loop-next.invariant.1
    c.in_err-condition.ensures.refused c.loop-next-test.true c.next-item.is in search (rules, h)
