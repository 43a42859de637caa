use Rattle.std.proofs.Common.{rules, []}
use Rattle.pb_names.specs.Transforms.{next_minimum, minimum_faults}
use Rattle.pb_resolve.proofs.TurnLemmas.{pass_fails}
use Rattle.pb_resolve.proofs.scope.Scope.minimums.Goals as goal

pub returns-in_err-minimum-clause-refused : goal.returns-in_err-minimum-clause-refused
returns-in_err-minimum-clause-refused c =
    let h = pass_fails next_minimum (minimum_faults c.args.self.now) [] c.loop-next.known c.args.minimums.now c.loop-next.next-index c.loop-next.invariant
    c.next-item.result c.loop-next-test.true c.next-item.is c.in_err-minimum.field-0.0 c.in_err-minimum.ensures.refused in search (rules, h)
