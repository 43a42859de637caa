use Rattle.std.proofs.Common.{[]}
use Rattle.pb_names.specs.Transforms.{next_minimum, minimum_faults}
use Rattle.pb_resolve.proofs.TurnLemmas.{Passed}
use Rattle.pb_resolve.proofs.scope.Scope.minimums.Given as goal

abbrev pub invariant-loop-next : goal.invariant-loop-next
invariant-loop-next l = Passed next_minimum (minimum_faults l.self) [] l.known l.minimums l.next-index
