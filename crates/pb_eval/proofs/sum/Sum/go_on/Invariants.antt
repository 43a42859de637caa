use Rattle.std.proofs.Common.{◌≡◌, length}
use Rattle.pb_eval.proofs.SumLemmas.{AreFirstSteps}
use Rattle.pb_eval.proofs.sum.Sum.go_on.Given as goal

abbrev pub invariant-loop-next : goal.invariant-loop-next
invariant-loop-next l = record {
  count : length l.self.rest ≡ l.next-index;
  steps : AreFirstSteps l.cells l.rest l.self.rest l.next-index;
  first : l.self.first ≡ l.initial.self.first;
}
