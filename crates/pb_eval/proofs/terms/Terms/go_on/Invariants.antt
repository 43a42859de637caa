use Rattle.std.proofs.Common.{◌≡◌, length, take}
use Rattle.pb_eval.specs.Terms.{AreSteps}
use Rattle.pb_eval.proofs.terms.Terms.go_on.Given as goal

abbrev pub invariant-loop-next : goal.invariant-loop-next
invariant-loop-next l = record {
  count : length l.self.rest ≡ l.next-index;
  steps : AreSteps (take l.next-index l.rest) l.self.rest;
  first : l.self.first ≡ l.initial.self.first;
}
