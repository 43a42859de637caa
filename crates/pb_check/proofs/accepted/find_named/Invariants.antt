use Rattle.pb_check.proofs.FindLemmas.{IsNotAmong}
use Rattle.pb_check.proofs.accepted.find_named.Given as goal

abbrev pub invariant-loop-t : goal.invariant-loop-t
invariant-loop-t l = IsNotAmong l.transforms l.name l.t
