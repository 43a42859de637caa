use Rattle.std.proofs.Common.{◌≡◌, drop}
use Rattle.pb_program.specs.Plans.{slot_of, all_some}
use Rattle.pb_names.proofs.PlanLemmas.{before}
use Rattle.pb_names.proofs.plan.targets.Given as goal

abbrev pub invariant-loop-next : goal.invariant-loop-next
invariant-loop-next l = before l.found.items (all_some (λ n. slot_of n.what) (drop l.next-index l.names)) ≡ all_some (λ n. slot_of n.what) l.names
