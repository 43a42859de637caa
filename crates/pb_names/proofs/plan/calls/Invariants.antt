use Rattle.std.proofs.Common.{◌≡◌, drop, filter}
use Rattle.pb_program.specs.Plans.{all_some}
use Rattle.pb_names.specs.Slots.{call_in, is_call_in}
use Rattle.pb_names.proofs.PlanLemmas.{before}
use Rattle.pb_names.proofs.plan.calls.Given as goal

abbrev pub invariant-loop-next : goal.invariant-loop-next
invariant-loop-next l = before l.found.items (all_some call_in (filter is_call_in (drop l.next-index l.ss))) ≡ all_some call_in (filter is_call_in l.ss)
