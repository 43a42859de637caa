use Rattle.std.proofs.Common.{◌≡◌, drop}
use Rattle.pb_program.specs.Exprs.{bare}
use Rattle.pb_program.specs.Plans.{argument_slot, all_some}
use Rattle.pb_names.proofs.PlanLemmas.{before}
use Rattle.pb_names.proofs.plan.arguments.Given as goal

abbrev pub invariant-loop-next : goal.invariant-loop-next
invariant-loop-next l = before l.found.items (all_some (λ e. argument_slot (bare e)) (drop l.next-index l.xs)) ≡ all_some (λ e. argument_slot (bare e)) l.xs
