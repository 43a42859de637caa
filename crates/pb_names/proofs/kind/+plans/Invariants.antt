use Rattle.std.proofs.Common.{◌≡◌, drop}
use Rattle.std.specs.List.{list_any}
use Rattle.pb_names.specs.Kinds.{plans_in}
use Rattle.pb_names.proofs.kind.+plans.Given as goal

abbrev pub invariant-some_plans-loop-next : goal.invariant-some_plans-loop-next
invariant-some_plans-loop-next l = list_any plans_in (drop l.next-index l.ss) ≡ list_any plans_in l.ss
