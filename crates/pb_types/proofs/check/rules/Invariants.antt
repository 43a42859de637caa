use Rattle.std.proofs.Common.{◌≡◌, drop, map}
use Rattle.std.specs.List.{flat_map}
use Rattle.pb_program.specs.Trees.{bare_transform}
use Rattle.pb_types.specs.Least.{least, least_of}
use Rattle.pb_types.specs.Working.{rule_in}
use Rattle.pb_types.proofs.check.rules.Given as goal

abbrev pub invariant-loop-next : goal.invariant-loop-next
invariant-loop-next l =
    least l.found (least_of (flat_map (rule_in (map bare_transform l.transforms) l.matrices) (drop l.next-index l.rules))) ≡ least_of (flat_map (rule_in (map bare_transform l.transforms) l.matrices) l.rules)
