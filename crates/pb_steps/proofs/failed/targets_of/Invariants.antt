use Rattle.std.proofs.Common.{◌≡◌, map, take}
use Rattle.pb_program.specs.Trees.{bare_rule}
use Rattle.pb_counts.specs.Handed.{target_of}
use Rattle.pb_steps.proofs.failed.targets_of.Given as goal

abbrev pub invariant-loop-slot : goal.invariant-loop-slot
invariant-loop-slot l = l.targets.items ≡ map (target_of (bare_rule l.rule)) (take l.slot-index l.slots)
