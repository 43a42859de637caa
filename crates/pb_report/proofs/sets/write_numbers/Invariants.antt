use Rattle.std.proofs.Common.{◌≡◌, ◌++◌, map, length}
use Rattle.std.specs.List.{join_with_byte}
use Rattle.std.specs.Prelude.{decimal}
use Rattle.pb_report.proofs.sets.write_numbers.Given as goal

abbrev pub invariant-loop-rest : goal.invariant-loop-rest
invariant-loop-rest l = l.text.items ++ join_with_byte 44 (map decimal l.rest) ≡ l.fn.text.items ++ join_with_byte 44 (map decimal l.set)

abbrev pub decreases-loop-rest : goal.decreases-loop-rest
decreases-loop-rest l = length l.rest
