use Rattle.std.proofs.Common.{◌≡◌, map, take}
use Rattle.std.specs.Prelude.{filter}
use Rattle.pb_region.specs.Reads.{is_made, read_of, read_value}
use Rattle.pb_region.proofs.reads.rule_reads.Given as goal

abbrev pub invariant-loop-read : goal.invariant-loop-read
invariant-loop-read l = map read_value l.boxes.items ≡ map (read_of l.transform.matrices l.r l.wide) (filter (is_made l.transform.inputs) (take l.read-index l.rule.reads))
