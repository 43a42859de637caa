use Rattle.std.proofs.Common.{◌≡◌, ◌+◌, ◌≤◌, map, length}
use Rattle.std.specs.Str.Lines.{lines}
use Rattle.pb_program.specs.Trees.{bare_transform}
use Rattle.pb_config.specs.Reading.{lines_read, config_read}
use Rattle.pb_config.proofs.read.read_lines.Given as goal

abbrev pub invariant-loop-rest : goal.invariant-loop-rest
invariant-loop-rest l =
    (lines_read (map bare_transform l.p) l.entries (l.line + 1) (lines l.rest) ≡ config_read (map bare_transform l.p) l.bytes)
    × (l.line + length l.rest ≤ length l.bytes)

abbrev pub decreases-loop-rest : goal.decreases-loop-rest
decreases-loop-rest l = length l.rest
