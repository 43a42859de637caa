use Rattle.std.proofs.Common.{◌≡◌, ◌+◌, drop}
use Rattle.std.specs.List.{prefix_len}
use Rattle.pb_config.specs.Runs.{in_run}
use Rattle.pb_config.proofs.parts.run_length.Given as goal

abbrev pub invariant-loop-i : goal.invariant-loop-i
invariant-loop-i l = prefix_len (in_run l.run) l.text ≡ l.i + prefix_len (in_run l.run) (drop l.i l.text)
