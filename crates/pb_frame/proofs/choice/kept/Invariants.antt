use Rattle.std.proofs.Common.{◌≡◌, take}
use Rattle.std.specs.Prelude.{filter}
use Rattle.pb_program.specs.Configs.{is_in}
use Rattle.pb_frame.proofs.choice.kept.Given as goal

abbrev pub invariant-loop-rule : goal.invariant-loop-rule
invariant-loop-rule l = l.able.items ≡ filter (is_in l.rules) (take l.rule-index l.met)
