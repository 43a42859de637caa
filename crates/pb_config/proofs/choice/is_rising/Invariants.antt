use Rattle.std.proofs.Common.{◌≡◌, length}
use Rattle.pb_program.specs.Configs.{is_rising}
use Rattle.pb_config.proofs.choice.is_rising.Given as goal

abbrev pub invariant-loop-rest : goal.invariant-loop-rest
invariant-loop-rest l = is_rising l.rest ≡ is_rising l.numbers

abbrev pub decreases-loop-rest : goal.decreases-loop-rest
decreases-loop-rest l = length l.rest
