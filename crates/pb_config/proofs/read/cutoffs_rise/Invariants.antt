use Rattle.std.proofs.Common.{◌≡◌, map, length}
use Rattle.pb_program.specs.Configs.{is_rising}
use Rattle.pb_config.specs.Reading.{cutoffs_rise}
use Rattle.pb_config.proofs.read.cutoffs_rise.Given as goal

abbrev pub invariant-loop-rest : goal.invariant-loop-rest
invariant-loop-rest l = is_rising (map (λ e. e.0) l.rest) ≡ cutoffs_rise l.selector

abbrev pub decreases-loop-rest : goal.decreases-loop-rest
decreases-loop-rest l = length l.rest
