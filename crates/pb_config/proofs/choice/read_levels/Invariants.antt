use Rattle.std.proofs.Common.{◌-◌}
use Rattle.pb_config.specs.Choices.{levels_of}
use Rattle.pb_config.proofs.ChoiceLemmas.{Levels}
use Rattle.pb_config.proofs.choice.read_levels.Given as goal

abbrev pub invariant-loop : goal.invariant-loop
invariant-loop l = Levels l.levels.items (7 - l.counter) l.rest (levels_of 7 l.text)
