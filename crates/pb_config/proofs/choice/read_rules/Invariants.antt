use Rattle.std.proofs.Common.{◌-◌}
use Rattle.pb_config.specs.Choices.{rules_next}
use Rattle.pb_config.proofs.ChoiceLemmas.{Rules}
use Rattle.pb_config.proofs.choice.read_rules.Given as goal

abbrev pub invariant-loop : goal.invariant-loop
invariant-loop l = Rules l.rules.items (32 - l.counter) l.rest (rules_next 32 l.text)
