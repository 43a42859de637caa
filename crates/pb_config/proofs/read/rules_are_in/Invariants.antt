use Rattle.std.proofs.Common.{◌≡◌, drop}
use Rattle.std.specs.List.{list_all}
use Rattle.pb_program.specs.Configs.{is_in}
use Rattle.pb_config.specs.Reading.{rules_are_in}
use Rattle.pb_config.proofs.read.rules_are_in.Given as goal

abbrev pub invariant-loop-level : goal.invariant-loop-level
invariant-loop-level l = list_all (λ e. is_in l.set e.1) (drop l.level-index l.selector.levels) ≡ rules_are_in l.set l.selector
