use Rattle.std.proofs.Common.{◌≡◌, drop, map}
use Rattle.std.specs.List.{filter}
use Rattle.std.specs.Prelude.{nat_le}
use Rattle.pb_program.specs.Configs.{last_of, picked}
use Rattle.pb_program.proofs.config.Selector.pick.Given as goal

abbrev pub invariant-loop-cutoff : goal.invariant-loop-cutoff
invariant-loop-cutoff l =
    last_of l.rule (map (λ e. e.1) (filter (λ e. nat_le e.0 l.size) (drop l.cutoff-index l.self.levels))) ≡ picked l.self l.size
