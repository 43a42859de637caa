use Rattle.std.proofs.Common.{◌≡◌, ◌+◌, drop}
use Rattle.std.specs.List.{position_or_len}
use Rattle.pb_program.specs.Configs.{same_site}
use Rattle.pb_config.proofs.extension.place_of.Given as goal

abbrev pub invariant-loop-k : goal.invariant-loop-k
invariant-loop-k l =
    position_or_len (λ e. same_site l.site e.site) l.entries ≡ l.k + position_or_len (λ e. same_site l.site e.site) (drop l.k l.entries)
