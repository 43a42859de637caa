use Rattle.std.proofs.Common.{◌≡◌, drop}
use Rattle.pb_program.specs.Configs.{chosen}
use Rattle.pb_config.proofs.chosen.choose.Given as goal

abbrev pub invariant-loop-entry : goal.invariant-loop-entry
invariant-loop-entry l =
    chosen (record { entries = drop l.entry-index l.c.entries }) (record { transform = l.t; matrix = l.matrix; set = l.set }) l.size
    ≡ chosen l.c (record { transform = l.t; matrix = l.matrix; set = l.set }) l.size
