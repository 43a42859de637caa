use Rattle.std.proofs.Common.{◌≡◌, ◌++◌, drop}
use Rattle.std.specs.List.{flat_map}
use Rattle.pb_program.specs.Trees.{bare_prog}
use Rattle.pb_config.specs.Texts.{entry_text, config_text}
use Rattle.pb_config.proofs.print.print_config.Given as goal

abbrev pub invariant-loop-entry : goal.invariant-loop-entry
invariant-loop-entry l = l.text.items ++ flat_map (entry_text (bare_prog l.p)) (drop l.entry-index l.c.entries) ≡ config_text (bare_prog l.p) l.c
