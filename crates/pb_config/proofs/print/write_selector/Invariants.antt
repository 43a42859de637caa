use Rattle.std.proofs.Common.{◌≡◌, ◌++◌, drop}
use Rattle.std.specs.List.{flat_map}
use Rattle.pb_config.specs.Texts.{level_text, selector_text}
use Rattle.pb_config.proofs.print.write_selector.Given as goal

abbrev pub invariant-loop-cutoff : goal.invariant-loop-cutoff
invariant-loop-cutoff l = l.text.items ++ flat_map level_text (drop l.cutoff-index l.selector.levels) ≡ l.fn.text.items ++ selector_text l.selector
