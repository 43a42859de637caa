use Rattle.std.proofs.Common.{◌∙◌}
use Rattle.pb_config.proofs.EntryLemmas.{found}
use Rattle.pb_config.proofs.entries.Entries.has.Goals as goal

pub returns : goal.returns
returns c = rw (← c.self.view_is) (c.contains_key.ensures ∙ found c.args.key.now c.self.inside.map.entries)
