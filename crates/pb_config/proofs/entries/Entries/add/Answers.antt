use Rattle.std.proofs.Common.{ap, map, ◌∙◌}
use Rattle.pb_config.specs.Keys.{entry}
use Rattle.pb_config.proofs.EntryLemmas.{added}
use Rattle.pb_config.proofs.entries.Entries.add.Goals as goal

pub returns : goal.returns
returns c =
    rw (← c.self.view_is) (ap (map entry) c.in_ok-insert.ensures.entries ∙ added c.args.key c.args.selector c.self.inside.map.entries (rw (← c.self.view_is) at c.requires))
