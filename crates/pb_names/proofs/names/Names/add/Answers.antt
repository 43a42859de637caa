use Rattle.std.specs.Str.{bytes_eq}
use Rattle.pb_names.proofs.NamesLemmas.{add_shown}
use Rattle.pb_names.proofs.names.Names.add.Goals as goal

pub returns : goal.returns
returns g c =
    add_shown (λ k. k.now) bytes_eq c.args.name c.args.what c.self.inside.map.entries c.insert.new.self.entries c.args.self.now c.requires c.in_ok-insert.ensures.entries c.self.view_is
