use Rattle.std.proofs.Common.{◌∙◌}
use Rattle.std.specs.Str.{bytes_eq}
use Rattle.pb_names.proofs.NamesLemmas.{find_shown}
use Rattle.pb_names.proofs.names.Names.find.Goals as goal

pub returns : goal.returns
returns g c = find_shown (λ k. k.now) (bytes_eq c.args.name.now) c.self.inside.map.entries c.args.self.now c.copied.result (c.copied.ensures ∙ c.get.ensures.value) c.self.view_is
