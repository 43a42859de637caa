use Rattle.pb_names.proofs.NamesLemmas.{take_shown}
use Rattle.pb_names.proofs.names.Names.forget.Goals as goal

pub returns : goal.returns
returns g c = take_shown (λ k. k.now) c.args.count c.self.inside.map.entries c.truncate.new.self.entries c.args.self.now c.truncate.ensures.entries c.self.view_is
