use Rattle.std.proofs.Common.{sym, subst}
use Rattle.pb_steps.specs.Stands.{AreSmall}
use Rattle.pb_steps.proofs.ListLemmas.{ok_then}
use Rattle.pb_steps.proofs.names.Names.give.Goals as goal

pub returns-clause-small : goal.returns-clause-small
returns-clause-small c = ok_then c.put_first.result c.put_first.ensures.small (λ f h. f (subst AreSmall (sym c.self.view_is) h))
