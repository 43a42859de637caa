use Rattle.std.proofs.Common.{◌∙◌, sym}
use Rattle.pb_locked.proofs.JobLemmas.{value-right}
use Rattle.pb_locked.proofs.ports.wait_for.Goals as goal

pub returns-in-Some-found : goal.returns-in-Some-found
returns-in-Some-found g c = value-right g.N.NamesWork.plan c.deref.result.now c.args.cell c.in-Some-found.outcome (sym c.in-Some-found.is ∙ c.value-found.ensures)
