use Rattle.pb_eval.proofs.TrapLemmas.{cell_alone}
use Rattle.pb_eval.proofs.traps.cell_trap.Goals as goal

pub returns-clause-trap : goal.returns-clause-trap
returns-clause-trap g c = cell_alone _ _ _ _ c.requires.wide c.requires.tall c.place.ensures c.trap.ensures.trap
