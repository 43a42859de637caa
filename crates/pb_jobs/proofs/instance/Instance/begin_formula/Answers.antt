use Rattle.pb_jobs.proofs.CellLemmas.{least_room}
use Rattle.pb_jobs.proofs.instance.Instance.begin_formula.Goals as goal

pub begin_cell-requires : goal.begin_cell-requires
begin_cell-requires c = record { room = least_room c.args.self.now c.requires.ready c.args.rule c.requires.below c.requires.one c.args.scratch.now c.requires.room }
