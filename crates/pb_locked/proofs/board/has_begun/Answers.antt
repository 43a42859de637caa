use Rattle.pb_locked.proofs.CompleteLemmas.{begun-none, begun-some}
use Rattle.pb_locked.proofs.board.has_begun.Goals as goal

pub returns-in-Some : goal.returns-in-Some
returns-in-Some c = begun-some c.args.at.runner c.args.at.number c.begun_by.result c.begun_by.ensures c.args.hand c.in-Some.beginner c.in-Some.is

pub returns-in-None : goal.returns-in-None
returns-in-None c = begun-none c.args.at.runner c.args.at.number c.begun_by.result c.begun_by.ensures c.args.hand c.in-None.is
