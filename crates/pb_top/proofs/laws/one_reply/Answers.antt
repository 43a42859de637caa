use Rattle.pb_top.proofs.LawLemmas.{one_reply_lem}
use Rattle.pb_top.proofs.SomeLemmas.{some_reply}
use Rattle.pb_top.proofs.laws.one_reply.Goals as goal

pub returns-clause-some : goal.returns-clause-some
returns-clause-some c = some_reply

pub returns-clause-one : goal.returns-clause-one
returns-clause-one c = one_reply_lem
