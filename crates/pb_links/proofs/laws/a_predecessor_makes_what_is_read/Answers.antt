use Rattle.pb_links.proofs.LawLemmas.{before-shares}
use Rattle.pb_links.proofs.laws.a_predecessor_makes_what_is_read.Goals as goal

pub returns : goal.returns
returns c tasks t u = before-shares tasks t u
