use Rattle.pb_top.proofs.AcceptLemmas.{checked_stays}
use Rattle.pb_top.proofs.laws.a_checked_text_stays.Goals as goal

pub returns : goal.returns
returns c = checked_stays
