use Rattle.pb_top.proofs.LawLemmas.{completes}
use Rattle.pb_top.proofs.laws.faultless_calls_answer.Goals as goal

pub returns : goal.returns
returns c = completes
