use Rattle.pb_words.proofs.LineLemmas.{one_reading}
use Rattle.pb_words.proofs.laws.a_line_has_one_reading.Goals as goal

pub returns : goal.returns
returns c = one_reading
