use Rattle.pb_words.proofs.LineLemmas.{inside_or_not}
use Rattle.pb_words.proofs.laws.words_are_inside_or_not.Goals as goal

pub returns : goal.returns
returns c = inside_or_not
