use Rattle.pb_lexer.proofs.EndLemmas.{one_list}
use Rattle.pb_lexer.proofs.laws.a_text_has_one_list.Goals as goal

pub returns : goal.returns
returns c = one_list
