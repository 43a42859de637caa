use Rattle.pb_lexer.proofs.EndLemmas.{tokens_or_fault, one_fault, no_fault}
use Rattle.pb_lexer.proofs.laws.a_text_has_one_fault.Goals as goal

pub returns : goal.returns
returns c = record { some = tokens_or_fault; one = one_fault; no_list = λ text at tokens bad one. no_fault text tokens at one bad }
