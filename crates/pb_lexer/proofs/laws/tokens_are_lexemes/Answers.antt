use Rattle.pb_lexer.proofs.LexemeLemmas.{lexemes, rise}
use Rattle.pb_lexer.proofs.laws.tokens_are_lexemes.Goals as goal

pub returns : goal.returns
returns c = record { lexemes = lexemes; places = rise }
