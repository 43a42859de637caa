use Rattle.std.proofs.Common.{length}
use Rattle.pb_lexer.proofs.LexemeLemmas.{lexemes, rise}
use Rattle.pb_names.proofs.ToldPrograms.{least_told}
use Rattle.pb_top.proofs.laws.the_least_fault_of_names_is_told.Goals as goal

pub returns : goal.returns
returns c text tree e read refused =
    least_told tree read.tokens 0 (length text) e read.accepted.0 (lexemes text read.tokens read.spelled) (rise text read.tokens read.spelled) refused
