use Rattle.pb_lexer.proofs.LexemeLemmas.{lexemes}
use Rattle.pb_parser.proofs.Handed.{within_limits}
use Rattle.pb_front.proofs.laws.a_tree_that_is_read_is_within_limits.Goals as goal

pub returns : goal.returns
returns c text tree read = within_limits read.tokens tree (lexemes text read.tokens read.spelled) read.accepted
