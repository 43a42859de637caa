-- Lemmas of the crates below, handed on.
pub use Rattle.pb_lexer.proofs.LexemeLemmas.{lexemes}
pub use Rattle.pb_parser.proofs.Handed.{within_limits}
