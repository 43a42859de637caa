-- Lemmas of `pb_grammar`, handed on.
pub use Rattle.pb_grammar.proofs.Exact.{no_bad_program, no_large_program, not_both, one_item, one_place, one_tree, some_answer}
pub use Rattle.pb_grammar.proofs.Within.{within_limits}
