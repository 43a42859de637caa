-- Lemmas of `pb_check`, handed on.
pub use Rattle.pb_check.proofs.FirstLemmas.{all_at}
