-- Lemmas of `pb_calls`, handed on.
pub use Rattle.pb_calls.proofs.InsideLemmas.{output_within, reads_inside, view_within}
pub use Rattle.pb_calls.proofs.SameLemmas.{guards_anywhere}
pub use Rattle.pb_calls.proofs.SettledLemmas.{call_settled}
pub use Rattle.pb_calls.proofs.SideLemmas.{segment_below}
