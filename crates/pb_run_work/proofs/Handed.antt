-- Lemmas of the crates below, handed on.
pub use Rattle.pb_steps.proofs.Handed.{total_is}
pub use Rattle.pb_steps.proofs.unrolling.Unrolled.TheSendSync.{the_sync as unrolled_sync}
