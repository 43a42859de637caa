-- Lemmas of the crates below, handed on.
pub use Rattle.pb_run_plan.proofs.PlanLemmas.{is_plan, may_read}
pub use Rattle.pb_steps.proofs.Handed.{run_tally}
