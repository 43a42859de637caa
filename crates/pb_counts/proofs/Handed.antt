-- Lemmas of `pb_runs`, handed on.
pub use Rattle.pb_runs.proofs.BaseLemmas.{HaveSides, Reaches, Stands, before_first, before_right, reaches_both, total_append, total_is}
pub use Rattle.pb_runs.proofs.BoxLemmas.{IsSituated, box_there, inst, natural_le, whole_applies}
pub use Rattle.pb_runs.proofs.CountLemmas.{in_row}
pub use Rattle.pb_runs.proofs.FailedLemmas.{seats_placed, seats_reach, seats_within}
pub use Rattle.pb_runs.proofs.LinkLemmas.{in_steps}
pub use Rattle.pb_runs.proofs.OriginLemmas.{IsJobOf}
pub use Rattle.pb_runs.proofs.OwnLemmas.{side_below}
pub use Rattle.pb_runs.proofs.RunLemmas.{depth_deep, made, ms, run, run_laid, run_made, run_only, run_right, run_tally}
pub use Rattle.pb_runs.proofs.SeatLemmas.{HasCell}
pub use Rattle.pb_runs.proofs.SoundLemmas.{IsLaid}
pub use Rattle.pb_runs.proofs.SpotLemmas.{spot_place}
pub use Rattle.pb_runs.proofs.TallyLemmas.{greatest_append}
pub use Rattle.pb_runs.proofs.UseLemmas.{copied_use, instance, job_use, of_job, of_made, origin, read_cell}
