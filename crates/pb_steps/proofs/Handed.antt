-- Lemmas of the crates below, handed on.
pub use Rattle.pb_counts.proofs.Handed.{HasCell, HaveSides, IsJobOf, IsLaid, IsSituated, Reaches, Stands, before_first, before_right, box_there, copied_use, depth_deep, greatest_append, in_row, in_steps, inst, instance, job_use, made, ms, natural_le, of_job, of_made, origin, reaches_both, read_cell, run, run_laid, run_made, run_only, run_right, run_tally, seats_placed, seats_reach, seats_within, side_below, spot_place, total_append, total_is}
pub use Rattle.pb_counts.proofs.RunLemmas.{counted_run}
