-- Definitions of the crates below, handed on: who stands on steps need not name them.
pub use Rattle.pb_counts.specs.Handed.{Below, Copied, Failed, Instance, IsEntered, IsPlaced, MayUse, Met, Player, Step, Target, Unroll, after_call, after_matrices, after_matrix, before, below_at, by_copy, by_job, by_trap, copied_stops, copies_of, copy_step, failed, found_for, from_corner, given_back, greatest_side, instance_of, is_part_of, job_done, jobs_done, jobs_matrices, matrices_by, no_plans, no_target, no_unrolled, nothing_met, number_at, outcome_of, output_parts, output_rect, own_sides, parts_of, places_of, plan_done, plan_played, played, rule_done, run_matrices, seat_has_cells, seat_in, seats_from, source_number, stop_number, target_of, targets_of, through, total, trap_step, unroll_one, unrolled_by, unrolled_of, unrolled_run, view_seat, whole_seat}
unfoldable pub use Rattle.pb_counts.specs.Handed.{cells_of, matrices_at, unroll}
pub use Rattle.pb_counts.specs.Limits.{AreFew, AreMany, OfRun}
pub use Rattle.pb_counts.specs.Sized.{counter_at}
unfoldable pub use Rattle.pb_counts.specs.Sized.{sized_count}
pub use Rattle.pb_counts.specs.declared.count.TheConstants.{MOST_CALLS}
