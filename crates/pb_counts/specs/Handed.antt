-- Definitions of `pb_runs`, handed on: who stands on counts need not name it.
pub use Rattle.pb_runs.specs.Laws.{IsEntered, MayUse}
pub use Rattle.pb_runs.specs.Matrices.{Below, below_at, jobs_matrices, matrices_by, run_matrices}
unfoldable pub use Rattle.pb_runs.specs.Matrices.{matrices_at}
pub use Rattle.pb_runs.specs.Placed.{IsPlaced, before, greatest_side, outcome_of, total}
pub use Rattle.pb_runs.specs.Right.{no_plans, source_number}
pub use Rattle.pb_runs.specs.Steps.{Copied, Failed, Instance, Step, Target, by_copy, by_job, by_trap, copied_stops, from_corner, number_at, parts_of, places_of, seat_in, stop_number, through}
unfoldable pub use Rattle.pb_runs.specs.Steps.{cells_of}
pub use Rattle.pb_runs.specs.Unrolled.{Done, Met, Played, Player, Unroll, Unrolled, after_call, after_matrices, after_matrix, copies_of, copy_step, deeper_unroll, failed, found_for, given_back, instance_of, is_part_of, job_done, jobs_done, no_target, no_unrolled, nothing_met, output_parts, output_rect, own_sides, plan_done, plan_played, played, rule_done, seat_has_cells, seats_from, target_of, targets_of, trap_step, unroll_one, unrolled_at, unrolled_by, unrolled_of, unrolled_run, view_seat, whole_seat}
unfoldable pub use Rattle.pb_runs.specs.Unrolled.{unroll}
