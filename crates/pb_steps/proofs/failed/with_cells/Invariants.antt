use Rattle.std.proofs.Common.{◌≡◌, take}
use Rattle.std.specs.Prelude.{filter}
use Rattle.pb_counts.specs.Handed.{seat_has_cells}
use Rattle.pb_steps.proofs.failed.with_cells.Given as goal

abbrev pub invariant-loop-seat : goal.invariant-loop-seat
invariant-loop-seat l = l.found.items ≡ filter seat_has_cells (take l.seat-index l.seats)
