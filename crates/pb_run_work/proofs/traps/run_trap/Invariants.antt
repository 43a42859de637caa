use Rattle.std.proofs.Common.{drop}
use Rattle.std.specs.List.{flat_map}
use Rattle.pb_run_work.specs.Traps.{Wrote}
use Rattle.pb_views.specs.Seats.{seat_cells}
use Rattle.pb_run_work.proofs.traps.run_trap.Given as goal

abbrev pub invariant-loop-seat : goal.invariant-loop-seat
invariant-loop-seat g l = Wrote l.fn.trap (flat_map seat_cells l.fn.seats) (flat_map seat_cells (drop l.seat-index l.fn.seats)) (g.C.CellReader.turn l.fn.port) (g.C.CellReader.turn l.port)
