use Rattle.std.proofs.Common.{drop}
use Rattle.std.specs.List.{flat_map, range_with_len}
use Rattle.pb_run_work.specs.Traps.{Wrote, seat_row}
use Rattle.pb_views.specs.Seats.{down, seat_cells}
use Rattle.pb_run_work.proofs.traps.trap_seat.Given as goal

abbrev pub invariant-loop-y : goal.invariant-loop-y
invariant-loop-y g l = Wrote l.fn.trap (seat_cells l.fn.seat) (flat_map (seat_row l.fn.seat) (drop l.y (range_with_len 0 (down l.fn.seat)))) (g.C.CellReader.turn l.fn.port) (g.C.CellReader.turn l.port)
