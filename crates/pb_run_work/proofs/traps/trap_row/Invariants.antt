use Rattle.std.proofs.Common.{drop}
use Rattle.pb_run_work.specs.Traps.{Wrote, seat_row}
use Rattle.pb_run_work.proofs.traps.trap_row.Given as goal

abbrev pub invariant-loop-x : goal.invariant-loop-x
invariant-loop-x g l = Wrote l.fn.trap (seat_row l.fn.seat l.fn.y) (drop l.x (seat_row l.fn.seat l.fn.y)) (g.C.CellReader.turn l.fn.port) (g.C.CellReader.turn l.port)
