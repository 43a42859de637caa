use Rattle.std.proofs.Common.{drop, arith}
use Rattle.std.specs.List.{flat_map, range_with_len}
use Rattle.pb_views.specs.Seats.{down, seat_cells}
use Rattle.pb_run_work.specs.Traps.{seat_row}
use Rattle.pb_run_work.proofs.TrapLemmas.{ended, in_range_at, piece_begins, piece_more, piece_numbers, rows_ended}
use Rattle.pb_run_work.proofs.traps.trap_seat.Goals as goal

pub trap_row-requires-clause-numbers : goal.trap_row-requires-clause-numbers
trap_row-requires-clause-numbers g c =
    let at = in_range_at (down c.args.seat.now) c.loop-y.y (omega (arith, c.loop-y-test.true, c.down-y-end.ensures)) in
    piece_numbers (seat_row c.args.seat.now) (range_with_len 0 (down c.args.seat.now)) c.loop-y.y c.loop-y.y at c.requires.numbers

pub trap_row-requires-clause-left : goal.trap_row-requires-clause-left
trap_row-requires-clause-left g c =
    let at = in_range_at (down c.args.seat.now) c.loop-y.y (omega (arith, c.loop-y-test.true, c.down-y-end.ensures)) in
    piece_begins c.args.trap (seat_row c.args.seat.now) (range_with_len 0 (down c.args.seat.now)) c.loop-y.y c.loop-y.y at (g.C.CellReader.turn c.args.port.now) (g.C.CellReader.turn c.loop-y.port) c.loop-y.invariant c.requires.left

pub loop-y-preserved : goal.loop-y-preserved
loop-y-preserved g c =
    let at = in_range_at (down c.args.seat.now) c.loop-y.y (omega (arith, c.loop-y-test.true, c.down-y-end.ensures)) in
    piece_more c.args.trap (seat_row c.args.seat.now) (range_with_len 0 (down c.args.seat.now)) c.loop-y.y c.loop-y.y at (g.C.CellReader.turn c.args.port.now) (g.C.CellReader.turn c.loop-y.port) c.loop-y.invariant
    (g.C.CellReader.turn c.trap_row.new.port) c.trap_row.ensures

pub returns : goal.returns
returns g c =
    let s = c.args.seat.now in
    ended c.args.trap (seat_cells s) (flat_map (seat_row s) (drop c.loop-y.y (range_with_len 0 (down s)))) (g.C.CellReader.turn c.args.port.now) (g.C.CellReader.turn c.loop-y.port) c.loop-y.invariant
    (rows_ended s c.loop-y.y (omega (arith, c.loop-y-test.false, c.down-y-end.ensures)))
