use Rattle.std.proofs.Common.{get_or, drop, arith}
use Rattle.std.specs.List.{flat_map}
use Rattle.std.proofs.lemmas.Option.{slice_get-get_or}
use Rattle.pb_views.specs.Seats.{no_seat, seat_cells}
use Rattle.pb_run_work.proofs.TrapLemmas.{all_written, ended, piece_begins, piece_more, piece_numbers, seats_ended, whole}
use Rattle.pb_run_work.proofs.traps.run_trap.Goals as goal

pub trap_seat-requires-clause-numbers : goal.trap_seat-requires-clause-numbers
trap_seat-requires-clause-numbers g c =
    let at = slice_get-get_or c.args.seats.now c.loop-seat.seat-index no_seat c.loop-seat-test.true in
    piece_numbers seat_cells c.args.seats.now c.loop-seat.seat-index (get_or c.args.seats.now c.loop-seat.seat-index no_seat) at c.requires.numbers

pub trap_seat-requires-clause-left : goal.trap_seat-requires-clause-left
trap_seat-requires-clause-left g c =
    let at = slice_get-get_or c.args.seats.now c.loop-seat.seat-index no_seat c.loop-seat-test.true in
    piece_begins c.args.trap seat_cells c.args.seats.now c.loop-seat.seat-index (get_or c.args.seats.now c.loop-seat.seat-index no_seat) at (g.C.CellReader.turn c.args.port.now) (g.C.CellReader.turn c.loop-seat.port) c.loop-seat.invariant
    (whole c.args.trap (flat_map seat_cells c.args.seats.now) (g.C.CellReader.turn c.args.port.now) c.requires.left)

pub loop-seat-preserved : goal.loop-seat-preserved
loop-seat-preserved g c =
    let at = slice_get-get_or c.args.seats.now c.loop-seat.seat-index no_seat c.loop-seat-test.true in
    piece_more c.args.trap seat_cells c.args.seats.now c.loop-seat.seat-index (get_or c.args.seats.now c.loop-seat.seat-index no_seat) at (g.C.CellReader.turn c.args.port.now) (g.C.CellReader.turn c.loop-seat.port) c.loop-seat.invariant
    (g.C.CellReader.turn c.trap_seat.new.port) c.trap_seat.ensures

pub returns : goal.returns
returns g c =
    let seats = c.args.seats.now in
    let start = g.C.CellReader.turn c.args.port.now in
    let turn = g.C.CellReader.turn c.loop-seat.port in
    record {
      written = all_written c.args.trap (flat_map seat_cells seats) start turn
          (ended c.args.trap (flat_map seat_cells seats) (flat_map seat_cells (drop c.loop-seat.seat-index seats)) start turn c.loop-seat.invariant (seats_ended seats c.loop-seat.seat-index (omega (arith, c.loop-seat-test.false))))
          c.requires.left;
    }
