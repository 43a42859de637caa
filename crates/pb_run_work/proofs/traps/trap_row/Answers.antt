use Rattle.std.proofs.Common.{◌<◌, ◌^◌, drop, arith}
use Rattle.pb_views.specs.Seats.{cell_at}
use Rattle.pb_jobs.proofs.ListLemmas.{all_at}
use Rattle.pb_run_work.specs.Traps.{seat_row}
use Rattle.pb_run_work.proofs.TrapLemmas.{ended, may_write, one_more, row_at, row_ended}
use Rattle.pb_run_work.proofs.traps.trap_row.Goals as goal

pub cell_at-requires : goal.cell_at-requires
cell_at-requires g c =
    all_at (λ n. n < 2 ^ 64) (seat_row c.args.seat.now c.args.y) c.loop-x.x (cell_at c.args.seat.now c.loop-x.x c.args.y) c.requires.numbers
    (row_at c.args.seat.now c.args.y c.loop-x.x (omega (arith, c.loop-x-test.true, c.across-x-end.ensures)))

pub write-requires : goal.write-requires
write-requires g c =
    let at = row_at c.args.seat.now c.args.y c.loop-x.x (omega (arith, c.loop-x-test.true, c.across-x-end.ensures)) in
    may_write c.args.trap (seat_row c.args.seat.now c.args.y) c.loop-x.x (cell_at c.args.seat.now c.loop-x.x c.args.y) (g.C.CellReader.turn c.args.port.now) (g.C.CellReader.turn c.loop-x.port) c.loop-x.invariant at c.cell_at.result c.cell_at.ensures c.requires.left

pub loop-x-preserved : goal.loop-x-preserved
loop-x-preserved g c =
    let at = row_at c.args.seat.now c.args.y c.loop-x.x (omega (arith, c.loop-x-test.true, c.across-x-end.ensures)) in
    one_more c.args.trap (seat_row c.args.seat.now c.args.y) c.loop-x.x (cell_at c.args.seat.now c.loop-x.x c.args.y) (g.C.CellReader.turn c.args.port.now) (g.C.CellReader.turn c.loop-x.port) c.loop-x.invariant at c.cell_at.result c.cell_at.ensures
    (g.C.CellReader.turn c.write.new.self) c.write.ensures

pub returns : goal.returns
returns g c =
    let row = seat_row c.args.seat.now c.args.y in
    ended c.args.trap row (drop c.loop-x.x row) (g.C.CellReader.turn c.args.port.now) (g.C.CellReader.turn c.loop-x.port) c.loop-x.invariant
    (row_ended c.args.seat.now c.args.y c.loop-x.x (omega (arith, c.loop-x-test.false, c.across-x-end.ensures)))
