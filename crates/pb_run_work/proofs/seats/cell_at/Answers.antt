use Rattle.std.proofs.Common.{◌≡◌}
use Rattle.pb_views.specs.Seats.{cell_at}
use Rattle.pb_run_work.proofs.SeatLemmas.{by_sums, number_by, straight_cell, turned_cell}
use Rattle.pb_run_work.proofs.seats.cell_at.Goals as goal
use Rattle.pb_run_work.proofs.seats.cell_at.Goals.{then-seat, else-seat}

pub returns : goal.returns
returns c =
    let s = c.args.seat.now in
    let is : cell_at s c.args.x c.args.y ≡ number_by s c.if-seat.right = elim c.if-seat.branch [
      | then-seat w ↦ turned_cell s c.args.x c.args.y c.if-seat.right w.if-seat.true w.right-is
      | else-seat w ↦ straight_cell s c.args.x c.args.y c.if-seat.right w.if-seat.false w.right-is
    ] in
    by_sums s c.args.x c.args.y c.if-seat.right is c.requires c.saturating_add.result c.saturating_mul-row.result c.saturating_add-2.result c.saturating_add-3.result c.saturating_add-4.result
    c.saturating_add.ensures c.saturating_mul-row.ensures c.saturating_add-2.ensures c.saturating_add-3.ensures c.saturating_add-4.ensures
