use Rattle.std.proofs.Common.{◌∙◌, ◌+◌, ◌*◌}
use Rattle.pb_views.proofs.SeatLemmas.{cell_is}
use Rattle.pb_views.proofs.seat.Seat.view.Goals as goal

pub returns : goal.returns
returns c =
    let s = c.args.self.now in
    record {
      shape = λ k. record { dims = c.args.dims; w = c.across.ensures k; h = c.down.ensures k };
      cells = λ x y on_x on_y. (λ k. s.first + (s.rect.y0 * s.row + s.rect.x0) + (x * c.step_across.ensures k + y * c.step_down.ensures k)) ∙ cell_is s x y;
    }
