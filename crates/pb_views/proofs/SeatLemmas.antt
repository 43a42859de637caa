-- The cells of a seat, as a view shows them.
use Rattle.std.proofs.Common.{◌≡◌, ℕ, ◌+◌, ◌*◌, Bool, true, false, arith}
use Rattle.std.specs.Prelude.{if◌then◌else◌}
use Rattle.pb_views.specs.Seats.{cell_at}
use Rattle.pb_views.specs.declared.seat.Seat.{Seat}

stepped : (turned : Bool) (first row x0 y0 x y : ℕ)
    → first + (y0 * row + x0) + (x * (if turned then row else 1) + y * (if turned then 1 else row)) ≡ first + ((y0 + (if turned then x else y)) * row + (x0 + (if turned then y else x)))
stepped true first row x0 y0 x y = omega arith
stepped false first row x0 y0 x y = omega arith

pub cell_is : (s : Seat) (x y : ℕ) → s.first + (s.rect.y0 * s.row + s.rect.x0) + (x * (if s.turned then s.row else 1) + y * (if s.turned then 1 else s.row)) ≡ cell_at s x y
unfolding cell_at
cell_is s x y = stepped s.turned s.first s.row s.rect.x0 s.rect.y0 x y
