-- Where the matrices of an instance stand: rectangles of the matrices of a run, which have cells of their own.
use Rattle.std.specs.Prelude.{ℕ, ◌+◌, ◌-◌, ◌*◌, ◌^◌, ◌≤◌, ℤ, Bool, true, false, not, if◌then◌else◌, pos, List, map}
use Rattle.std.specs.List.{flat_map, range_with_len}
use Rattle.pb_values.specs.declared.rect.Rect.{Rect}
use Rattle.pb_values.specs.declared.shape.TheConstants.{MOST_SIDE}
use Rattle.pb_links.specs.declared.places.Spot.{Spot}
use Rattle.pb_program.specs.declared.view.ReadView.{ReadView}
use Rattle.pb_program.specs.declared.view.ReadView.TheVariants as view
use Rattle.pb_views.specs.declared.seat.Seat.{Seat}

abbrev pub no_rect : Rect
no_rect = record { x0 = 0; y0 = 0; x1 = 0; y1 = 0 }

abbrev pub no_seat : Seat
no_seat = record { base = 0; first = 0; row = 0; rect = no_rect; turned = false }

-- what goes across in what is seated so, and what goes down in it
abbrev pub across : Seat → ℕ
across s = if s.turned then s.rect.y1 - s.rect.y0 else s.rect.x1 - s.rect.x0

abbrev pub down : Seat → ℕ
down s = if s.turned then s.rect.x1 - s.rect.x0 else s.rect.y1 - s.rect.y0

abbrev pub sides_of_seat : Seat → ℤ × ℤ
sides_of_seat s = (pos (across s), pos (down s))

-- the place of the matrix of the run
abbrev pub base_x : Seat → ℕ → ℕ → ℕ
base_x s x y = s.rect.x0 + (if s.turned then y else x)

abbrev pub base_y : Seat → ℕ → ℕ → ℕ
base_y s x y = s.rect.y0 + (if s.turned then x else y)

-- the number of the cell at a place
unfoldable pub cell_at : Seat → ℕ → ℕ → ℕ
cell_at s x y = s.first + (base_y s x y * s.row + base_x s x y)

-- all its cells, row by row
abbrev pub seat_cells : Seat → List ℕ
seat_cells s = flat_map (λ y. map (λ x. cell_at s x y) (range_with_len 0 (across s))) (range_with_len 0 (down s))

-- a rectangle of it, in the matrix of the run
abbrev pub rect_at : Seat → Rect → Rect
rect_at s r = record {
  x0 = base_x s r.x0 r.y0;
  y0 = base_y s r.x0 r.y0;
  x1 = base_x s r.x1 r.y1;
  y1 = base_y s r.x1 r.y1;
}

abbrev pub spot_at : Seat → Rect → Spot
spot_at s r = record { base = s.base; rect = rect_at s r }

-- what a view shows of it; a column is turned
abbrev pub is_turning : ReadView → Bool
is_turning view.Column = true
is_turning _ = false

abbrev pub part_seat : ReadView → Seat → Rect → Seat
part_seat v s r = record { base = s.base; first = s.first; row = s.row; rect = rect_at s r; turned = if is_turning v then not s.turned else s.turned }

-- ---- what the code asks of a seat
-- its matrix is no larger than one of a run
pub record IsSmall (s : Seat) : Type 0 where
  pub first : s.first ≤ 2 ^ 62
  pub row : s.row ≤ MOST_SIDE
  pub order_x : s.rect.x0 ≤ s.rect.x1
  pub order_y : s.rect.y0 ≤ s.rect.y1
  pub right : s.rect.x1 ≤ MOST_SIDE
  pub high : s.rect.y1 ≤ MOST_SIDE

-- a rectangle lies in what is seated so
pub record LiesWithin (s : Seat) (r : Rect) : Type 0 where
  pub order_x : r.x0 ≤ r.x1
  pub order_y : r.y0 ≤ r.y1
  pub right : r.x1 ≤ across s
  pub high : r.y1 ≤ down s
