-- The cells of a rectangle of a seat, in the matrix of the run.
use Rattle.std.proofs.Common.{◌≡◌, ◌∙◌, sym, ap, subst, ℕ, ◌+◌, ◌-◌, ◌*◌, ◌<◌, ◌≤◌, Bool, true, false, List, Some, slice_get, arith}
use Rattle.std.specs.Prelude.{if◌then◌else◌}
use Rattle.pb_values.specs.Views.{HasPlace}
use Rattle.pb_values.specs.declared.rect.Rect.{Rect}
use Rattle.pb_model.specs.Calls.{Outcomes}
use Rattle.pb_check.proofs.FirstLemmas.{some_same}
use Rattle.pb_recursion.specs.Depths.{IsWhole}
use Rattle.pb_views.specs.declared.seat.Seat.{Seat}
use Rattle.pb_views.specs.Seats.{across, base_x, base_y, cell_at, down, rect_at, spot_at}
use Rattle.pb_runs.specs.Placed.{IsPlaced, SpotCell, before}

-- a rectangle in the matrix of the run
abbrev laid : Bool → ℕ → ℕ → Rect → Rect
laid turned a b r = record {
  x0 = a + (if turned then r.y0 else r.x0);
  y0 = b + (if turned then r.x0 else r.y0);
  x1 = a + (if turned then r.y1 else r.x1);
  y1 = b + (if turned then r.x1 else r.y1);
}

-- a place there is that of a place of the rectangle
place_back : (turned : Bool) (a b : ℕ) (r : Rect) (u v : ℕ) → HasPlace (laid turned a b r) u v → (x : ℕ) × (y : ℕ) × HasPlace r x y × (a + (if turned then y else x) ≡ u) × (b + (if turned then x else y) ≡ v)
place_back true a b r u v h =
    (v - b, u - a, record { left = omega (arith, h.low); right = omega (arith, h.low, h.high); low = omega (arith, h.left); high = omega (arith, h.left, h.right) }, omega (arith, h.left), omega (arith, h.low))
place_back false a b r u v h =
    (u - a, v - b, record { left = omega (arith, h.left); right = omega (arith, h.left, h.right); low = omega (arith, h.low); high = omega (arith, h.low, h.high) }, omega (arith, h.left), omega (arith, h.low))

pub place_laid : (turned : Bool) (a b : ℕ) (r : Rect) (x y : ℕ) → HasPlace r x y → HasPlace (laid turned a b r) (a + (if turned then y else x)) (b + (if turned then x else y))
place_laid true a b r x y h = record { left = omega (arith, h.low); right = omega (arith, h.high); low = omega (arith, h.left); high = omega (arith, h.right) }
place_laid false a b r x y h = record { left = omega (arith, h.left); right = omega (arith, h.right); low = omega (arith, h.low); high = omega (arith, h.high) }

-- a place of a rectangle of a seat is one of the rectangle, and back
pub place_of_spot : (s : Seat) (r : Rect) (u v : ℕ) → HasPlace (rect_at s r) u v → (x : ℕ) × (y : ℕ) × HasPlace r x y × (base_x s x y ≡ u) × (base_y s x y ≡ v)
place_of_spot s r u v h = place_back s.turned s.rect.x0 s.rect.y0 r u v h

pub spot_place : (s : Seat) (r : Rect) (x y : ℕ) → HasPlace r x y → HasPlace (rect_at s r) (base_x s x y) (base_y s x y)
spot_place s r x y h = place_laid s.turned s.rect.x0 s.rect.y0 r x y h

-- ---- cells of the run
module _ (ms : List Outcomes) where
  -- a place of a matrix of the run has the cell with this number
  pub record IsCellAt (base x y c : ℕ) : Type 0 where
    pub grid : Outcomes
    pub there : slice_get ms base ≡ Some grid
    pub whole : IsWhole grid
    pub inside_x : x < grid.width
    pub inside_y : y < grid.height
    pub is : c ≡ before ms base + (y * grid.width + x)

  pub cell_has : (s : Seat) (m : Outcomes) → IsPlaced ms s m → (x y : ℕ) → x < across s → y < down s → IsCellAt s.base (base_x s x y) (base_y s x y) (cell_at s x y)
  unfolding cell_at
  cell_has s m placed x y on_x on_y =
      let at = (placed.cells x y on_x on_y).2 in
      record { grid = at.grid; there = at.there; whole = at.whole; inside_x = at.inside_x; inside_y = at.inside_y; is = λ k. at.first k + (base_y s x y * at.row k + base_x s x y) }

  pub cell_moved : (b a x y u v c : ℕ) → b ≡ a → x ≡ u → y ≡ v → IsCellAt b x y c → IsCellAt a u v c
  cell_moved b a x y u v c bases on_x on_y h = subst (λ n. IsCellAt n u v c) bases (subst (λ n. IsCellAt b n v c) on_x (subst (λ n. IsCellAt b x n c) on_y h))

module _ (ms : List Outcomes) (s : Seat) (m : Outcomes) (placed : IsPlaced ms s m) (r : Rect) (right : r.x1 ≤ across s) (high : r.y1 ≤ down s) where
  -- a cell of the spot is one of the rectangle
  pub spot_back : (c : ℕ) → SpotCell ms (spot_at s r) c → (x : ℕ) × (y : ℕ) × HasPlace r x y × (c ≡ cell_at s x y)
  unfolding cell_at
  spot_back c h =
      let p = place_back s.turned s.rect.x0 s.rect.y0 r h.x h.y h.has in
      let at = (placed.cells p.0 p.1 (omega (arith, p.2.right, right)) (omega (arith, p.2.high, high))).2 in
      let grid : h.grid ≡ at.grid = some_same h.grid at.grid (sym h.there ∙ at.there) in
      let width : h.grid.width ≡ s.row = ap (λ (g : Outcomes). g.width) grid ∙ sym at.row in
      (p.0, p.1, p.2, h.is ∙ (λ k. sym at.first k + (sym p.4 k * width k + sym p.3 k)))

  -- and back
  pub spot_cell : (x y : ℕ) → HasPlace r x y → SpotCell ms (spot_at s r) (cell_at s x y)
  unfolding cell_at
  spot_cell x y h =
      let at = (placed.cells x y (omega (arith, h.right, right)) (omega (arith, h.high, high))).2 in
      record { grid = at.grid; there = at.there; x = base_x s x y; y = base_y s x y; has = place_laid s.turned s.rect.x0 s.rect.y0 r x y h; is = λ k. at.first k + (base_y s x y * at.row k + base_x s x y) }
