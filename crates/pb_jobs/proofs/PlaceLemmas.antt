-- The number of a place in a rectangle.
use Rattle.std.proofs.Common.{◌≡◌, ℕ, zero, suc, ◌+◌, ◌-◌, ◌*◌, ◌<◌, ◌≤◌, arith}
use Rattle.pb_values.specs.Views.{HasPlace}
use Rattle.pb_values.specs.declared.rect.Rect.{Rect}

-- a place stands before the end of its rectangle
row_before : (w h x y : ℕ) → x < w → y < h → y * w + x < h * w
row_before w (suc h) x zero on_x on_y = omega (arith, on_x)
row_before w (suc h) x (suc y) on_x on_y = omega (arith, row_before w h x y on_x (omega (arith, on_y)))
row_before w zero x y on_x on_y = absurd (omega (arith, on_y))

pub swap : (w h : ℕ) → w * h ≡ h * w
swap zero h = omega arith
swap (suc w) h = omega (arith, swap w h)

pub place_below : (r : Rect) (x y : ℕ) → HasPlace r x y → (y - r.y0) * (r.x1 - r.x0) + (x - r.x0) < (r.x1 - r.x0) * (r.y1 - r.y0)
place_below r x y h = omega (arith, row_before (r.x1 - r.x0) (r.y1 - r.y0) (x - r.x0) (y - r.y0) (omega (arith, h.left, h.right)) (omega (arith, h.low, h.high)), swap (r.x1 - r.x0) (r.y1 - r.y0))

pub times_most : (w h m n : ℕ) → w ≤ m → h ≤ n → h * w ≤ n * m
times_most w zero m n hw hh = omega arith
times_most w (suc h) m zero hw hh = absurd (omega (arith, hh))
times_most w (suc h) m (suc n) hw hh = omega (arith, hw, times_most w h m n hw (omega (arith, hh)))
