-- Pieces of parts: a part itself, or what a block has of it.
use Rattle.std.proofs.Common.{◌≡◌, refl, ℕ, ◌≤◌, ◌<◌, true, List, arith}
use Rattle.std.specs.Prelude.{nat_lt}
use Rattle.std.specs.List.{Contains}
use Rattle.std.proofs.lemmas.Bool.{and_parts}
use Rattle.std.proofs.lemmas.Bool.Decides.{nat_tests}
use Rattle.pb_values.specs.Views.{HasPlace}
use Rattle.pb_values.specs.declared.rect.Rect.{Rect}
use Rattle.pb_check.proofs.LawfulLemmas.{both}
use Rattle.pb_frame.specs.Frames.{cut_by, has_place}
use Rattle.pb_frame.specs.declared.part.FramePart.{FramePart}

-- ---- rectangles
pub tall_wide : (r : Rect) → has_place r ≡ true → (r.x0 < r.x1) × (r.y0 < r.y1)
tall_wide r h = let p = and_parts (nat_lt r.x0 r.x1) (nat_lt r.y0 r.y1) h in (grind (arith, nat_tests, p.0), grind (arith, nat_tests, p.1))

below_lt : (k n : ℕ) → k < n → nat_lt k n ≡ true
below_lt k n h = grind (arith, nat_tests, h)

pub place_some : (r : Rect) (x y : ℕ) → HasPlace r x y → has_place r ≡ true
place_some r x y h = both (nat_lt r.x0 r.x1) (nat_lt r.y0 r.y1) (below_lt r.x0 r.x1 (omega (arith, h.left, h.right))) (below_lt r.y0 r.y1 (omega (arith, h.low, h.high)))

module _ (square r : Rect) where
  pub cut_in : (x y : ℕ) → HasPlace (cut_by square r) x y → HasPlace square x y × HasPlace r x y
  cut_in x y h = (
    record { left = omega (arith, h.left); right = omega (arith, h.right); low = omega (arith, h.low); high = omega (arith, h.high) },
    record { left = omega (arith, h.left); right = omega (arith, h.right); low = omega (arith, h.low); high = omega (arith, h.high) },
  )

  pub in_cut : (x y : ℕ) → HasPlace square x y → HasPlace r x y → HasPlace (cut_by square r) x y
  in_cut x y h g = record { left = omega (arith, h.left, g.left); right = omega (arith, h.right, g.right); low = omega (arith, h.low, g.low); high = omega (arith, h.high, g.high) }

-- a rectangle lies inside another
pub record LiesIn (outer inner : Rect) : Type 0 where
  pub left : outer.x0 ≤ inner.x0
  pub right : inner.x1 ≤ outer.x1
  pub low : outer.y0 ≤ inner.y0
  pub high : inner.y1 ≤ outer.y1

pub cut_lies : (square r : Rect) → LiesIn square (cut_by square r)
cut_lies square r = record { left = omega arith; right = omega arith; low = omega arith; high = omega arith }

-- ---- a piece of one of some parts
pub record IsPiece (parts : List FramePart) (piece : FramePart) : Type 0 where
  pub whole : FramePart
  pub among : Contains parts whole
  pub node : whole.node ≡ piece.node
  pub rule : whole.rule ≡ piece.rule
  pub inside : (x y : ℕ) → HasPlace piece.rect x y → HasPlace whole.rect x y
  pub some : has_place whole.rect ≡ true → has_place piece.rect ≡ true

pub whole_piece : (parts : List FramePart) (part : FramePart) → Contains parts part → IsPiece parts part
whole_piece parts part h = record { whole = part; among = h; node = refl; rule = refl; inside = λ x y here. here; some = λ some. some }
