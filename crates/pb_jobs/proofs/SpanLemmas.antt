-- Spans and areas that lie within a matrix.
use Rattle.std.proofs.Common.{◌≡◌, refl, sym, ap, ℕ, ◌-◌, ◌≤◌, ℤ, pos, negsuc, ◌-ℤ◌, ◌≤ℤ◌, arith}
use Rattle.std.proofs.lemmas.Int.{ints}
use Rattle.pb_program.specs.Areas.{Area, Span}
use Rattle.pb_program.specs.declared.view.ReadView.{ReadView}
use Rattle.pb_program.specs.declared.view.ReadView.TheVariants as view
use Rattle.pb_region.specs.Within.{IsAlong, IsWithin}
use Rattle.pb_model.specs.Cells.{natural}
use Rattle.pb_model.specs.Equations.{extent, sides_by}

natural_pos : (z : ℤ) → pos 0 ≤ℤ z → z ≡ pos (natural z)
natural_pos (pos n) h = refl
natural_pos (negsuc n) h = absurd (omega (arith, ints, h))

module _ (s : Span) (side : ℤ) (h : IsAlong s side) where
  -- where it begins and ends at these numbers
  module _ (low high : ℕ) (from : pos low ≡ s.low) (to : pos high ≡ s.high) where
    pub along_order : low ≤ high
    along_order = omega (arith, ints, from, to, h.order)

    pub along_end : high ≤ natural side
    along_end = let e = natural_pos side (omega (arith, ints, h.start, h.order, h.end)) in omega (arith, ints, to, h.end, e)

    pub along_extent : extent s ≡ high - low
    along_extent = let e : s.high -ℤ s.low ≡ pos (high - low) = omega (arith, ints, from, to, along_order) in ap natural e

  extent_short : extent s ≤ natural side
  extent_short =
      let from = natural_pos s.low h.start in
      let to = natural_pos s.high (omega (arith, ints, h.start, h.order)) in
      omega (arith, along_extent (natural s.low) (natural s.high) (sym from) (sym to), along_end (natural s.low) (natural s.high) (sym from) (sym to))

-- a view of a matrix without long sides has none
pub sides_short : (m : ℕ) → 1 ≤ m → (v : ReadView) (a : Area) (w h : ℤ) → IsWithin a w h → natural w ≤ m → natural h ≤ m → ((sides_by v a).0 ≤ m) × ((sides_by v a).1 ≤ m)
sides_short m some view.Cell a w h is wide tall = (omega (arith, extent_short a.x w is.x, wide), omega (arith, extent_short a.y h is.y, tall))
sides_short m some view.Row a w h is wide tall = (omega (arith, extent_short a.x w is.x, wide), omega (arith, extent_short a.y h is.y, tall))
sides_short m some view.Column a w h is wide tall = (omega (arith, extent_short a.y h is.y, tall), some)
sides_short m some view.Region a w h is wide tall = (omega (arith, extent_short a.x w is.x, wide), omega (arith, extent_short a.y h is.y, tall))
sides_short m some view.Whole a w h is wide tall = (omega (arith, extent_short a.x w is.x, wide), omega (arith, extent_short a.y h is.y, tall))
