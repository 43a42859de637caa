use Rattle.std.specs.Prelude.{◌≡◌, ◌<◌, ◌≤◌, ℕ, ℤ, ◌<ℤ◌, ◌≤ℤ◌, List, slice_index}
use Rattle.pb_linear.specs.Sizes.{InRange}

-- the greatest value over all sizes in range, and for each variable the least size that reaches it
pub record Most (value : List ℕ → ℤ) (leasts : List ℕ) (most : ℤ) (sizes : List ℕ) : Type 0 where
  pub in_range : InRange leasts sizes
  pub reached : value sizes ≡ most
  pub greatest : (others : List ℕ) → InRange leasts others → value others ≤ℤ most
  pub least : (others : List ℕ) → InRange leasts others → value others ≡ most → (i : ℕ) → slice_index sizes i ≤ slice_index others i

-- among the sizes from `start` to before `end`, the first at which a part is greatest
pub record FirstGreatest (part : ℕ → ℤ) (start end place : ℕ) : Type 0 where
  pub low : start ≤ place
  pub high : place < end
  pub greatest : (other : ℕ) → start ≤ other → other < end → part other ≤ℤ part place
  pub first : (other : ℕ) → start ≤ other → other < place → part other <ℤ part place
