-- Sizes as they are held in an array.
use Rattle.std.specs.Prelude.{◌≡◌, ℕ, length}
use Rattle.pb_linear.specs.declared.sizes.Sizes.{Sizes}

-- so many sizes, in an array of 8
pub record AreHeld (count : ℕ) (sizes : Sizes) : Type 0 where
  pub counted : sizes.count ≡ count
  pub full : length sizes.of ≡ 8
