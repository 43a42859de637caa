-- The first item of a list that fails.
use Rattle.std.specs.Prelude.{◌≡◌, ℕ, List, take, Some, slice_get}
use Rattle.std.specs.List.{All}

-- an item that fails at its place, while all before it hold
pub record IsFirst {A : Type 0} (Holds : A → Type 0) (Fails : ℕ → A → Type 0) (xs : List A) : Type 0 where
  pub place : ℕ
  pub item : A
  pub there : slice_get xs place ≡ Some item
  pub fails : Fails place item
  pub earlier : All Holds (take place xs)
