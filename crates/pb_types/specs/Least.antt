-- The least of some places of a text.
use Rattle.std.specs.Prelude.{ℕ, ◌≤◌, min, Bool, true, false, List, [], ◌∷◌, Option, Some, None}
use Rattle.std.specs.List.{AllByRecursion, Contains}

-- one of these places, and none of them is before it
pub record IsLeast (at : ℕ) (places : List ℕ) : Type 0 where
  pub there : Contains places at
  pub least : AllByRecursion (λ p. at ≤ p) places

-- the place, where something isn't right
abbrev pub unless : Bool → ℕ → List ℕ
unless true at = []
unless false at = at ∷ []

-- the earlier of two places that may be there
abbrev pub least : Option ℕ → Option ℕ → Option ℕ
least None b = b
least (Some x) None = Some x
least (Some x) (Some y) = Some (min x y)

-- the least, if there is a place
unfoldable pub least_of : List ℕ → Option ℕ
least_of [] = None
least_of (x ∷ xs) = least (Some x) (least_of xs)
