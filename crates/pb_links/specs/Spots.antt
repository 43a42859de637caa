-- What tasks make and read: rectangles of matrices.
use Rattle.std.specs.Prelude.{◌≡◌, ℕ, ◌<◌, ◌==◌, ◌&&◌, Bool, nat_lt, List, [], map, max, min, slice_index_or}
use Rattle.std.specs.List.{All, Contains}
use Rattle.pb_values.specs.Views.{HasPlace}
use Rattle.pb_values.specs.declared.rect.Rect.{Rect}
use Rattle.pb_links.specs.declared.places.Spot.{Spot}

-- what a task makes, and what it reads
pub record PlacesValue : Type 0 where
  pub parts : List Spot
  pub boxes : List Spot

-- what a task makes, by its number; past the tasks there is nothing
unfoldable pub parts_of : List PlacesValue → ℕ → List Spot
parts_of tasks u = slice_index_or (map (λ task. task.parts) tasks) u []

-- what it reads
unfoldable pub boxes_of : List PlacesValue → ℕ → List Spot
boxes_of tasks t = slice_index_or (map (λ task. task.boxes) tasks) t []

-- on both axes the greater start is below the lesser end
unfoldable pub meets : Rect → Rect → Bool
meets a b = nat_lt (max a.x0 b.x0) (min a.x1 b.x1) && nat_lt (max a.y0 b.y0) (min a.y1 b.y1)

-- they are of one matrix, and meet
unfoldable pub overlaps : Spot → Spot → Bool
overlaps a b = (a.base == b.base) && meets a.rect b.rect

-- one of these spots has the place (x, y) of a matrix
abbrev pub HasSpot : List Spot → ℕ → ℕ → ℕ → Type 0
HasSpot spots base x y = (s : Spot) × Contains spots s × (s.base ≡ base) × HasPlace s.rect x y

-- a spot is of one of so many matrices
abbrev pub IsWithin : ℕ → Spot → Type 0
IsWithin bases s = s.base < bases

-- all parts of a task are
abbrev pub AllWithin : ℕ → PlacesValue → Type 0
AllWithin bases task = All (IsWithin bases) task.parts
