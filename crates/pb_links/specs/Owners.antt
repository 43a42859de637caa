-- The parts of all tasks by their matrix, and what is found among them.
use Rattle.std.specs.Prelude.{◌≡◌, ℕ, ◌<◌, ◌⊎◌, ◌↔◌, ◌==◌, ◌&&◌, Bool, not, List, [], length, map, slice_index_or}
use Rattle.std.specs.List.{Contains, filter}
use Rattle.std.specs.List.Sorted.{IsStrictlyIncreasing}
use Rattle.pb_values.specs.declared.rect.Rect.{Rect}
use Rattle.pb_links.specs.declared.owners.Owned.{Owned}
use Rattle.pb_links.specs.declared.places.Spot.{Spot}
use Rattle.pb_links.specs.Spots.{PlacesValue, meets, parts_of}

-- the parts on a matrix
abbrev pub on : List (List Owned) → ℕ → List Owned
on table base = slice_index_or table base []

-- a part as a spot of a matrix
abbrev pub spot : ℕ → Owned → Spot
spot base o = record { base = base; rect = o.rect }

-- these parts of a task are added
pub record IsAdded (old new : List (List Owned)) (task : ℕ) (parts : List Spot) : Type 0 where
  pub room : length new ≡ length old
  pub owned : (base : ℕ) (o : Owned) → Contains (on new base) o ↔ (Contains (on old base) o ⊎ ((o.task ≡ task) × Contains parts (spot base o)))

-- the table has for each matrix the parts of the first tasks
pub record IsTable (tasks : List PlacesValue) (count bases : ℕ) (table : List (List Owned)) : Type 0 where
  pub room : length table ≡ bases
  pub owned : (base : ℕ) (o : Owned) → Contains (on table base) o ↔ ((o.task < count) × Contains (parts_of tasks o.task) (spot base o))

-- a part is of another task and meets a rectangle
unfoldable pub is_hit : ℕ → Rect → Owned → Bool
is_hit task rect o = not (o.task == task) && meets o.rect rect

-- the tasks of the parts that do
abbrev pub hits : ℕ → Rect → List Owned → List ℕ
hits task rect owners = map (λ o. o.task) (filter (is_hit task rect) owners)

-- the tasks of the parts that overlap a box
abbrev pub box_hits : List (List Owned) → ℕ → Spot → List ℕ
box_hits table task box = hits task box.rect (on table box.base)

-- the same numbers, in rising order, each once
pub record IsSortedOut (old new : List ℕ) : Type 0 where
  pub rises : IsStrictlyIncreasing new
  pub same : (x : ℕ) → Contains new x ↔ Contains old x
