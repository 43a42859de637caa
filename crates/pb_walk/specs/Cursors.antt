-- How far each piece has been gone through.
use Rattle.std.specs.Prelude.{◌≡◌, ℕ, ◌<◌, Bool, true, false, not, ◌||◌, List, [], ◌∷◌, map, filter, Option, Some, None, slice_get}
use Rattle.std.specs.Ordering.{is_le, is_lt}
use Rattle.pb_linear.specs.declared.boxes.Step.{Step}
use Rattle.pb_links.specs.declared.places.Spot.{Spot}
use Rattle.pb_values.specs.Views.{HasPlace}
use Rattle.pb_walk.specs.declared.course.Course.{Course}
use Rattle.pb_walk.specs.declared.course.Course.TheVariants.{Any, One, Two}
use Rattle.pb_walk.specs.declared.cursor.Cursor.{Cursor}
use Rattle.pb_walk.specs.declared.stop.Stop.{Stop}
use Rattle.pb_walk.specs.Orders.{compare}
use Rattle.pb_walk.specs.Walks.{stop, walk_of}

-- the steps that a course stands for
abbrev pub steps_of : Course → List Step
steps_of Any = []
steps_of (One s) = s ∷ []
steps_of (Two s t) = s ∷ t ∷ []

-- the next place of a piece
abbrev pub head : ℕ → Cursor → Stop
head piece c = stop piece c.spot.base c.x c.y

-- a piece has been gone through past a place of its own
abbrev pub has_passed : List Step → Cursor → Stop → Bool
has_passed steps c s = c.done || is_lt (compare steps s (head s.piece c))

-- a place is still to come: of a piece that may not be there, and of one of these
abbrev pub is_ahead_of : List Step → Option Cursor → Stop → Bool
is_ahead_of steps None s = false
is_ahead_of steps (Some c) s = not (has_passed steps c s)

abbrev pub is_ahead : List Step → List Cursor → Stop → Bool
is_ahead steps cursors s = is_ahead_of steps (slice_get cursors s.piece) s

-- the whole walk, and what is left of it
abbrev pub spots : List Cursor → List Spot
spots cursors = map (λ c. c.spot) cursors

abbrev pub whole : Course → List Cursor → List Stop
whole course cursors = walk_of (steps_of course) (spots cursors)

unfoldable pub left_of : Course → List Cursor → List Stop
left_of course cursors = filter (is_ahead (steps_of course) cursors) (whole course cursors)

-- a cursor stands where a piece begins
abbrev pub IsBegun : List Step → Cursor → Type 0
IsBegun steps c = (piece x y : ℕ) → HasPlace c.spot.rect x y → has_passed steps c (stop piece c.spot.base x y) ≡ false

-- a cursor has passed just what the other has, and the other's next place
pub record IsMoved (steps : List Step) (old new : Cursor) : Type 0 where
  pub spot : new.spot ≡ old.spot
  pub passed : (piece x y : ℕ) → HasPlace old.spot.rect x y → has_passed steps new (stop piece old.spot.base x y) ≡ is_le (compare steps (stop piece old.spot.base x y) (head piece old))

-- of the first pieces, the next place of this one stands before those of the others that aren't done
pub record IsFirstOf (course : Course) (cursors : List Cursor) (n k : ℕ) : Type 0 where
  pub below : k < n
  pub cursor : Cursor
  pub there : slice_get cursors k ≡ Some cursor
  pub left : cursor.done ≡ false
  pub first : (j : ℕ) (c : Cursor) → j < n → slice_get cursors j ≡ Some c → c.done ≡ false → is_lt (compare (steps_of course) (head j c) (head k cursor)) ≡ false

-- the number of the piece whose next place stands first, unless all are done
abbrev pub IsBest : Course → List Cursor → ℕ → Option ℕ → Type 0
IsBest course cursors n None = (j : ℕ) (c : Cursor) → j < n → slice_get cursors j ≡ Some c → c.done ≡ true
IsBest course cursors n (Some k) = IsFirstOf course cursors n k
