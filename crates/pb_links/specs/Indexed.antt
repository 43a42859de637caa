-- The parts of a matrix in their order along an axis.
use Rattle.std.specs.Prelude.{◌≡◌, ℕ, ◌<◌, ◌≤◌, List, length, Some, slice_get, slice_index}
use Rattle.pb_values.specs.declared.rect.Rect.{Rect}
use Rattle.pb_links.specs.declared.index.Axis.{Axis}
use Rattle.pb_links.specs.declared.index.Axis.TheVariants.{X, Y}
use Rattle.pb_links.specs.declared.owners.Owned.{Owned}

-- where a rectangle begins along an axis, and where it ends
unfoldable pub start : Axis → Rect → ℕ
start X rect = rect.x0
start Y rect = rect.y0

unfoldable pub end : Axis → Rect → ℕ
end X rect = rect.x1
end Y rect = rect.y1

-- by a number of the first ones: none of these ends after that place
abbrev pub EndBy : Axis → List Owned → List ℕ → Type 0
EndBy axis list ends = (k j : ℕ) (o : Owned) → k < length ends → j < k → slice_get list j ≡ Some o → end axis o.rect ≤ slice_index ends k

-- by a place in the list: none of those from there on begins before that
abbrev pub StartFrom : Axis → List Owned → List ℕ → Type 0
StartFrom axis list starts = (k j : ℕ) (o : Owned) → k < length starts → k ≤ j → slice_get list j ≡ Some o → slice_index starts k ≤ start axis o.rect
