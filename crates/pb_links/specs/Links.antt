-- The links of tasks: which task waits for which.
use Rattle.std.specs.Prelude.{◌≡◌, ℕ, ◌<◌, ◌==◌, ◌&&◌, Bool, not, List, length, map, slice_index}
use Rattle.std.specs.List.{filter, list_any, range_with_len, sum_by}
use Rattle.pb_links.specs.Spots.{PlacesValue, boxes_of, overlaps, parts_of}

-- u is another task than t, and makes a part that overlaps a box which t reads
unfoldable pub precedes : List PlacesValue → ℕ → ℕ → Bool
precedes tasks u t = not (u == t) && list_any (λ part. list_any (overlaps part) (boxes_of tasks t)) (parts_of tasks u)

-- the tasks for which a task waits, in rising order
unfoldable pub predecessors : List PlacesValue → ℕ → List ℕ
predecessors tasks t = filter (λ u. precedes tasks u t) (range_with_len 0 (length tasks))

-- the tasks that wait for a task, in rising order
unfoldable pub successors : List PlacesValue → ℕ → List ℕ
successors tasks u = filter (λ t. precedes tasks u t) (range_with_len 0 (length tasks))

-- those of each task
abbrev pub all_predecessors : List PlacesValue → List (List ℕ)
all_predecessors tasks = map (predecessors tasks) (range_with_len 0 (length tasks))

abbrev pub all_successors : List PlacesValue → List (List ℕ)
all_successors tasks = map (successors tasks) (range_with_len 0 (length tasks))

-- how many pairs of a task and a predecessor there are
abbrev pub link_count : List PlacesValue → ℕ
link_count tasks = sum_by length (all_predecessors tasks)

-- the predecessors and the successors of each task
pub record LinksValue : Type 0 where
  pub before : List (List ℕ)
  pub after : List (List ℕ)

-- no number stands twice in a list
abbrev pub EachOnce : List ℕ → Type 0
EachOnce xs = (i j : ℕ) → i < length xs → j < length xs → slice_index xs i ≡ slice_index xs j → i ≡ j
