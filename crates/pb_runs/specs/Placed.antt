-- The matrices of a run, one after the other, and what stands among their cells.
use Rattle.std.specs.Prelude.{◌≡◌, ℕ, zero, suc, ◌+◌, ◌*◌, ◌<◌, ◌≤◌, max, List, [], ◌∷◌, length, Some, slice_get}
use Rattle.pb_values.specs.Views.{HasPlace}
use Rattle.pb_values.specs.declared.outcome.Outcome.{Outcome}
use Rattle.pb_links.specs.declared.places.Spot.{Spot}
use Rattle.pb_model.specs.Calls.{Outcomes}
use Rattle.pb_taskgraph.specs.Plans.{outcome_at}
use Rattle.pb_solution.specs.Solutions.{outcomes_of}
use Rattle.pb_recursion.specs.Depths.{IsWhole}
use Rattle.pb_views.specs.declared.seat.Seat.{Seat}
use Rattle.pb_views.specs.Seats.{across, base_x, base_y, cell_at, down}

-- how many cells there are in all, and before a matrix
abbrev pub total : List Outcomes → ℕ
total [] = 0
total (g ∷ gs) = length g.cells + total gs

abbrev pub before : List Outcomes → ℕ → ℕ
before [] k = 0
before (g ∷ gs) zero = 0
before (g ∷ gs) (suc k) = length g.cells + before gs k

-- the greatest side of a matrix
abbrev pub greatest_side : List Outcomes → ℕ
greatest_side [] = 0
greatest_side (g ∷ gs) = max (max g.width g.height) (greatest_side gs)

-- the outcome of a cell by its number
abbrev pub outcome_of : List Outcomes → ℕ → Outcome
outcome_of ms c = outcome_at (outcomes_of ms) c

module _ (ms : List Outcomes) where
  -- a place of a seat has a cell of a matrix of the run, with this outcome
  pub record IsAt (s : Seat) (x y : ℕ) (o : Outcome) : Type 0 where
    pub grid : Outcomes
    pub there : slice_get ms s.base ≡ Some grid
    pub first : s.first ≡ before ms s.base
    pub row : s.row ≡ grid.width
    pub whole : IsWhole grid
    pub inside_x : base_x s x y < grid.width
    pub inside_y : base_y s x y < grid.height
    pub is : outcome_of ms (cell_at s x y) ≡ o

  -- a matrix stands where a seat says, with its outcomes, and is no longer than a matrix of the run
  pub record IsPlaced (s : Seat) (m : Outcomes) : Type 0 where
    pub width : m.width ≡ across s
    pub height : m.height ≡ down s
    pub whole : IsWhole m
    pub wide : m.width ≤ greatest_side ms
    pub tall : m.height ≤ greatest_side ms
    pub cells : (x y : ℕ) → x < across s → y < down s → (o : Outcome) × (slice_get m.cells (y * m.width + x) ≡ Some o) × IsAt s x y o

  -- a spot of a matrix of the run has a cell
  pub record SpotCell (b : Spot) (c : ℕ) : Type 0 where
    pub grid : Outcomes
    pub there : slice_get ms b.base ≡ Some grid
    pub x : ℕ
    pub y : ℕ
    pub has : HasPlace b.rect x y
    pub is : c ≡ before ms b.base + (y * grid.width + x)
