-- Copies: when the cells of one can be written.
use Rattle.std.specs.Prelude.{◌≡◌, ◌-◌, ◌<◌, ◌^◌, ℕ, List, length, Some, slice_get}
use Rattle.pb_values.specs.Cells.{Turn}
use Rattle.pb_values.specs.declared.outcome.Outcome.{Outcome}
use Rattle.pb_values.specs.declared.view.View.{View}
use Rattle.pb_taskgraph.specs.Turns.{after_some}
use Rattle.pb_views.specs.Seats.{cell_at}
use Rattle.pb_views.specs.declared.seat.Seat.{Seat}
use Rattle.pb_walk.specs.declared.stop.Stop.{Stop}
use Rattle.pb_jobs.specs.Jobs.{IsNext}

-- the number of the source of the cell at a stop: it stands as far from the corner of what is copied as that cell from the lowest corner
-- of the output
abbrev pub source_at : ℕ × ℕ → Seat → Stop → ℕ
source_at corner source s = cell_at source (s.x - corner.0) (s.y - corner.1)

-- the matrices of the instance, the lowest corner of the output, and where what is copied stands
module _ (views : List View) (corner : ℕ × ℕ) (source : Seat) where
  -- after so many cells, the outcome that is told of the source of a stop is that of the next cell, which is the one at the stop
  pub record IsCopied (start : Turn) (n : ℕ) (s : Stop) : Type 0 where
    pub number : source_at corner source s < 2 ^ 64
    pub outcome : Outcome
    pub told : (after_some n start).outcomes (source_at corner source s) ≡ Some outcome
    pub next : IsNext views start n s outcome

  -- the cells at these stops are all that is left to be written, each with the outcome of its source
  pub record IsCopy (stops : List Stop) (start : Turn) : Type 0 where
    pub count : length start.left ≡ length stops
    pub each : (n : ℕ) (s : Stop) → slice_get stops n ≡ Some s → IsCopied start n s
