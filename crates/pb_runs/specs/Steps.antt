-- The instances of a run and the steps of its calls, with what each makes and reads.
use Rattle.std.specs.Prelude.{ℕ, ◌-◌, Option, List, [], map, slice_index_or}
use Rattle.std.specs.List.{flat_map}
use Rattle.pb_values.specs.Name.{NameValue}
use Rattle.pb_values.specs.declared.outcome.Outcome.{Outcome}
use Rattle.pb_values.specs.declared.rect.Rect.{Rect}
use Rattle.pb_links.specs.Spots.{PlacesValue}
use Rattle.pb_links.specs.declared.places.Spot.{Spot}
use Rattle.pb_program.specs.Trees.{ProgTransform}
use Rattle.pb_check.specs.Orders.{AnalysisValue}
use Rattle.pb_frame.specs.Frames.{JobValue}
use Rattle.pb_frame.specs.declared.part.FramePart.{FramePart}
use Rattle.pb_plan.specs.Boxes.{boxes_by, spot_of}
use Rattle.pb_walk.specs.Walks.{walk_of}
use Rattle.pb_walk.specs.declared.stop.Stop.{Stop}
use Rattle.pb_solution.specs.Solutions.{stop_cell, stops_of}
use Rattle.pb_model.specs.Cells.{Cell}
use Rattle.pb_views.specs.declared.seat.Seat.{Seat}
use Rattle.pb_views.specs.Seats.{cell_at, no_seat, seat_cells, spot_at}

-- ---- instances
-- a transform with its number and what is found of it, in the call with this number, at sizes; and where its matrices stand
pub record Instance : Type 0 where
  pub call : ℕ
  pub number : ℕ
  pub transform : ProgTransform
  pub found : AnalysisValue
  pub sizes : List ℕ
  pub seats : List Seat

abbrev pub seat_in : Instance → ℕ → Seat
seat_in i m = slice_index_or i.seats m no_seat

-- the number of a cell of its matrices
abbrev pub number_at : Instance → Cell → ℕ
number_at i c = cell_at (seat_in i c.matrix) c.x c.y

-- a rectangle of one of its matrices, in the run
abbrev pub through : Instance → Spot → Spot
through i s = spot_at (seat_in i s.base) s.rect

-- ---- steps
-- what a copy copies: parts of the matrix of an output, whose lowest corner is this, from where the matrix that the plan made for it stands
pub record Copied : Type 0 where
  pub layer : ℕ
  pub rule : Option ℕ
  pub parts : List FramePart
  pub corner : ℕ × ℕ
  pub source : Seat

-- a target of a call: its name as it is written, and how many dimensions it has
pub record Target : Type 0 where
  pub name : NameValue
  pub dims : ℕ

-- what a call that can't be made puts into the matrices of its targets: the first of them has this number among those of the run,
-- and these have a cell
pub record Failed : Type 0 where
  pub call : ℕ
  pub outcome : Outcome
  pub targets : List Target
  pub first : ℕ
  pub seats : List Seat

-- each makes some cells: those of a job, by computing rules; copies of others; or a trap in each
pub data Step : Type 0 where
  by_job : Instance → JobValue → Step
  by_copy : Instance → Copied → Step
  by_trap : Failed → Step

-- ---- what a step makes and reads
abbrev pub parts_of : Step → List Spot
parts_of (by_job i job) = map (λ part. through i (spot_of i.found.nodes part)) job.parts
parts_of (by_copy i c) = map (λ part. through i (spot_of i.found.nodes part)) c.parts
parts_of (by_trap f) = map (λ s. record { base = s.base; rect = s.rect }) f.seats

-- a rectangle of an output, in the matrix that a plan made for it
abbrev pub from_corner : ℕ × ℕ → Rect → Rect
from_corner corner r = record { x0 = r.x0 - corner.0; y0 = r.y0 - corner.1; x1 = r.x1 - corner.0; y1 = r.y1 - corner.1 }

abbrev pub boxes_of : Step → List Spot
boxes_of (by_job i job) = map (through i) (boxes_by i.transform i.sizes job.rule job.parts)
boxes_of (by_copy i c) = map (λ part. spot_at c.source (from_corner c.corner part.rect)) c.parts
boxes_of (by_trap f) = []

abbrev pub places_of : Step → PlacesValue
places_of s = record { parts = parts_of s; boxes = boxes_of s }

-- ---- the cells of a step
-- the places of its parts that it goes through, in order: those of a job as the job says, those of a copy by number
abbrev pub copied_stops : Instance → Copied → List Stop
copied_stops i c = walk_of [] (map (spot_of i.found.nodes) c.parts)

abbrev pub stop_number : Instance → Stop → ℕ
stop_number i s = number_at i (stop_cell s)

unfoldable pub cells_of : Step → List ℕ
cells_of (by_job i job) = map (stop_number i) (stops_of i.found.nodes i.found.order.layers job)
cells_of (by_copy i c) = map (stop_number i) (copied_stops i c)
cells_of (by_trap f) = flat_map seat_cells f.seats

abbrev pub cells_in : List Step → List ℕ
cells_in steps = flat_map cells_of steps
