-- Jobs, and when the cells of one can be made.
use Rattle.std.specs.Prelude.{◌≡◌, ℕ, ◌<◌, List, [], length, Option, Some, None, slice_get}
use Rattle.pb_linear.specs.declared.boxes.Step.{Step}
use Rattle.pb_links.specs.declared.places.Spot.{Spot}
use Rattle.pb_values.specs.Cells.{Turn}
use Rattle.pb_values.specs.Views.{IsInside, cell_of}
use Rattle.pb_values.specs.declared.outcome.Outcome.{Outcome}
use Rattle.pb_values.specs.declared.view.View.{View}
use Rattle.pb_program.specs.Trees.{ProgRule}
use Rattle.pb_program.specs.declared.rule.RuleKind.TheVariants as kind
use Rattle.pb_model.specs.Cells.{Cell}
use Rattle.pb_model.specs.Equations.{own_outcome}
use Rattle.pb_eval.specs.CanRun.{at_variables}
use Rattle.pb_taskgraph.specs.Turns.{after_some}
use Rattle.pb_walk.specs.Walks.{walk_of}
use Rattle.pb_walk.specs.Stretches.{place_on}
use Rattle.pb_walk.specs.declared.stop.Stop.{Stop}
use Rattle.pb_walk.specs.declared.stretch.Stretch.{Stretch}
use Rattle.pb_jobs.specs.Instances.{InstanceValue, given_by, of_sizes, of_transform}
use Rattle.pb_jobs.specs.Outputs.{AreOutsWithin}
use Rattle.pb_jobs.specs.Shown.{CanRun}

pub record JobValue : Type 0 where
  pub parts : List Spot
  pub rule : Option ℕ
  pub rules : List ℕ
  pub steps : List Step

-- the cell at a stop of a walk
abbrev pub stop_cell : Stop → Cell
stop_cell s = record { matrix = s.base; x = s.x; y = s.y }

-- after so many cells, the next that is to be written is the one at a stop, and has this outcome
pub record IsNext (views : List View) (start : Turn) (n : ℕ) (s : Stop) (outcome : Outcome) : Type 0 where
  pub view : View
  pub at : slice_get views s.base ≡ Some view
  pub inside : IsInside view.shape s.x s.y
  pub next : slice_get start.left n ≡ Some (cell_of view s.x s.y, outcome)

-- ---- one by one
-- after so many cells, the rule of a stop's rectangle makes single cells, can be run there, and what it gives of what is told
-- then is the outcome of the next cell
pub record IsMadeAlone (v : InstanceValue) (rules : List ℕ) (start : Turn) (n : ℕ) (s : Stop) : Type 0 where
  pub k : ℕ
  pub own : slice_get rules s.piece ≡ Some k
  pub rule : ProgRule
  pub there : slice_get (of_transform v).rules k ≡ Some rule
  pub cell : rule.kind ≡ kind.Cell
  pub can : CanRun (of_transform v).matrices (of_sizes v) v.views rule s.x s.y (after_some n start)
  pub next : IsNext v.views start n s (own_outcome (of_transform v).matrices (of_sizes v) (at_variables s.x s.y) rule (given_by v k rule s.x s.y (after_some n start)))

-- the same of the rule with this number
pub record IsMadeHere (v : InstanceValue) (k : ℕ) (start : Turn) (n : ℕ) (s : Stop) : Type 0 where
  pub rule : ProgRule
  pub there : slice_get (of_transform v).rules k ≡ Some rule
  pub cell : rule.kind ≡ kind.Cell
  pub can : CanRun (of_transform v).matrices (of_sizes v) v.views rule s.x s.y (after_some n start)
  pub next : IsNext v.views start n s (own_outcome (of_transform v).matrices (of_sizes v) (at_variables s.x s.y) rule (given_by v k rule s.x s.y (after_some n start)))

-- and of the cells of a stretch, from this turn on
abbrev pub AreMadeHere : InstanceValue → ℕ → Turn → Stretch → Type 0
AreMadeHere v k start s = (i : ℕ) → i < s.count → IsMadeHere v k start i (place_on s i)

-- the cells at these stops can be made one by one, by the rules of their rectangles, and are all that is left to be written
pub record IsBlock (v : InstanceValue) (rules : List ℕ) (stops : List Stop) (start : Turn) : Type 0 where
  pub count : length start.left ≡ length stops
  pub each : (n : ℕ) (s : Stop) → slice_get stops n ≡ Some s → IsMadeAlone v rules start n s

-- ---- all at once
-- the rule with this number has no rule variables, can be run, and its outputs lie within their matrices; and all that is left
-- to be written are the cells at these stops, each with its part of what the rule gives of what is told at the start
pub record IsWhole (v : InstanceValue) (k : ℕ) (stops : List Stop) (start : Turn) : Type 0 where
  pub rule : ProgRule
  pub there : slice_get (of_transform v).rules k ≡ Some rule
  pub wide : rule.kind ≡ kind.Wide
  pub can : CanRun (of_transform v).matrices (of_sizes v) v.views rule 0 0 start
  pub within : AreOutsWithin (of_transform v).matrices (of_sizes v) rule.outs
  pub count : length start.left ≡ length stops
  pub each : (n : ℕ) (s : Stop) → slice_get stops n ≡ Some s → IsNext v.views start n s (own_outcome (of_transform v).matrices (of_sizes v) (stop_cell s) rule (given_by v k rule 0 0 start))

-- ---- the one or the other
abbrev pub IsMadeBy : InstanceValue → Option ℕ → JobValue → Turn → Type 0
IsMadeBy v None job start = IsBlock v job.rules (walk_of job.steps job.parts) start
IsMadeBy v (Some k) job start = IsWhole v k (walk_of [] job.parts) start

-- the cells of a job can be made from this turn on: all at once, by numbers of their cells, or one by one, in the order of its
-- steps
abbrev pub CanBeMade : InstanceValue → JobValue → Turn → Type 0
CanBeMade v job start = IsMadeBy v job.rule job start
