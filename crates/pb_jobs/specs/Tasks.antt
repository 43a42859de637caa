-- Jobs as tasks of a plan: what the plan says of a task whose cells a job can make whenever the task's turn begins.
use Rattle.std.specs.Prelude.{◌≡◌, ℕ, ℤ, List, length, map, Result, Some, slice_get}
use Rattle.std.specs.List.{Contains}
use Rattle.pb_values.specs.Views.{IsInside, cell_of}
use Rattle.pb_values.specs.declared.outcome.Outcome.{Outcome}
use Rattle.pb_values.specs.declared.outcome.Trap.{Trap}
use Rattle.pb_values.specs.declared.view.View.{View}
use Rattle.pb_program.specs.Trees.{ProgRule}
use Rattle.pb_program.specs.declared.rule.RuleKind.TheVariants as kind
use Rattle.pb_model.specs.Cells.{Cell, reads as cells_read}
use Rattle.pb_model.specs.Equations.{own_outcome, rule_gives}
use Rattle.pb_eval.specs.CanRun.{at_variables}
use Rattle.pb_taskgraph.specs.Plans.{Plan, outcome_at}
use Rattle.pb_taskgraph.specs.Turns.{MayRead}
use Rattle.pb_views.specs.Windows.{number_in}
use Rattle.pb_walk.specs.declared.stop.Stop.{Stop}
use Rattle.pb_jobs.specs.Instances.{InstanceValue, of_sizes, of_transform}
use Rattle.pb_jobs.specs.Jobs.{stop_cell}
use Rattle.pb_jobs.specs.Outputs.{AreOutsWithin}
use Rattle.pb_jobs.specs.Shown.{ReadsWithin}

module _ (v : InstanceValue) (p : Plan) where
  -- what the rule gives for these rule variables, of the plan's outcomes
  abbrev pub solved_by : ℕ → ProgRule → ℕ → ℕ → Result (List ℤ) Trap
  solved_by k rule x y =
      rule_gives (of_transform v).matrices (of_sizes v) (at_variables x y) v.number k rule (map (λ d. outcome_at p.solution (number_in v.views d)) (cells_read (of_transform v).matrices (of_sizes v) (at_variables x y) rule))

  module _ (task : ℕ) where
    -- for these rule variables a rule reads within its matrices, and what the task may read when so many of its cells are written
    pub record MayRun (n : ℕ) (rule : ProgRule) (x y : ℕ) : Type 0 where
      pub reads : ReadsWithin (of_transform v).matrices (of_sizes v) rule x y
      pub may : (shown : Cell) → Contains (cells_read (of_transform v).matrices (of_sizes v) (at_variables x y) rule) shown → MayRead p task n (number_in v.views shown)

    -- the cell at a stop stands at this place of the task's order, and has this outcome
    pub record IsListed (n : ℕ) (s : Stop) (outcome : Outcome) : Type 0 where
      pub view : View
      pub at : slice_get v.views s.base ≡ Some view
      pub inside : IsInside view.shape s.x s.y
      pub listed : slice_get (p.order task) n ≡ Some (cell_of view s.x s.y)
      pub solved : outcome_at p.solution (cell_of view s.x s.y) ≡ outcome

    -- the rule of a stop's rectangle makes single cells, may be run there, and gives the cell's outcome
    pub record IsAlone (rules : List ℕ) (n : ℕ) (s : Stop) : Type 0 where
      pub k : ℕ
      pub own : slice_get rules s.piece ≡ Some k
      pub rule : ProgRule
      pub there : slice_get (of_transform v).rules k ≡ Some rule
      pub cell : rule.kind ≡ kind.Cell
      pub runs : MayRun n rule s.x s.y
      pub listed : IsListed n s (own_outcome (of_transform v).matrices (of_sizes v) (at_variables s.x s.y) rule (solved_by k rule s.x s.y))

    -- the task makes just the cells at these stops, in their order: one by one, by the rules of their rectangles
    pub record IsBlockTask (rules : List ℕ) (stops : List Stop) : Type 0 where
      pub count : length (p.order task) ≡ length stops
      pub each : (n : ℕ) (s : Stop) → slice_get stops n ≡ Some s → IsAlone rules n s

    -- or all at once, by the rule with this number
    pub record IsWholeTask (k : ℕ) (stops : List Stop) : Type 0 where
      pub rule : ProgRule
      pub there : slice_get (of_transform v).rules k ≡ Some rule
      pub wide : rule.kind ≡ kind.Wide
      pub runs : MayRun 0 rule 0 0
      pub within : AreOutsWithin (of_transform v).matrices (of_sizes v) rule.outs
      pub count : length (p.order task) ≡ length stops
      pub each : (n : ℕ) (s : Stop) → slice_get stops n ≡ Some s → IsListed n s (own_outcome (of_transform v).matrices (of_sizes v) (stop_cell s) rule (solved_by k rule 0 0))
