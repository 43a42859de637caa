-- Calls at a depth: what a transform makes of the matrices that are given to it, where its plans may call so many deeper.
use Rattle.std.specs.Prelude.{◌≡◌, ℕ, zero, suc, ◌+◌, ◌-◌, ◌*◌, pos, if◌then◌else◌, List, [], ◌∷◌, map, take, drop, replicate, length, Option, Some, None, slice_get, unwrap_or}
use Rattle.std.specs.Option.{option_map_or}
use Rattle.pb_values.specs.declared.outcome.Kind.{Kind}
use Rattle.pb_values.specs.declared.outcome.Kind.TheVariants.{BadShape, DepthEnded}
use Rattle.pb_values.specs.declared.outcome.Outcome.{Outcome}
use Rattle.pb_values.specs.declared.outcome.Outcome.TheVariants.{Trapped}
use Rattle.pb_program.specs.declared.plan.Slot.{Slot}
use Rattle.pb_program.specs.declared.plan.Slot.TheVariants as slot
use Rattle.pb_program.specs.declared.view.Read.{Read}
use Rattle.pb_program.specs.Configs.{ConfigValue}
use Rattle.pb_program.specs.Plans.{PlanCallValue}
use Rattle.pb_program.specs.Trees.{ProgRule, ProgTransform}
use Rattle.pb_model.specs.Calls.{Outcomes, Plans, call_of, no_outcome}
use Rattle.pb_model.specs.Cells.{Cell, natural}
use Rattle.pb_model.specs.Equations.{shown_area, trap_of}
use Rattle.pb_model.specs.Grids.{Grid, at_place, no_grid}
use Rattle.pb_model.specs.Lawful.{output_holds}
use Rattle.pb_recursion.specs.Plans.{Names, after_calls, calls_of_rule, fits_call, named, names_of_reads, no_cell, sides_of_view, target_sides}
use Rattle.pb_recursion.specs.Shapes.{Sides, area, sizes_from}

-- what a transform, by its number, makes of the matrices that are given to it: those after `through` and `to`
abbrev pub Call : Type 0
Call = ℕ → List Outcomes → List Outcomes

abbrev pub sides_of_matrix : {A : Type 0} → Grid A → Sides
sides_of_matrix m = (pos m.width, pos m.height)

-- a matrix with these sides and this outcome in each cell
abbrev pub filled : Outcome → Sides → Outcomes
filled o s = record { width = natural s.0; height = natural s.1; cells = replicate (area s) o }

-- some cells, read by read, each row by row
abbrev pub cut_into : {A : Type 0} → List Sides → List A → List (Grid A)
cut_into [] cells = []
cut_into (s ∷ rest) cells = record { width = natural s.0; height = natural s.1; cells = take (area s) cells } ∷ cut_into rest (drop (area s) cells)

-- it has all its cells
abbrev pub IsWhole : {A : Type 0} → Grid A → Type 0
IsWhole m = length m.cells ≡ m.width * m.height

-- ---- a plan
-- a transform with its number and the sizes of an instance, and a rule with its number
module _ (number : ℕ) (t : ProgTransform) (sizes : List ℕ) (rule : ℕ) (r : ProgRule) where
  -- the trap of a call that can't be made
  abbrev pub trapped_by : Kind → Outcome
  trapped_by k = Trapped (trap_of t.matrices sizes no_cell number rule r k)

  abbrev pub targets_filled : Kind → PlanCallValue → List Outcomes
  targets_filled k c = map (filled (trapped_by k)) (target_sides t.matrices sizes r c)

-- the matrices after `to` of the called transform
abbrev pub given_back : List ProgTransform → PlanCallValue → List Outcomes → List Outcomes
given_back p c made = drop (option_map_or (λ (called : ProgTransform). called.middles) (slice_get p c.transform) 0) made

module _ (p : List ProgTransform) (number : ℕ) (t : ProgTransform) (sizes : List ℕ) (rule : ℕ) (r : ProgRule) where
  -- at depth 0 no call can be made; else one that doesn't fit; else it is one less deep
  abbrev pub made_by_call : Option Call → PlanCallValue → List Outcomes → List Outcomes
  made_by_call None c given = targets_filled number t sizes rule r DepthEnded c
  made_by_call (Some deeper) c given = if fits_call t.matrices sizes p r c then given_back p c (deeper c.transform given) else targets_filled number t sizes rule r BadShape c

  -- the matrices by their names, after all calls
  abbrev pub plan_names : Option Call → List Outcomes → Names Outcomes
  plan_names deeper given = after_calls no_grid (made_by_call deeper) (calls_of_rule r) (names_of_reads given)

-- ---- calls
module _ (t : ProgTransform) (sizes : List ℕ) where
  -- what stands at a cell's place in the first output, from this number on, that holds the cell
  abbrev pub in_outputs_of : {A : Type 0} → (Slot → Grid A) → Cell → ℕ → List Read → Option A
  in_outputs_of m c k [] = None
  in_outputs_of m c k (o ∷ rest) =
      if output_holds t.matrices sizes c o
      then at_place (m (slot.Out k)) (c.x - natural (shown_area t.matrices sizes no_cell o).x.low) (c.y - natural (shown_area t.matrices sizes no_cell o).y.low)
      else in_outputs_of m c (k + 1) rest

module _ (p : List ProgTransform) (deeper : Option Call) (number : ℕ) (t : ProgTransform) (sizes : List ℕ) where
  -- what a plan makes of a cell, from the outcomes of what it reads
  unfoldable pub plans_over : Plans
  plans_over rule r c seen =
      unwrap_or (in_outputs_of t sizes (named no_grid (plan_names p number t sizes rule r deeper (cut_into (map (sides_of_view t.matrices sizes) r.reads) seen))) c 0 r.outs) no_outcome

-- the sizes that some matrices bind
abbrev pub sizes_given : ProgTransform → List Outcomes → List ℕ
sizes_given t ins = sizes_from t (map sides_of_matrix ins)

module _ (p : List ProgTransform) (config : ConfigValue) where
  -- the matrices that a transform makes of those that are given to it
  abbrev pub made_by_transform : Option Call → ℕ → List Outcomes → ProgTransform → List Outcomes
  made_by_transform deeper number ins t = call_of config (plans_over p deeper number t (sizes_given t ins)) number t (sizes_given t ins) ins

  abbrev pub one_call : Option Call → Call
  one_call deeper number ins = option_map_or (made_by_transform deeper number ins) (slice_get p number) []

  -- a call whose plans may call so many deeper
  unfoldable pub call_at : ℕ → Call
  call_at zero = one_call None
  call_at (suc d) = one_call (Some (call_at d))

  -- the calls that a plan at this depth makes, if it can make any
  abbrev pub deeper_at : ℕ → Option Call
  deeper_at zero = None
  deeper_at (suc d) = Some (call_at d)

  -- what plans make of their cells, in an instance at this depth
  abbrev pub plans_at : ℕ → ℕ → ProgTransform → List ℕ → Plans
  plans_at d number t sizes = plans_over p (deeper_at d) number t sizes
