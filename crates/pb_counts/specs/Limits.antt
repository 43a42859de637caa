-- Which limits the counts of a run pass.
use Rattle.std.specs.Prelude.{◌≤◌, ◌<◌, ℕ, List, map}
use Rattle.pb_values.specs.declared.shape.TheConstants.{MOST_SIDE}
use Rattle.pb_taskgraph.specs.declared.limits.TheConstants.{MOST_CELLS}
use Rattle.pb_program.specs.Configs.{ConfigValue}
use Rattle.pb_program.specs.Trees.{ProgTransform}
use Rattle.pb_model.specs.Calls.{Outcomes}
use Rattle.pb_calls.specs.Given.{AreGiven}
use Rattle.pb_entry.specs.declared.refusal.Count.TheVariants.{Calls, Cells, Side}
use Rattle.pb_entry.specs.declared.refusal.RunRefusal.{RunRefusal}
use Rattle.pb_entry.specs.declared.refusal.RunRefusal.TheVariants.{TooLarge}
use Rattle.pb_recursion.specs.Counts.{Counted, run_count}
use Rattle.pb_recursion.specs.Depths.{sides_of_matrix}
use Rattle.pb_counts.specs.declared.count.TheConstants.{MOST_CALLS}

pub record AreFew (c : Counted) : Type 0 where
  pub calls : c.calls ≤ MOST_CALLS
  pub side : c.side ≤ MOST_SIDE
  pub cells : c.cells ≤ MOST_CELLS

-- a count passes its limit, and none that comes before it
abbrev pub AreMany : Counted → RunRefusal → Type 0
AreMany c (TooLarge Calls) = MOST_CALLS < c.calls
AreMany c (TooLarge Side) = (c.calls ≤ MOST_CALLS) × (MOST_SIDE < c.side)
AreMany c (TooLarge Cells) = (c.calls ≤ MOST_CALLS) × (c.side ≤ MOST_SIDE) × (MOST_CELLS < c.cells)
AreMany c _ = ⊥

-- of the run over any matrices that are given for these sizes
abbrev pub OfRun : List ProgTransform → ConfigValue → ℕ → ℕ → ProgTransform → List ℕ → (Counted → Type 0) → Type 0
OfRun p config depth number t sizes P = (ins : List Outcomes) → AreGiven t sizes ins → P (run_count p config depth number (map sides_of_matrix ins))
