-- When the tasks of a run can be linked whose cost is asked for.
use Rattle.std.specs.Prelude.{◌≡◌, ℕ, List, map}
use Rattle.std.specs.List.{All}
use Rattle.pb_program.specs.Configs.{ConfigValue}
use Rattle.pb_program.specs.Trees.{bare_prog}
use Rattle.pb_model.specs.Calls.{Outcomes}
use Rattle.pb_check.specs.Accepting.{AcceptedValue}
use Rattle.pb_taskgraph.specs.Plans.{IsSmall}
use Rattle.pb_recursion.specs.Counts.{run_count}
use Rattle.pb_recursion.specs.Depths.{sides_of_matrix}
use Rattle.pb_recursion.specs.Shapes.{Sides}
use Rattle.pb_counts.specs.Limits.{AreFew}
use Rattle.pb_run_graph.specs.Handed.{IsEntered}
use Rattle.pb_cost.specs.declared.at_size.TheConstants.{COST_DEPTH}

-- some matrices have these sides, and a run over them is entered and counts little
pub record CanBeBegun (a : AcceptedValue) (config : ConfigValue) (number : ℕ) (given : List Sides) : Type 0 where
  pub ins : List Outcomes
  pub sides : map sides_of_matrix ins ≡ given
  pub entered : IsEntered (bare_prog a.program) a.found config number ins
  pub small : All (λ (m : Outcomes). All IsSmall m.cells) ins
  pub few : AreFew (run_count (bare_prog a.program) config COST_DEPTH number (map sides_of_matrix ins))
