-- Which limits a run passes.
use Rattle.std.specs.Prelude.{◌⊎◌, ◌≤◌, ℕ, List, length, map}
use Rattle.pb_program.specs.Configs.{ConfigValue}
use Rattle.pb_program.specs.Trees.{ProgTransform}
use Rattle.pb_model.specs.Calls.{Outcomes}
use Rattle.pb_check.specs.Orders.{AnalysisValue}
use Rattle.pb_entry.specs.declared.refusal.RunRefusal.{RunRefusal}
use Rattle.pb_links.specs.Links.{link_count}
use Rattle.pb_taskgraph.specs.declared.limits.TheConstants.{MOST_LINKS, MOST_TASKS}
use Rattle.pb_recursion.specs.Counts.{Counted, run_count}
use Rattle.pb_recursion.specs.Depths.{sides_of_matrix}
use Rattle.pb_steps.specs.Handed.{AreFew, AreMany}
use Rattle.pb_steps.specs.Handed.{Step, places_of}
use Rattle.pb_steps.specs.Handed.{unrolled_run}
pub use Rattle.pb_run_graph.specs.Linking.{IsTooMany}

-- a run of a transform by its number with some matrices
module _ (p : List ProgTransform) (found : List AnalysisValue) (config : ConfigValue) (grain depth number : ℕ) (ins : List Outcomes) where
  -- its steps
  abbrev pub run_steps : List Step
  run_steps = (unrolled_run p found config grain depth number (map sides_of_matrix ins)).steps

  -- its calls, its greatest side, and its cells
  abbrev pub counted : Counted
  counted = run_count p config depth number (map sides_of_matrix ins)

  -- its counts are within their limits
  pub record IsWithin : Type 0 where
    pub counts : AreFew counted
    pub tasks : length run_steps ≤ MOST_TASKS
    pub links : link_count (map places_of run_steps) ≤ MOST_LINKS

  -- a count passes its limit, and none that comes before it: the calls, the greatest side, the cells; then the tasks, the links
  abbrev pub IsTooLarge : RunRefusal → Type 0
  IsTooLarge e = AreMany counted e ⊎ (AreFew counted × IsTooMany run_steps e)
