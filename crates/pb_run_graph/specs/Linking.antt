-- When the tasks of an unrolled run can be linked, and when there are too many.
use Rattle.std.specs.Prelude.{◌≡◌, ◌<◌, ◌≤◌, ℕ, List, length, map}
use Rattle.std.specs.List.{All}
use Rattle.pb_values.specs.declared.shape.TheConstants.{MOST_SIDE}
use Rattle.pb_program.specs.Configs.{ConfigValue}
use Rattle.pb_program.specs.Trees.{bare_prog}
use Rattle.pb_model.specs.Calls.{Outcomes}
use Rattle.pb_check.specs.Accepting.{AcceptedValue}
use Rattle.pb_entry.specs.declared.refusal.Count.TheVariants.{Calls, Cells, Links, Side, Tasks}
use Rattle.pb_entry.specs.declared.refusal.RunRefusal.{RunRefusal}
use Rattle.pb_entry.specs.declared.refusal.RunRefusal.TheVariants.{BadShape, Memory, SizeOutOfRange, TooLarge, UnknownTransform, WrongCount}
use Rattle.pb_links.specs.Links.{link_count}
use Rattle.pb_taskgraph.specs.Plans.{IsSmall}
use Rattle.pb_taskgraph.specs.declared.limits.TheConstants.{MOST_CELLS, MOST_LINKS, MOST_TASKS}
use Rattle.pb_recursion.specs.Depths.{sides_of_matrix}
use Rattle.pb_steps.specs.Handed.{IsEntered}
use Rattle.pb_steps.specs.Handed.{run_matrices}
use Rattle.pb_steps.specs.Handed.{greatest_side, total}
use Rattle.pb_steps.specs.Handed.{Step, places_of}
use Rattle.pb_steps.specs.Handed.{unrolled_run}
use Rattle.pb_steps.specs.Stands.{AreSeated, AreSteps, met_of}
use Rattle.pb_steps.specs.Runs.{UnrolledValue}

-- it is the run of a transform that is entered with some matrices, whose outcomes are small, within the limits on sides and cells; and so
-- many cells are given
pub record CanBeLinked (a : AcceptedValue) (u : UnrolledValue) (inputs : ℕ) : Type 0 where
  pub config : ConfigValue
  pub grain : ℕ
  pub depth : ℕ
  pub number : ℕ
  pub ins : List Outcomes
  pub entered : IsEntered (bare_prog a.program) a.found config number ins
  pub steps : AreSteps (bare_prog a.program) a.found u (unrolled_run (bare_prog a.program) a.found config grain depth number (map sides_of_matrix ins)).steps
  pub met : met_of u.met ≡ (unrolled_run (bare_prog a.program) a.found config grain depth number (map sides_of_matrix ins)).next
  pub seated : AreSeated a config grain u.instances
  pub side : greatest_side (run_matrices (bare_prog a.program) a.found config grain depth number ins) ≤ MOST_SIDE
  pub cells : total (run_matrices (bare_prog a.program) a.found config grain depth number ins) ≤ MOST_CELLS
  pub small : All (λ (m : Outcomes). All IsSmall m.cells) ins
  pub given : inputs ≡ total ins

-- there are more tasks than a run may have; or there are not, but more links
abbrev pub IsTooMany : List Step → RunRefusal → Type 0
IsTooMany steps (TooLarge Tasks) = MOST_TASKS < length steps
IsTooMany steps (TooLarge Links) = (length steps ≤ MOST_TASKS) × (MOST_LINKS < link_count (map places_of steps))
IsTooMany steps (TooLarge Calls) = ⊥
IsTooMany steps (TooLarge Side) = ⊥
IsTooMany steps (TooLarge Cells) = ⊥
IsTooMany steps UnknownTransform = ⊥
IsTooMany steps (WrongCount wanted given) = ⊥
IsTooMany steps (BadShape matrix axis wanted found) = ⊥
IsTooMany steps (SizeOutOfRange size value) = ⊥
IsTooMany steps Memory = ⊥
