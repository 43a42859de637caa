-- A run that can be entered: what its laws ask for, and what they say.
use Rattle.std.specs.Prelude.{◌≡◌, ◌⊎◌, ℕ, ◌<◌, ◌≤◌, IsTrue, List, map, take, Some, slice_get}
use Rattle.std.specs.List.{All, Contains}
use Rattle.pb_program.specs.Configs.{ConfigValue, IsValid}
use Rattle.pb_program.specs.Trees.{ProgTransform}
use Rattle.pb_program.specs.WellFormed.{IsWellFormed}
use Rattle.pb_model.specs.Calls.{Outcomes}
use Rattle.pb_check.specs.Orders.{AnalysisValue, AreFound}
use Rattle.pb_check.specs.Phases.{IsSound}
use Rattle.pb_links.specs.Links.{predecessors}
use Rattle.pb_recursion.specs.Depths.{IsWhole, sides_of_matrix}
use Rattle.pb_recursion.specs.Shapes.{can_enter}
use Rattle.pb_runs.specs.Placed.{total}
use Rattle.pb_runs.specs.Steps.{Step, cells_of, places_of}

-- of an accepted program, with what is found of its transforms, and a valid configuration: a transform by its number, and
-- matrices that can enter it
pub record IsEntered (p : List ProgTransform) (found : List AnalysisValue) (config : ConfigValue) (number : ℕ) (ins : List Outcomes) : Type 0 where
  pub well : IsWellFormed p
  pub sound : IsSound p
  pub are_found : AreFound p found
  pub valid : IsValid p config
  pub transform : ProgTransform
  pub there : slice_get p number ≡ Some transform
  pub whole : All IsWhole ins
  pub enters : IsTrue (can_enter transform (map sides_of_matrix ins))

-- a cell is given to the run; or a step makes it that stands before the step with this number, or is this one
abbrev pub IsThere : List Outcomes → List Step → ℕ → ℕ → Type 0
IsThere ins steps k c = (c < total ins) ⊎ ((u : ℕ) × (s : Step) × (u ≤ k) × (slice_get steps u ≡ Some s) × Contains (cells_of s) c)

-- what the step with this number may read when it has made so many of its cells: a cell that is given, one of a step for which it
-- waits, or one of these
abbrev pub MayUse : List Outcomes → List Step → ℕ → ℕ → ℕ → Type 0
MayUse ins steps k done c =
    (c < total ins)
    ⊎ (((u : ℕ) × (s : Step) × Contains (predecessors (map places_of steps) k) u × (slice_get steps u ≡ Some s) × Contains (cells_of s) c)
    ⊎ ((s : Step) × (slice_get steps k ≡ Some s) × Contains (take done (cells_of s)) c))

-- a cell is given to the run; or a step makes it for which the step with this number waits, or which is this one
abbrev pub IsLinked : List Outcomes → List Step → ℕ → ℕ → Type 0
IsLinked ins steps k c = (c < total ins) ⊎ ((u : ℕ) × (s : Step) × ((u ≡ k) ⊎ Contains (predecessors (map places_of steps) k) u) × (slice_get steps u ≡ Some s) × Contains (cells_of s) c)
