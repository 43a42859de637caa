-- The run of a transform with the matrices that are given to it, and why there is none.
use Rattle.std.specs.Prelude.{◌≡◌, ◌⊎◌, ℕ, List, Some, slice_get}
use Rattle.pb_program.specs.Configs.{ConfigValue}
use Rattle.pb_program.specs.Trees.{bare_prog}
use Rattle.pb_matrix.specs.Value.{MatrixValue}
use Rattle.pb_check.specs.Accepting.{AcceptedValue}
use Rattle.pb_check.specs.Ranked.{OfTransform}
use Rattle.pb_entry.specs.Fitting.{AreBound, AreUnfit}
use Rattle.pb_entry.specs.declared.refusal.RunRefusal.{RunRefusal}
use Rattle.pb_run_work.specs.Given.{given_as}
use Rattle.pb_run_work.specs.Limits.{IsTooLarge, IsWithin}
use Rattle.pb_run_work.specs.Running.{RunValue, of_sizes, of_transform}

-- the run of the transform with this number, with these matrices, at the sizes that they bind
pub record IsUnrolled (a : AcceptedValue) (config : ConfigValue) (number : ℕ) (inputs : List MatrixValue) (depth grain : ℕ) (r : RunValue) : Type 0 where
  pub of_accepted : r.accepted ≡ a
  pub of_config : r.config ≡ config
  pub of_number : r.number ≡ number
  pub of_inputs : r.inputs ≡ inputs
  pub of_depth : r.depth ≡ depth
  pub of_grain : r.grain ≡ grain
  pub there : slice_get (bare_prog a.program) number ≡ Some (of_transform r)
  pub bound : AreBound (of_transform r) inputs (of_sizes r)
  pub within : IsWithin (bare_prog a.program) a.found config grain depth number (given_as inputs)

-- the matrices don't fit the transform; or they do, and a count passes its limit
abbrev pub IsRefused : AcceptedValue → ConfigValue → ℕ → List MatrixValue → ℕ → ℕ → RunRefusal → Type 0
IsRefused a config number inputs depth grain e =
    OfTransform a number (λ t found. AreUnfit t inputs e ⊎ ((sizes : List ℕ) × AreBound t inputs sizes × IsTooLarge (bare_prog a.program) a.found config grain depth number (given_as inputs) e))
