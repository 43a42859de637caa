-- What the demonstration runs: 0 multiplies two matrices, 1 makes a rolling sum.
use Rattle.std.specs.Prelude.{◌≡◌, ℕ, zero, suc, List, length, Some, codes, slice_get}
use Rattle.pb_program.specs.Trees.{ProgTransform}
use Rattle.pb_matrix.specs.Value.{MatrixValue}
use Rattle.pb_entry.specs.Entering.{Enters}
use Rattle.pb_entry.specs.Fitting.{AreBound}

-- the transform
abbrev pub demo_transform : ℕ → List ℕ
demo_transform zero = codes "MatrixMultiply"
demo_transform (suc _) = codes "RollingSum"

-- the text of the configuration
abbrev pub demo_config : ℕ → List ℕ
demo_config zero = codes "choose MatrixMultiply.AB {0,1,2,3} = 0 until 32 then 3\n"
demo_config (suc _) = codes "choose RollingSum.B {0,1} = 0 until 2 then 1\n"

-- a program has the transform of a name, which takes these matrices, and they fit it
pub record Takes (p : List ProgTransform) (name : List ℕ) (inputs : List MatrixValue) : Type 0 where
  pub number : ℕ
  pub transform : ProgTransform
  pub enters : Enters p name (length inputs) number
  pub there : slice_get p number ≡ Some transform
  pub sizes : List ℕ
  pub bound : AreBound transform inputs sizes
