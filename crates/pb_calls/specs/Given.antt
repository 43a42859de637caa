-- The matrices that are given to a call.
use Rattle.std.specs.Prelude.{◌≡◌, ℕ, ◌*◌, List, length, Some, slice_get}
use Rattle.pb_linear.specs.Numbers.{exact_value}
use Rattle.pb_program.specs.Forms.{DeclValue}
use Rattle.pb_program.specs.Trees.{ProgTransform}
use Rattle.pb_model.specs.Calls.{Outcomes}
use Rattle.pb_model.specs.Cells.{natural}

-- a matrix has the sides of its declaration, and all its cells
pub record HasSides (sizes : List ℕ) (d : DeclValue) (g : Outcomes) : Type 0 where
  pub width : g.width ≡ natural (exact_value d.w sizes)
  pub height : g.height ≡ natural (exact_value d.h sizes)
  pub all : length g.cells ≡ g.width * g.height

-- there is one for each matrix after `from`
pub record AreGiven (t : ProgTransform) (sizes : List ℕ) (ins : List Outcomes) : Type 0 where
  pub count : length ins ≡ t.inputs
  pub each : (m : ℕ) (d : DeclValue) (g : Outcomes) → slice_get t.matrices m ≡ Some d → slice_get ins m ≡ Some g → HasSides sizes d g
