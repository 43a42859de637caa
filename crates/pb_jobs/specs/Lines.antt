-- Lines of cells that need only the first cells of what their rule reads.
use Rattle.std.specs.Prelude.{◌≡◌, ℕ, List, length, map, Some, slice_get}
use Rattle.pb_values.specs.declared.view.View.{View}
use Rattle.pb_program.specs.declared.expression.Expr.{Expr}
use Rattle.pb_program.specs.declared.view.Read.{Read}
use Rattle.pb_eval.specs.FirstCells.{BeginAt}
use Rattle.pb_eval.specs.Moving.{cells_at}
use Rattle.pb_eval.specs.Terms.{StandFor, TermsValue}
use Rattle.pb_eval.specs.declared.moving.Moving.{Moving}
use Rattle.pb_views.specs.declared.window.Window.{Window}
use Rattle.pb_walk.specs.declared.stretch.Stretch.{Stretch}
use Rattle.pb_walk.specs.Stretches.{place_on}
use Rattle.pb_jobs.specs.Advances.{AreShaped}
use Rattle.pb_jobs.specs.Distances.{IsStep}
use Rattle.pb_jobs.specs.Instances.{AreReadsOf, HasFormula, InstanceValue}
use Rattle.pb_jobs.specs.Shown.{AreShown}
use Rattle.pb_jobs.specs.declared.advance.Advance.{Advance}

abbrev pub first_cells : List View → List ℕ
first_cells views = map (λ (v : View). v.first) views

-- there are views with the steps and the shapes of advances that begin at these cells and show what is read at a place of a stretch
pub record ShowFrom (matrices : List View) (s : Stretch) (i : ℕ) (reads : List Read) (windows : List Window) (advances : List Advance) (cells : List ℕ) : Type 0 where
  pub views : List View
  pub shown : AreShown matrices (place_on s i).x (place_on s i).y reads windows (length reads) views
  pub shaped : AreShaped advances views
  pub first : first_cells views ≡ cells

-- one by one, these cells begin at the first cells of views, and go as far as advances
pub record AreMoving (advances : List Advance) (views : List View) (cells : List Moving) : Type 0 where
  pub count : length cells ≡ length views
  pub first : cells_at cells 0 ≡ first_cells views
  pub by : (k : ℕ) (a : Advance) (m : Moving) → slice_get advances k ≡ Some a → slice_get cells k ≡ Some m → IsStep a.far m.by

-- what the rule with this number reads for these rule variables begins at these cells
pub record ReadFrom (v : InstanceValue) (k x y : ℕ) (cells : List ℕ) : Type 0 where
  pub views : List View
  pub reads : AreReadsOf v k x y views
  pub begin : BeginAt cells views

-- these terms, if they are whole, are those of the formula of the rule with this number
pub record AreTermsOf (v : InstanceValue) (k : ℕ) (t : TermsValue) : Type 0 where
  pub formula : Expr
  pub is : HasFormula v k formula
  pub stand : StandFor formula t
