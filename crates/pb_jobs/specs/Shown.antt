-- The views of a rule's reads, for values of its rule variables.
use Rattle.std.specs.Prelude.{◌≡◌, ℕ, ◌≤◌, ◌^◌, pos, IsTrue, is_some, List, length, Some, slice_get}
use Rattle.std.specs.List.{All, AllZip, Contains}
use Rattle.pb_linear.specs.Numbers.{exact_value}
use Rattle.pb_values.specs.Cells.{Turn}
use Rattle.pb_values.specs.declared.view.View.{View}
use Rattle.pb_program.specs.Areas.{area_of}
use Rattle.pb_program.specs.Forms.{DeclValue}
use Rattle.pb_program.specs.Rules.{RuleValue}
use Rattle.pb_program.specs.Trees.{ProgRule}
use Rattle.pb_program.specs.declared.view.Read.{Read}
use Rattle.pb_region.specs.Within.{IsWithin}
use Rattle.pb_model.specs.Cells.{Cell, reads as cells_read}
use Rattle.pb_eval.specs.CanRun.{at_variables}
use Rattle.pb_views.specs.Windows.{AreSteady, IsShown, IsWindow, number_in, shown_by}
use Rattle.pb_views.specs.declared.window.Window.{Window}

-- the windows of views
abbrev pub AreWindows : List ℕ → List Read → List Window → Type 0
AreWindows sizes views windows = AllZip (λ r w. IsWindow r sizes w) views windows

-- those of a rule
pub record WindowsValue : Type 0 where
  pub reads : List Window
  pub outs : List Window

pub record AreWindowsOf (sizes : List ℕ) (r : ProgRule) (w : WindowsValue) : Type 0 where
  pub reads : AreWindows sizes r.reads w.reads
  pub outs : AreWindows sizes r.outs w.outs

-- and of each rule
abbrev pub AreRuleWindows : List ℕ → List ProgRule → List WindowsValue → Type 0
AreRuleWindows sizes rules windows = AllZip (AreWindowsOf sizes) rules windows

-- the coefficients of a rule's views are small
pub record HasSteadyViews (r : RuleValue) : Type 0 where
  pub reads : All AreSteady r.reads
  pub outs : All AreSteady r.outs

-- ---- views
-- a view shows what a window shows of the matrix that a read is of
pub record IsShownFor (matrices : List View) (x y : ℕ) (r : Read) (w : Window) (v : View) : Type 0 where
  pub matrix : View
  pub at : slice_get matrices r.matrix ≡ Some matrix
  pub is : IsShown matrix w.view (shown_by w matrix x y w.view) v

-- there are views for the first reads
pub record AreShown (matrices : List View) (x y : ℕ) (reads : List Read) (windows : List Window) (n : ℕ) (views : List View) : Type 0 where
  pub count : length views ≡ n
  pub each : (k : ℕ) (r : Read) (w : Window) (v : View) → slice_get reads k ≡ Some r → slice_get windows k ≡ Some w → slice_get views k ≡ Some v → IsShownFor matrices x y r w v

-- what a window shows lies within the matrix that its read is of
pub record LiesWithin (matrices : List View) (x y : ℕ) (r : Read) (w : Window) : Type 0 where
  pub matrix : View
  pub at : slice_get matrices r.matrix ≡ Some matrix
  pub within : IsWithin (shown_by w matrix x y w.view) (pos matrix.shape.w) (pos matrix.shape.h)

abbrev pub AreWithin : List View → ℕ → ℕ → List Read → List Window → Type 0
AreWithin matrices x y reads windows = (k : ℕ) (r : Read) (w : Window) → slice_get reads k ≡ Some r → slice_get windows k ≡ Some w → LiesWithin matrices x y r w

-- ---- when a rule can be run
-- for these rule variables it reads within its matrices
pub record ReadsWithin (matrices : List DeclValue) (sizes : List ℕ) (r : ProgRule) (x y : ℕ) : Type 0 where
  pub small_x : x ≤ 2 ^ 23
  pub small_y : y ≤ 2 ^ 23
  pub within : (k : ℕ) (q : Read) (d : DeclValue) → slice_get r.reads k ≡ Some q → slice_get matrices q.matrix ≡ Some d → IsWithin (area_of sizes (pos x) (pos y) q d) (exact_value d.w sizes) (exact_value d.h sizes)

-- and what it reads is told
pub record CanRun (matrices : List DeclValue) (sizes : List ℕ) (views : List View) (r : ProgRule) (x y : ℕ) (turn : Turn) : Type 0 where
  pub reads : ReadsWithin matrices sizes r x y
  pub told : (shown : Cell) → Contains (cells_read matrices sizes (at_variables x y) r) shown → IsTrue (is_some (turn.outcomes (number_in views shown)))
