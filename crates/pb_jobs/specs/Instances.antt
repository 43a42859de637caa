-- An instance of a transform, and what its rules give.
use Rattle.std.specs.Prelude.{◌≡◌, ◌≢◌, ℕ, ◌≤◌, ℤ, List, length, map, Result, Some, slice_get}
use Rattle.std.specs.List.{All}
use Rattle.pb_linear.specs.Sizes.{sizes_of}
use Rattle.pb_linear.specs.declared.sizes.Sizes.{Sizes}
use Rattle.pb_linear.specs.declared.sizes.TheConstants.{SIZE_TOP}
use Rattle.pb_values.specs.Cells.{Turn}
use Rattle.pb_values.specs.declared.outcome.Outcome.{Outcome}
use Rattle.pb_values.specs.declared.outcome.Trap.{Trap}
use Rattle.pb_values.specs.declared.view.View.{View}
use Rattle.pb_program.specs.Transforms.{ProgValue, TransformValue}
use Rattle.pb_program.specs.Trees.{ProgRule, ProgTransform, bare_prog, bare_transform}
use Rattle.pb_program.specs.WellFormed.{IsTransform}
use Rattle.pb_program.specs.declared.expression.Expr.{Expr}
use Rattle.pb_program.specs.declared.rule.RuleKind.TheVariants as kind
use Rattle.pb_model.specs.Cells.{Cell, reads}
use Rattle.pb_model.specs.Equations.{rule_gives}
use Rattle.pb_eval.specs.CanRun.{at_variables}
use Rattle.pb_eval.specs.Formulas.{IsFormula}
use Rattle.pb_statements.specs.Shown.{outcome_of}
use Rattle.pb_views.specs.Layouts.{HasShortSides}
use Rattle.pb_views.specs.Windows.{AreLaid, number_in}
use Rattle.pb_views.specs.declared.window.Window.{Window}
use Rattle.pb_jobs.specs.Shown.{AreRuleWindows, AreShown, AreWindows, CanRun, WindowsValue}

pub record InstanceValue : Type 0 where
  pub program : ProgValue
  pub number : ℕ
  pub transform : TransformValue
  pub sizes : Sizes
  pub views : List View
  pub windows : List WindowsValue

abbrev pub of_transform : InstanceValue → ProgTransform
of_transform v = bare_transform v.transform

abbrev pub of_sizes : InstanceValue → List ℕ
of_sizes v = sizes_of v.sizes

-- the transform is the program's, and well-formed; no size is above `SIZE_TOP`, and no side above the limit; each matrix is a view
-- with its sides, whatever its cells are; and the windows are those of the rules
pub record IsReady (v : InstanceValue) : Type 0 where
  pub there : slice_get (bare_prog v.program) v.number ≡ Some (of_transform v)
  pub fits : IsTransform (length (bare_prog v.program)) (of_transform v)
  pub top : All (λ size. size ≤ SIZE_TOP) v.sizes.of
  pub sides : All (HasShortSides (of_sizes v)) (of_transform v).matrices
  pub laid : AreLaid (of_transform v).matrices (of_sizes v) v.views
  pub windows : AreRuleWindows (of_sizes v) (of_transform v).rules v.windows

-- ---- running a rule
-- the rule with this number computes, and can be run for these rule variables
pub record CanRunRule (v : InstanceValue) (k x y : ℕ) (turn : Turn) : Type 0 where
  pub rule : ProgRule
  pub there : slice_get (of_transform v).rules k ≡ Some rule
  pub computes : rule.kind ≢ kind.Plan
  pub can : CanRun (of_transform v).matrices (of_sizes v) v.views rule x y turn

-- what a reader tells of some cells
abbrev pub told_of : InstanceValue → Turn → List Cell → List Outcome
told_of v turn cells = map (λ d. outcome_of turn (number_in v.views d)) cells

-- what the rule gives for these rule variables, of what it is told
abbrev pub given_by : InstanceValue → ℕ → ProgRule → ℕ → ℕ → Turn → Result (List ℤ) Trap
given_by v k rule x y turn =
    rule_gives (of_transform v).matrices (of_sizes v) (at_variables x y) v.number k rule (told_of v turn (reads (of_transform v).matrices (of_sizes v) (at_variables x y) rule))

-- these views show what a rule reads for these rule variables
pub record AreShownFor (v : InstanceValue) (rule : ProgRule) (x y : ℕ) (views : List View) : Type 0 where
  pub windows : List Window
  pub are : AreWindows (of_sizes v) rule.reads windows
  pub shown : AreShown v.views x y rule.reads windows (length rule.reads) views

-- and of the rule with this number
abbrev pub AreReadsOf : InstanceValue → ℕ → ℕ → ℕ → List View → Type 0
AreReadsOf v k x y views = (rule : ProgRule) → slice_get (of_transform v).rules k ≡ Some rule → AreShownFor v rule x y views

-- the body of the rule with this number only assigns the value of this expression to its output
abbrev pub HasFormula : InstanceValue → ℕ → Expr → Type 0
HasFormula v k e = (rule : ProgRule) → slice_get (of_transform v).rules k ≡ Some rule → IsFormula rule e
