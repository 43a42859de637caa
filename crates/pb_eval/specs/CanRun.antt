-- When a rule can be run for a cell.
use Rattle.std.specs.Prelude.{◌≡◌, ◌≢◌, ℕ, ◌≤◌, ◌<◌, IsTrue, is_some, List, length, map, Some, slice_get}
use Rattle.std.specs.List.{All, flat_map}
use Rattle.pb_syntax.specs.declared.limits.TheConstants.{MOST_VIEWS}
use Rattle.pb_values.specs.Cells.{Turn}
use Rattle.pb_values.specs.Views.{view_cells}
use Rattle.pb_values.specs.declared.shape.TheConstants.{MOST_SIDE}
use Rattle.pb_values.specs.declared.view.View.{View}
use Rattle.pb_program.specs.declared.rule.RuleKind.TheVariants as kind
use Rattle.pb_program.specs.Forms.{DeclValue}
use Rattle.pb_program.specs.Stmts.{stmts}
use Rattle.pb_program.specs.Trees.{ProgRule, ProgTransform}
use Rattle.pb_program.specs.WellFormed.{KindFits}
use Rattle.pb_model.specs.Cells.{Cell}
use Rattle.pb_model.specs.Equations.{view_sides}
use Rattle.pb_statements.specs.Outputs.{numbers_in}
use Rattle.pb_statements.specs.Rooms.{locals_among}

-- the sides of a view
abbrev pub shape_sides : View → ℕ × ℕ
shape_sides v = (v.shape.w, v.shape.h)

-- what is true of a computing rule of a well-formed program
pub record IsRunnable (matrices : List DeclValue) (r : ProgRule) : Type 0 where
  pub kind : r.kind ≢ kind.Plan
  pub fits : KindFits r.kind r.outs
  pub few : length r.outs ≤ MOST_VIEWS
  pub there : All (λ out. out.matrix < length matrices) r.outs

-- there is one view for each read, with its sides at these values of the rule variables, and each of its cells is told
pub record AreReads (matrices : List DeclValue) (sizes : List ℕ) (c : Cell) (r : ProgRule) (views : List View) (turn : Turn) : Type 0 where
  pub sides : map shape_sides views ≡ map (view_sides matrices sizes c) r.reads
  pub small : All (λ v. (v.shape.w ≤ MOST_SIDE) × (v.shape.h ≤ MOST_SIDE)) views
  pub told : All (λ cell. IsTrue (is_some (turn.outcomes cell))) (flat_map view_cells views)

-- the room that a rule needs: for its locals, and for the numbers of its outputs
abbrev pub locals_needed : ProgRule → ℕ
locals_needed r = locals_among (stmts r.body)

abbrev pub outs_needed : List DeclValue → List ℕ → Cell → ProgRule → ℕ
outs_needed matrices sizes c r = numbers_in (map (view_sides matrices sizes c) r.outs)

-- a fact of rule `r` of transform `t` of a program, if there is one
abbrev pub OfRule : List ProgTransform → ℕ → ℕ → (ProgTransform → ProgRule → Type 0) → Type 0
OfRule p t r P = (transform : ProgTransform) (rule : ProgRule) → slice_get p t ≡ Some transform → slice_get transform.rules r ≡ Some rule → P transform rule

-- the rule variables as a cell of no matrix in particular
abbrev pub at_variables : ℕ → ℕ → Cell
at_variables x y = record { matrix = 0; x = x; y = y }
