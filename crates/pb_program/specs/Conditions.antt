-- The conditions of a rule, as inequalities over the sizes and the rule variables, and where a rule applies.
use Rattle.std.specs.Prelude.{ℕ, ℤ, pos, ◌+ℤ◌, ◌≤ℤ◌, ◌==◌, if◌then◌else◌, List, [], ◌∷◌, ◌++◌, Option, Some, None, slice_get}
use Rattle.std.specs.List.{AllByRecursion, flat_map}
use Rattle.pb_linear.specs.Numbers.{Numbers}
use Rattle.pb_syntax.specs.declared.tree.expression.Relation.{Relation}
use Rattle.pb_syntax.specs.declared.tree.expression.Relation.TheVariants as relation
use Rattle.pb_program.specs.declared.view.Cond.{Cond}
use Rattle.pb_program.specs.declared.view.Read.{Read}
use Rattle.pb_program.specs.declared.view.ReadView.{ReadView}
use Rattle.pb_program.specs.declared.view.ReadView.TheVariants as view
use Rattle.pb_program.specs.Forms.{CoordinateValue, DeclValue, coordinate_at, nothing, over_sizes}
use Rattle.pb_program.specs.Trees.{ProgRule}

-- `left` plus `more` is at most `right`
pub record Condition : Type 0 where
  pub left : CoordinateValue
  pub more : ℕ
  pub right : CoordinateValue

abbrev pub at_most : CoordinateValue → ℕ → CoordinateValue → Condition
at_most left more right = record { left = left; more = more; right = right }

-- a coordinate of a cell, on an axis with this side
abbrev pub cell_conditions : CoordinateValue → Numbers → List Condition
cell_conditions e side = at_most nothing 0 e ∷ at_most e 1 (over_sizes side) ∷ []

-- the ends of a region, on an axis with this side
abbrev pub region_conditions : CoordinateValue → CoordinateValue → Numbers → List Condition
region_conditions low high side = at_most nothing 0 low ∷ at_most low 0 high ∷ at_most high 0 (over_sizes side) ∷ []

-- those of a view of a matrix, axis x before axis y
abbrev pub by_view : ReadView → Read → DeclValue → List Condition
by_view view.Cell r d = cell_conditions r.x0 d.w ++ (if r.dims == 1 then [] else cell_conditions r.y0 d.h)
by_view view.Row r d = cell_conditions r.y0 d.h
by_view view.Column r d = cell_conditions r.x0 d.w
by_view view.Region r d = region_conditions r.x0 r.x1 d.w ++ (if r.dims == 1 then [] else region_conditions r.y0 r.y1 d.h)
by_view view.Whole r d = []

abbrev pub in_matrix : Read → Option DeclValue → List Condition
in_matrix r None = []
in_matrix r (Some d) = by_view r.view r d

abbrev pub view_conditions : List DeclValue → Read → List Condition
view_conditions matrices r = in_matrix r (slice_get matrices r.matrix)

-- what a written condition says: `a < b` is `a + 1 ≤ b`, and `a == b` is two
abbrev pub by_relation : Relation → CoordinateValue → CoordinateValue → List Condition
by_relation relation.Less a b = at_most a 1 b ∷ []
by_relation relation.LessOrEqual a b = at_most a 0 b ∷ []
by_relation relation.Greater a b = at_most b 1 a ∷ []
by_relation relation.GreaterOrEqual a b = at_most b 0 a ∷ []
by_relation relation.Equal a b = at_most a 0 b ∷ at_most b 0 a ∷ []
by_relation relation.Unequal a b = []

abbrev pub written : Cond → List Condition
written c = by_relation c.relation c.left c.right

-- the conditions of a rule, by number: those of its outputs, of its reads, and those that are written
abbrev pub conditions : List DeclValue → ProgRule → List Condition
conditions matrices r = flat_map (view_conditions matrices) r.outs ++ flat_map (view_conditions matrices) r.reads ++ flat_map written r.conds

-- a condition is true at sizes and at values of the rule variables
abbrev pub Holds : List ℕ → ℤ → ℤ → Condition → Type 0
Holds sizes x y c = (coordinate_at c.left sizes x y +ℤ pos c.more) ≤ℤ coordinate_at c.right sizes x y

-- a rule applies at sizes and at values of its rule variables: every condition of it is true
abbrev pub Applies : List DeclValue → ProgRule → List ℕ → ℤ → ℤ → Type 0
Applies matrices r sizes x y = AllByRecursion (Holds sizes x y) (conditions matrices r)
