-- Places inside a box, and the conditions that bound it.
use Rattle.std.specs.Prelude.{ℕ, ℤ, ◌≤ℤ◌, ◌<ℤ◌, Bool, not, List, filter}
use Rattle.std.specs.List.{AllByRecursion}
use Rattle.pb_linear.specs.Numbers.{exact_value}
use Rattle.pb_program.specs.Conditions.{Condition, conditions}
use Rattle.pb_program.specs.Forms.{DeclValue}
use Rattle.pb_program.specs.Trees.{ProgRule}
use Rattle.pb_region.specs.Boxes.{Limits, is_free}
use Rattle.pb_region.specs.Gaps.{gap}

-- a place is inside: at least each lower bound, and below each upper bound
pub record IsInside (l : Limits) (sizes : List ℕ) (x y : ℤ) : Type 0 where
  pub left : AllByRecursion (λ n. exact_value n sizes ≤ℤ x) l.lower_x
  pub right : AllByRecursion (λ n. x <ℤ exact_value n sizes) l.upper_x
  pub low : AllByRecursion (λ n. exact_value n sizes ≤ℤ y) l.lower_y
  pub high : AllByRecursion (λ n. y <ℤ exact_value n sizes) l.upper_y

-- a condition without a rule variable
abbrev pub is_guarding : Condition → Bool
is_guarding c = is_free (gap c)

-- the conditions of a rule without a rule variable, and those with one
abbrev pub guards : List DeclValue → ProgRule → List Condition
guards matrices r = filter is_guarding (conditions matrices r)

abbrev pub bounding : List DeclValue → ProgRule → List Condition
bounding matrices r = filter (λ c. not (is_guarding c)) (conditions matrices r)
