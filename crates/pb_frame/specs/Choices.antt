-- How the chosen rule of a segment is found: among the segment's rules, by their conditions in which no rule variable plays a part.
use Rattle.std.specs.Prelude.{◌≡◌, ℕ, ℤ, pos, ◌+ℤ◌, int_le, ◌&&◌, ◌||◌, not, Bool, false, List, filter, length, Some, slice_get}
use Rattle.std.specs.List.{list_all, range_with_len}
use Rattle.std.specs.Option.{option_map_or}
use Rattle.std.specs.Ordering.{int_eq}
use Rattle.pb_linear.specs.Numbers.{exact_value}
use Rattle.pb_linear.specs.Sizes.{InRange, leasts_of}
use Rattle.pb_program.specs.Conditions.{Condition, conditions}
use Rattle.pb_program.specs.Configs.{is_in}
use Rattle.pb_program.specs.Forms.{DeclValue}
use Rattle.pb_program.specs.Trees.{ProgRule, ProgTransform}
use Rattle.pb_program.specs.WellFormed.{IsWellFormed}
use Rattle.pb_check.specs.Orders.{AnalysisValue, IsAnalysis}
use Rattle.pb_check.specs.Phases.{IsSound}
use Rattle.pb_views.specs.declared.line.Line.{Line}

-- of an accepted program: a transform with its number, what is found of it, and sizes in range
pub record IsInstance (number : ℕ) (t : ProgTransform) (a : AnalysisValue) (sizes : List ℕ) : Type 0 where
  pub program : List ProgTransform
  pub well_formed : IsWellFormed program
  pub sound : IsSound program
  pub there : slice_get program number ≡ Some t
  pub found : IsAnalysis t a
  pub in_range : InRange (leasts_of t.ranges) sizes

-- no rule variable plays a part, and the left side and so much more is at most the right one; or one does
abbrev pub is_met_by : Line → ℤ → Line → Bool
is_met_by left more right = not (int_eq left.x right.x && int_eq left.y right.y) || int_le (left.rest +ℤ more) right.rest

abbrev pub is_met : List ℕ → Condition → Bool
is_met sizes c = not (int_eq c.left.x c.right.x && int_eq c.left.y c.right.y) || int_le (exact_value c.left.rest sizes +ℤ pos c.more) (exact_value c.right.rest sizes)

-- each condition of a rule is met
unfoldable pub meets : List DeclValue → List ℕ → ProgRule → Bool
meets matrices sizes r = list_all (is_met sizes) (conditions matrices r)

module _ (t : ProgTransform) (sizes : List ℕ) where
  abbrev pub meets_at : ℕ → Bool
  meets_at k = option_map_or (meets t.matrices sizes) (slice_get t.rules k) false

  -- the rules that do, by number
  unfoldable pub met_of : List ℕ
  met_of = filter meets_at (range_with_len 0 (length t.rules))

  -- those of them that are among a segment's rules
  abbrev pub able_of : List ℕ → List ℕ
  able_of rules = filter (is_in rules) met_of
