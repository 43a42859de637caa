-- The rules that may make a cell.
use Rattle.std.specs.Prelude.{◌≡◌, ℕ, ◌≤◌, ℤ, pos, ◌+ℤ◌, int_le, int_lt, nat_le, Bool, false, IsTrue, ◌&&◌, ◌||◌, not, ◌==◌, List, filter, length, Some, slice_get}
use Rattle.std.specs.List.{list_all, list_any, range_with_len}
use Rattle.std.specs.Option.{option_map_or}
use Rattle.pb_program.specs.declared.rule.RuleKind.{RuleKind}
use Rattle.pb_program.specs.declared.rule.RuleKind.TheVariants as kind
use Rattle.pb_program.specs.declared.view.Read.{Read}
use Rattle.pb_program.specs.Areas.{Area, area_of}
use Rattle.pb_program.specs.Conditions.{Applies, Condition, conditions}
use Rattle.pb_program.specs.Configs.{writes}
use Rattle.pb_program.specs.Forms.{DeclValue, coordinate_at}
use Rattle.pb_program.specs.Trees.{ProgRule, ProgTransform}
use Rattle.pb_model.specs.Cells.{Cell}

-- a place lies in an area
abbrev pub has : Area → ℤ → ℤ → Bool
has a x y = (int_le a.x.low x && int_lt x a.x.high) && (int_le a.y.low y && int_lt y a.y.high)

-- a condition is true
abbrev pub holds : List ℕ → ℤ → ℤ → Condition → Bool
holds sizes x y c = int_le (coordinate_at c.left sizes x y +ℤ pos c.more) (coordinate_at c.right sizes x y)

-- each condition of a rule is
abbrev pub applies : List DeclValue → ProgRule → List ℕ → ℤ → ℤ → Bool
applies matrices r sizes x y = list_all (holds sizes x y) (conditions matrices r)

module _ (matrices : List DeclValue) (sizes : List ℕ) (c : Cell) where
  -- an output, in which rule variables play no part, holds the cell
  abbrev pub output_holds : Read → Bool
  output_holds out = (out.matrix == c.matrix) && option_map_or (λ d. has (area_of sizes (pos 0) (pos 0) out d) (pos c.x) (pos c.y)) (slice_get matrices out.matrix) false

  -- a rule writes the cell: one for single cells each cell of its matrix, any other those that its outputs hold
  abbrev pub writes_by : RuleKind → ProgRule → Bool
  writes_by kind.Cell r = writes c.matrix r
  writes_by _ r = list_any output_holds r.outs

  -- it writes the cell, and applies there
  abbrev pub can_make : ProgRule → Bool
  can_make r = writes_by r.kind r && applies matrices r sizes (pos c.x) (pos c.y)

  -- it can make the cell, and no rule of smaller priority can
  abbrev pub comes_first : List ProgRule → ProgRule → Bool
  comes_first rules r = can_make r && list_all (λ other. not (can_make other) || nat_le r.priority other.priority) rules

-- the rule of this number may make the cell
abbrev pub is_lawful : ProgTransform → List ℕ → Cell → ℕ → Bool
is_lawful t sizes c k = option_map_or (comes_first t.matrices sizes c t.rules) (slice_get t.rules k) false

-- the numbers of the rules that may make a cell, rising
unfoldable pub lawful : ProgTransform → List ℕ → Cell → List ℕ
lawful t sizes c = filter (is_lawful t sizes c) (range_with_len 0 (length t.rules))

-- ---- the same without tests
-- a rule writes the cell
abbrev pub WritesBy : List DeclValue → List ℕ → Cell → RuleKind → ProgRule → Type 0
WritesBy matrices sizes c kind.Cell r = IsTrue (writes c.matrix r)
WritesBy matrices sizes c _ r = IsTrue (list_any (output_holds matrices sizes c) r.outs)

pub record CanMake (matrices : List DeclValue) (sizes : List ℕ) (c : Cell) (r : ProgRule) : Type 0 where
  pub writes : WritesBy matrices sizes c r.kind r
  pub applies : Applies matrices r sizes (pos c.x) (pos c.y)

-- the rule of this number can make the cell, and none of smaller priority can
pub record IsLawful (t : ProgTransform) (sizes : List ℕ) (c : Cell) (k : ℕ) : Type 0 where
  pub rule : ProgRule
  pub there : slice_get t.rules k ≡ Some rule
  pub can : CanMake t.matrices sizes c rule
  pub least : (j : ℕ) (other : ProgRule) → slice_get t.rules j ≡ Some other → CanMake t.matrices sizes c other → rule.priority ≤ other.priority
