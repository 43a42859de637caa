-- The cells of a transform's matrices, and those that a rule reads.
use Rattle.std.specs.Prelude.{◌≡◌, ℕ, ℤ, pos, negsuc, ◌<ℤ◌, int_le, List, [], filter, map, Some, slice_get}
use Rattle.std.specs.List.{Contains, flat_map, range_with_len}
use Rattle.std.specs.Option.{option_map_or}
use Rattle.pb_linear.specs.Numbers.{exact_value}
use Rattle.pb_linear.specs.Sizes.{InRange, leasts_of}
use Rattle.pb_program.specs.declared.view.Read.{Read}
use Rattle.pb_program.specs.Areas.{Area, IsIn, Span, area_of}
use Rattle.pb_program.specs.Forms.{DeclValue}
use Rattle.pb_program.specs.Trees.{ProgRule, ProgTransform}

-- the number of a matrix, and a place in it
pub record Cell : Type 0 where
  pub matrix : ℕ
  pub x : ℕ
  pub y : ℕ

-- a cell of a transform's matrices, at sizes in range
pub record IsCell (t : ProgTransform) (sizes : List ℕ) (c : Cell) : Type 0 where
  pub in_range : InRange (leasts_of t.ranges) sizes
  pub decl : DeclValue
  pub there : slice_get t.matrices c.matrix ≡ Some decl
  pub before_x : pos c.x <ℤ exact_value decl.w sizes
  pub before_y : pos c.y <ℤ exact_value decl.h sizes

-- 0 in the place of a negative number
abbrev pub natural : ℤ → ℕ
natural (pos n) = n
natural (negsuc n) = 0

-- the numbers of a span that aren't negative, rising
abbrev pub numbers_of : Span → List ℕ
numbers_of s = filter (λ n. int_le s.low (pos n)) (range_with_len 0 (natural s.high))

-- the cells of an area of a matrix, row by row; no place is negative
unfoldable pub cells_of : ℕ → Area → List Cell
cells_of matrix a = flat_map (λ y. map (λ x. record { matrix = matrix; x = x; y = y }) (numbers_of a.x)) (numbers_of a.y)

-- the cells that a view shows, for the rule variables of this cell
abbrev pub cells_of_view : List DeclValue → List ℕ → Cell → Read → List Cell
cells_of_view matrices sizes c r = option_map_or (λ d. cells_of r.matrix (area_of sizes (pos c.x) (pos c.y) r d)) (slice_get matrices r.matrix) []

-- the cells of the declared reads of a rule, read by read
unfoldable pub reads : List DeclValue → List ℕ → Cell → ProgRule → List Cell
reads matrices sizes c r = flat_map (cells_of_view matrices sizes c) r.reads

-- a view shows a cell, for the rule variables of another
pub record Shows (matrices : List DeclValue) (sizes : List ℕ) (c : Cell) (r : Read) (shown : Cell) : Type 0 where
  pub decl : DeclValue
  pub there : slice_get matrices r.matrix ≡ Some decl
  pub same : r.matrix ≡ shown.matrix
  pub inside : IsIn (area_of sizes (pos c.x) (pos c.y) r decl) (pos shown.x) (pos shown.y)

-- a rule reads a cell, for the rule variables of another
pub record ReadsCell (matrices : List DeclValue) (sizes : List ℕ) (c : Cell) (r : ProgRule) (shown : Cell) : Type 0 where
  pub read : Read
  pub declared : Contains r.reads read
  pub shows : Shows matrices sizes c read shown
