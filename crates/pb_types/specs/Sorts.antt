-- The sort of an expression, and where it begins.
use Rattle.std.specs.Prelude.{ℕ, Bool, true, false, Option, Some, None}
use Rattle.pb_program.specs.declared.meaning.Named.{Named}
use Rattle.pb_syntax.specs.declared.tree.expression.Level.{Level}
use Rattle.pb_syntax.specs.declared.tree.expression.Level.TheVariants as level
use Rattle.pb_syntax.specs.declared.tree.expression.UnarySign.{UnarySign}
use Rattle.pb_syntax.specs.declared.tree.expression.UnarySign.TheVariants as sign
use Rattle.pb_program.specs.Exprs.{ExprValue}
use Rattle.pb_program.specs.Exprs as e
use Rattle.pb_types.specs.declared.sort.Sort.{Sort}
use Rattle.pb_types.specs.declared.sort.Sort.TheVariants.{Number, Truth}

-- the sort of a chain, and of each of its operands
abbrev pub level_sort : Level → Sort
level_sort level.Product = Number
level_sort level.Sum = Number
level_sort level.Conjunction = Truth
level_sort level.Disjunction = Truth

-- the sort of an operand after its sign, and of the operand itself
abbrev pub sign_sort : UnarySign → Sort
sign_sort sign.Minus = Number
sign_sort sign.Not = Truth

-- parentheses have the sort of what is inside; names, cells, sides and calls are numbers
abbrev pub sort_of : ExprValue → Sort
sort_of (e.parentheses at x) = sort_of x
sort_of (e.signed at sign x) = sign_sort sign
sort_of (e.chain level x rest) = level_sort level
sort_of (e.compare x relation y) = Truth
sort_of _ = Number

-- the place of the first byte
abbrev pub place_of : ExprValue → ℕ
place_of (e.number at n) = at
place_of (e.name n) = n.at
place_of (e.call c xs) = c.at
place_of (e.parentheses at x) = at
place_of (e.cell v xs) = v.at
place_of (e.width v) = v.at
place_of (e.height v) = v.at
place_of (e.signed at sign x) = at
place_of (e.chain level x rest) = place_of x
place_of (e.compare x relation y) = place_of x

-- the same sort
abbrev pub is_sort : Sort → Sort → Bool
is_sort Number Number = true
is_sort Truth Truth = true
is_sort _ _ = false

-- the name that the expression is
abbrev pub lone_name : ExprValue → Option Named
lone_name (e.name n) = Some n
lone_name _ = None
