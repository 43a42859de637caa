use Rattle.std.proofs.Common.{◌≡◌, ◌+◌, ◌≤◌, ◌<◌, length, ℕ, ◌-◌, ◌*◌, List}
use Rattle.pb_syntax.specs.declared.tree.expression.Level.{Level}
use Rattle.pb_syntax.specs.declared.tree.expression.Level.TheVariants as level
use Rattle.pb_syntax.specs.Exprs.{ExprTree, bare}
use Rattle.pb_body_parser.specs.Bare.{bares, bare_operands}
use Rattle.pb_grammar.specs.Want.{Want, more_arguments, some_arguments, more_operands, line}
use Rattle.pb_form_parser.specs.Leads.{from}
use Rattle.pb_body_parser.proofs.expression.+expression.Given as goal

-- how deep an expression goes: brackets first, then the precedence levels
abbrev pub above : ℕ → ℕ → ℕ
above depth rank = 32 * (33 - depth) + rank

abbrev pub rank : Level → ℕ
rank level.Product = 5
rank level.Sum = 7
rank level.Conjunction = 10
rank level.Disjunction = 12

abbrev pub decreases-member : goal.decreases-member
decreases-member l = above l.depth 1

abbrev pub decreases-after_name : goal.decreases-after_name
decreases-after_name l = above l.depth 2

abbrev pub decreases-primary : goal.decreases-primary
decreases-primary l = above l.depth 3

abbrev pub decreases-factor : goal.decreases-factor
decreases-factor l = above l.depth 4

abbrev pub decreases-operand : goal.decreases-operand
decreases-operand l = above l.depth (rank l.level)

abbrev pub decreases-line : goal.decreases-line
decreases-line l = above l.depth (rank l.level + 1)

abbrev pub decreases-comparison : goal.decreases-comparison
decreases-comparison l = above l.depth 9

abbrev pub decreases-expression : goal.decreases-expression
decreases-expression l = above l.depth 14

abbrev pub decreases-next_argument : goal.decreases-next_argument
decreases-next_argument l = above l.depth 15

abbrev pub decreases-some_arguments : goal.decreases-some_arguments
decreases-some_arguments l = above l.depth 16

abbrev pub decreases-arguments : goal.decreases-arguments
decreases-arguments l = above l.depth 17

abbrev pub decreases-coordinates : goal.decreases-coordinates
decreases-coordinates l = above l.depth 0

abbrev pub invariant-some_arguments-loop-cursor : goal.invariant-some_arguments-loop-cursor
invariant-some_arguments-loop-cursor l =
    ((f : List ExprTree → Want) → from l.fn.cursor (some_arguments l.fn.depth f)
    ≡ from l.cursor (more_arguments l.depth (bares l.found.items) f))
    × (l.depth ≤ 32) × (length l.cursor.rest.now < length l.fn.cursor.rest.now)

abbrev pub decreases-some_arguments-loop-cursor : goal.decreases-some_arguments-loop-cursor
decreases-some_arguments-loop-cursor l = length l.cursor.rest.now

abbrev pub invariant-line-loop-operator : goal.invariant-line-loop-operator
invariant-line-loop-operator l =
    ((f : ExprTree → Want) → from l.fn.cursor (line l.fn.level l.fn.depth f)
    ≡ from l.cursor (more_operands l.level l.depth (bare l.first) (bare_operands l.rest.items) f))
    × (l.depth ≤ 32) × (length l.cursor.rest.now < length l.fn.cursor.rest.now)

abbrev pub decreases-line-loop-operator : goal.decreases-line-loop-operator
decreases-line-loop-operator l = length l.cursor.rest.now
