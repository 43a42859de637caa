use Rattle.std.proofs.Common.{◌≡◌, ◌+◌, ◌≤◌, [], length, ℕ, ◌-◌, ◌*◌, List}
use Rattle.pb_syntax.specs.Stmts.{StmtTree}
use Rattle.pb_body_parser.specs.Bare.{bare_stmts}
use Rattle.pb_grammar.specs.Want.{Want, statements}
use Rattle.pb_form_parser.specs.Leads.{from}
use Rattle.pb_body_parser.proofs.statement.+statements.Given as goal

-- how deep statements go: brackets first, then from a block to its parts
abbrev pub above : ℕ → ℕ → ℕ
above depth rank = 8 * (33 - depth) + rank

abbrev pub decreases-block : goal.decreases-block
decreases-block l = above l.depth 0

abbrev pub decreases-otherwise : goal.decreases-otherwise
decreases-otherwise l = above l.depth 1

abbrev pub decreases-after_if : goal.decreases-after_if
decreases-after_if l = above l.depth 2

abbrev pub decreases-after_for : goal.decreases-after_for
decreases-after_for l = above l.depth 2

abbrev pub decreases-statement : goal.decreases-statement
decreases-statement l = above l.depth 3

abbrev pub decreases-next_statement : goal.decreases-next_statement
decreases-next_statement l = above l.depth 4

abbrev pub decreases-statements : goal.decreases-statements
decreases-statements l = above l.depth 5

abbrev pub invariant-statements-loop-cursor : goal.invariant-statements-loop-cursor
invariant-statements-loop-cursor l =
    ((f : List StmtTree → ℕ → Want) → from l.fn.cursor (statements l.fn.depth l.fn.count [] f)
    ≡ from l.cursor (statements l.depth l.count (bare_stmts l.found.items) f))
    × (l.depth ≤ 32) × (l.count ≤ 256) × (length l.cursor.rest.now ≤ length l.fn.cursor.rest.now)

abbrev pub decreases-statements-loop-cursor : goal.decreases-statements-loop-cursor
decreases-statements-loop-cursor l = length l.cursor.rest.now
