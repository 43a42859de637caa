use Rattle.std.proofs.Common.{◌≡◌, ◌≤◌, length}
use Rattle.pb_syntax.specs.Stmts.{StmtTree}
use Rattle.pb_grammar.specs.Want.{Want, more_targets}
use Rattle.pb_form_parser.specs.Leads.{from}
use Rattle.pb_body_parser.proofs.statement.more_targets.Given as goal

abbrev pub invariant-loop-cursor : goal.invariant-loop-cursor
invariant-loop-cursor l =
    ((f : StmtTree → Want) → from l.fn.cursor (more_targets l.fn.depth l.fn.first.items f)
    ≡ from l.cursor (more_targets l.depth l.found.items f))
    × (l.depth ≤ 32) × (length l.cursor.rest.now ≤ length l.fn.cursor.rest.now)

abbrev pub decreases-loop-cursor : goal.decreases-loop-cursor
decreases-loop-cursor l = length l.cursor.rest.now
