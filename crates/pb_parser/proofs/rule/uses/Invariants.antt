use Rattle.std.proofs.Common.{◌≡◌, ◌<◌, List, length}
use Rattle.pb_syntax.specs.declared.tree.view.UseText.{UseText}
use Rattle.pb_grammar.specs.Want.{Want, uses, more_uses}
use Rattle.pb_grammar.specs.Reading.{read}
use Rattle.pb_parser.proofs.rule.uses.Given as goal

abbrev pub invariant-loop-cursor : goal.invariant-loop-cursor
invariant-loop-cursor l =
    ((f : List UseText → Want) → read l.fn.cursor.end l.fn.cursor.rest.now (uses l.what f)
    ≡ read l.cursor.end l.cursor.rest.now (more_uses l.what l.found.items f))
    × (length l.cursor.rest.now < length l.fn.cursor.rest.now)

abbrev pub decreases-loop-cursor : goal.decreases-loop-cursor
decreases-loop-cursor l = length l.cursor.rest.now
