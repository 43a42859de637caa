use Rattle.std.proofs.Common.{◌≡◌, ◌<◌, List, [], ◌∷◌, length}
use Rattle.pb_syntax.specs.declared.tree.view.CondText.{CondText}
use Rattle.pb_grammar.specs.Want.{Want, condition, more_conditions}
use Rattle.pb_grammar.specs.Reading.{read}
use Rattle.pb_parser.proofs.rule.some_conditions.Given as goal

abbrev pub invariant-loop-cursor : goal.invariant-loop-cursor
invariant-loop-cursor l =
    ((f : List CondText → Want) → read l.fn.cursor.end l.fn.cursor.rest.now (condition 0 (λ c. more_conditions (c ∷ []) f))
    ≡ read l.cursor.end l.cursor.rest.now (more_conditions l.found.items f))
    × (length l.cursor.rest.now < length l.fn.cursor.rest.now)

abbrev pub decreases-loop-cursor : goal.decreases-loop-cursor
decreases-loop-cursor l = length l.cursor.rest.now
