use Rattle.std.proofs.Common.{◌≡◌, ◌<◌, ℕ, List, [], ◌∷◌, length}
use Rattle.pb_values.specs.Name.{NameValue}
use Rattle.pb_grammar.specs.Want.{Want, minimum, more_minimums}
use Rattle.pb_grammar.specs.Reading.{read}
use Rattle.pb_parser.proofs.decl.some_minimums.Given as goal

abbrev pub invariant-loop-cursor : goal.invariant-loop-cursor
invariant-loop-cursor l =
    ((f : List (NameValue × ℕ) → Want) → read l.fn.cursor.end l.fn.cursor.rest.now (minimum 0 (λ m. more_minimums (m ∷ []) f))
    ≡ read l.cursor.end l.cursor.rest.now (more_minimums l.found.items f))
    × (length l.cursor.rest.now < length l.fn.cursor.rest.now)

abbrev pub decreases-loop-cursor : goal.decreases-loop-cursor
decreases-loop-cursor l = length l.cursor.rest.now
