use Rattle.std.proofs.Common.{◌≡◌, ◌≤◌, List, [], ◌∷◌, length}
use Rattle.pb_syntax.specs.declared.tree.form.TermText.{TermText}
use Rattle.pb_grammar.specs.Want.{Want, more_terms}
use Rattle.pb_grammar.specs.Reading.{read}
use Rattle.pb_form_parser.proofs.forms.more_terms.Given as goal

abbrev pub invariant-loop-terms : goal.invariant-loop-terms
invariant-loop-terms l =
    ((f : List TermText → Want) → read l.fn.cursor.end l.fn.cursor.rest.now (more_terms (l.fn.first ∷ []) f)
    ≡ read l.cursor.end l.cursor.rest.now (more_terms l.terms.items f))
    × (length l.cursor.rest.now ≤ length l.fn.cursor.rest.now)

abbrev pub decreases-loop-terms : goal.decreases-loop-terms
decreases-loop-terms l = length l.cursor.rest.now
