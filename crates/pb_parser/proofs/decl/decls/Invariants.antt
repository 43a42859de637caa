use Rattle.std.proofs.Common.{◌≡◌, ◌+◌, ◌<◌, ◌≤◌, List, length}
use Rattle.pb_syntax.specs.Forms.{DeclValue}
use Rattle.pb_grammar.specs.Want.{Want, decls, more_decls}
use Rattle.pb_syntax.specs.Limits.{counted}
use Rattle.pb_form_parser.specs.Dims.{sizes_known}
use Rattle.pb_grammar.specs.Reading.{read}
use Rattle.pb_parser.proofs.decl.decls.Given as goal

abbrev pub invariant-loop-found : goal.invariant-loop-found
invariant-loop-found l =
    ((f : List DeclValue → Want) → read l.fn.cursor.end l.fn.cursor.rest.now (decls l.fn.before l.fn.sized f)
    ≡ read l.cursor.end l.cursor.rest.now (more_decls l.fn.before l.fn.sized l.found.items f))
    × (sizes_known l.known ≡ counted l.fn.sized l.found.items) × (l.fn.before + length l.found.items ≤ 16) × (length l.cursor.rest.now < length l.fn.cursor.rest.now)

abbrev pub decreases-loop-found : goal.decreases-loop-found
decreases-loop-found l = length l.cursor.rest.now
