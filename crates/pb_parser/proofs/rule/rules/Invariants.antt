use Rattle.std.proofs.Common.{◌≡◌, ◌<◌, List, length, map}
use Rattle.pb_syntax.specs.Trees.{RuleTree, bare_rule}
use Rattle.pb_grammar.specs.Want.{Want, rules, more_rules}
use Rattle.pb_grammar.specs.Reading.{read}
use Rattle.pb_parser.proofs.rule.rules.Given as goal

abbrev pub invariant-loop-cursor : goal.invariant-loop-cursor
invariant-loop-cursor l =
    ((f : List RuleTree → Want) → read l.fn.cursor.end l.fn.cursor.rest.now (rules f)
    ≡ read l.cursor.end l.cursor.rest.now (more_rules (map bare_rule l.found.items) f))
    × (length l.cursor.rest.now < length l.fn.cursor.rest.now)

abbrev pub decreases-loop-cursor : goal.decreases-loop-cursor
decreases-loop-cursor l = length l.cursor.rest.now
