use Rattle.std.proofs.Common.{◌≡◌, length, map}
use Rattle.pb_syntax.specs.Trees.{bare_transform}
use Rattle.pb_grammar.specs.Want.{program, more_transforms}
use Rattle.pb_grammar.specs.Reading.{read}
use Rattle.pb_parser.proofs.transform.read_program.Given as goal

abbrev pub invariant-loop-cursor : goal.invariant-loop-cursor
invariant-loop-cursor l = (read l.fn.end l.fn.tokens program ≡ read l.cursor.end l.cursor.rest.now (more_transforms (map bare_transform l.transforms.items)))

abbrev pub decreases-loop-cursor : goal.decreases-loop-cursor
decreases-loop-cursor l = length l.cursor.rest.now
