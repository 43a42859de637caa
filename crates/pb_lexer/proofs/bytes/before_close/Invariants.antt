use Rattle.std.proofs.Common.{◌≡◌, ◌+◌, length}
use Rattle.pb_lexer.specs.Reading.{close_from}
use Rattle.pb_lexer.proofs.bytes.before_close.Given as goal

abbrev pub invariant-loop-rest : goal.invariant-loop-rest
invariant-loop-rest l = (close_from l.size l.rest ≡ close_from 0 l.text) × (l.size + length l.rest ≡ length l.text)

abbrev pub decreases-loop-rest : goal.decreases-loop-rest
decreases-loop-rest l = length l.rest
