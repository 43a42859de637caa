use Rattle.std.proofs.Common.{◌≡◌, drop}
use Rattle.pb_lexer.specs.Reading.{value_after}
use Rattle.pb_lexer.proofs.piece.read_value.Given as goal

abbrev pub invariant-loop-byte : goal.invariant-loop-byte
invariant-loop-byte l = value_after l.value (drop l.byte-index l.digits) ≡ value_after 0 l.digits
