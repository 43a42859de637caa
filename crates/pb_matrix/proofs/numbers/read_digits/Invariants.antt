use Rattle.std.proofs.Common.{◌≡◌, drop}
use Rattle.pb_matrix.specs.Digits.{magnitude_after}
use Rattle.pb_matrix.proofs.numbers.read_digits.Given as goal

abbrev pub invariant-loop-byte : goal.invariant-loop-byte
invariant-loop-byte l = magnitude_after l.value (drop l.byte-index l.word) ≡ magnitude_after 0 l.word
