use Rattle.std.proofs.Common.{◌≡◌, length}
use Rattle.pb_matrix.specs.Reading.{matrix_read}
use Rattle.pb_matrix.proofs.header.split_header.Given as goal

abbrev pub invariant-loop-rest : goal.invariant-loop-rest
invariant-loop-rest l = matrix_read l.rest ≡ matrix_read l.text

abbrev pub decreases-loop-rest : goal.decreases-loop-rest
decreases-loop-rest l = length l.rest
