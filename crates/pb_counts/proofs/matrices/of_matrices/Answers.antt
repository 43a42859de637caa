use Rattle.std.proofs.Common.{pos}
use Rattle.pb_recursion.specs.Counts.{matrix_of}
use Rattle.pb_counts.specs.Tallies.{counted}
use Rattle.pb_counts.proofs.TallyLemmas.{count_next}
use Rattle.pb_counts.proofs.matrices.of_matrices.Goals as goal

pub loop-sides-preserved : goal.loop-sides-preserved
loop-sides-preserved c =
    count_next matrix_of c.args.given.now c.loop-sides.sides-index (pos 0, pos 0) c.loop-sides-test.true (counted c.loop-sides.tally) (counted c.of_matrix.result) (counted c.both-tally.result) c.loop-sides.invariant c.of_matrix.ensures c.both-tally.ensures
