use Rattle.std.proofs.Common.{◌≡◌, map, take}
use Rattle.pb_recursion.specs.Counts.{all_of, matrix_of}
use Rattle.pb_counts.specs.Tallies.{capped, counted}
use Rattle.pb_counts.proofs.matrices.of_matrices.Given as goal

abbrev pub invariant-loop-sides : goal.invariant-loop-sides
invariant-loop-sides l = counted l.tally ≡ capped (all_of (map matrix_of (take l.sides-index l.given)))
