use Rattle.std.proofs.Common.{◌≡◌, map, take}
use Rattle.pb_linear.specs.Sizes.{sizes_of}
use Rattle.pb_recursion.specs.Counts.{all_of, matrix_of}
use Rattle.pb_recursion.specs.Shapes.{sides_of_decl}
use Rattle.pb_counts.specs.Tallies.{capped, counted}
use Rattle.pb_counts.proofs.matrices.of_decls.Given as goal

abbrev pub invariant-loop-decl : goal.invariant-loop-decl
invariant-loop-decl l = counted l.tally ≡ capped (all_of (map (λ d. matrix_of (sides_of_decl (sizes_of l.s) d)) (take l.decl-index l.decls)))
