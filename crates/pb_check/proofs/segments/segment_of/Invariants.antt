use Rattle.pb_linear.specs.Sizes.{sizes_of}
use Rattle.pb_check.specs.Ranked.{cell}
use Rattle.pb_check.proofs.PlacedLemmas.{IsHeldLater}
use Rattle.pb_check.proofs.segments.segment_of.Given as goal

abbrev pub invariant-loop-u : goal.invariant-loop-u
invariant-loop-u l = IsHeldLater l.nodes (sizes_of l.s) (cell l.matrix l.x l.y) l.u
