use Rattle.std.proofs.Common.{◌≡◌, map, take}
use Rattle.std.specs.Prelude.{filter}
use Rattle.std.specs.List.{enumerate_from}
use Rattle.pb_linear.specs.Sizes.{sizes_of}
use Rattle.pb_program.specs.Trees.{bare_transform}
use Rattle.pb_frame.specs.Frames.{has_cell, part_of}
use Rattle.pb_frame.proofs.parts.parts_of.Given as goal

abbrev pub invariant-loop-k : goal.invariant-loop-k
invariant-loop-k l = l.parts.items ≡ map (part_of l.c l.t (bare_transform l.transform) (sizes_of l.s)) (filter (has_cell (sizes_of l.s)) (take l.k (enumerate_from 0 l.found.nodes)))
