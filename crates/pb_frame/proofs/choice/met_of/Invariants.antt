use Rattle.std.proofs.Common.{◌≡◌}
use Rattle.std.specs.Prelude.{filter}
use Rattle.std.specs.List.{range_with_len}
use Rattle.pb_linear.specs.Sizes.{sizes_of}
use Rattle.pb_program.specs.Trees.{bare_transform}
use Rattle.pb_frame.specs.Choices.{meets_at}
use Rattle.pb_frame.proofs.choice.met_of.Given as goal

abbrev pub invariant-loop-k : goal.invariant-loop-k
invariant-loop-k l = l.met.items ≡ filter (meets_at (bare_transform l.transform) (sizes_of l.s)) (range_with_len 0 l.k)
