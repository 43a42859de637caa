use Rattle.std.proofs.Common.{◌≡◌, take}
use Rattle.std.specs.Prelude.{sum_by}
use Rattle.std.specs.List.{enumerate_from}
use Rattle.pb_linear.specs.Sizes.{sizes_of}
use Rattle.pb_program.specs.Trees.{bare_transform}
use Rattle.pb_instance_cost.specs.Parts.{wide_shown}
use Rattle.pb_instance_cost.proofs.parts.wides_cost.Given as goal

abbrev pub invariant-loop-k : goal.invariant-loop-k
invariant-loop-k l = l.cost ≡ sum_by (wide_shown (bare_transform l.transform) (sizes_of l.s) l.parts) (take l.k (enumerate_from 0 (bare_transform l.transform).rules))
