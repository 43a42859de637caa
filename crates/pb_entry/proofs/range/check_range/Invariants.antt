use Rattle.std.proofs.Common.{ℕ, ◌<◌, slice_index}
use Rattle.pb_entry.specs.Fitting.{IsIn}
use Rattle.pb_entry.proofs.range.check_range.Given as goal

abbrev pub invariant-loop-size : goal.invariant-loop-size
invariant-loop-size l = (k : ℕ) → k < l.size → IsIn l.ranges k (slice_index l.sizes.of k)
