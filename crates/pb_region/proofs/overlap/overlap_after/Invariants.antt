use Rattle.std.proofs.Common.{◌≡◌, ◌<◌, ℕ, false}
use Rattle.pb_linear.specs.Sizes.{leasts_of}
use Rattle.pb_region.specs.Overlaps.{overlap_at}
use Rattle.pb_region.proofs.overlap.overlap_after.Given as goal

abbrev pub invariant-loop-second : goal.invariant-loop-second
invariant-loop-second l = (k : ℕ) → k < l.second → overlap_at (leasts_of l.ranges) l.matrices l.outs l.first k ≡ false
