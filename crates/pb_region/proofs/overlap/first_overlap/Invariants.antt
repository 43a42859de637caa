use Rattle.std.proofs.Common.{◌≡◌, ◌<◌, ℕ, false}
use Rattle.pb_linear.specs.Sizes.{leasts_of}
use Rattle.pb_region.specs.Overlaps.{overlap_at}
use Rattle.pb_region.proofs.overlap.first_overlap.Given as goal

abbrev pub invariant-loop-first : goal.invariant-loop-first
invariant-loop-first l = (i j : ℕ) → i < l.first → overlap_at (leasts_of l.ranges) l.matrices l.outs i j ≡ false
