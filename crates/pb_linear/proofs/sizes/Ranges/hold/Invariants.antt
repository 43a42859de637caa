use Rattle.std.proofs.Common.{ℕ, ◌<◌, ◌≤◌, slice_index}
use Rattle.pb_linear.specs.declared.sizes.TheConstants.{SIZE_TOP}
use Rattle.pb_linear.proofs.sizes.Ranges.hold.Given as goal

abbrev pub invariant-loop-i : goal.invariant-loop-i
invariant-loop-i l = (k : ℕ) → k < l.i → (slice_index l.self.least k ≤ slice_index l.s.of k) × (slice_index l.s.of k ≤ SIZE_TOP)
