use Rattle.std.proofs.Common.{ℕ, ◌≡◌, ◌≤◌, ◌<◌, length, slice_index}
use Rattle.std.specs.List.{zip}
use Rattle.pb_entry.specs.Fitting.{HasValue}
use Rattle.pb_entry.proofs.values.values.Given as goal

abbrev pub invariant-loop-size : goal.invariant-loop-size
invariant-loop-size l = (length l.of ≡ 8) × ((k : ℕ) → k < l.size → HasValue (zip l.matrices l.inputs) k (slice_index l.of k)) × ((k : ℕ) → l.size ≤ k → slice_index l.of k ≡ 0)
