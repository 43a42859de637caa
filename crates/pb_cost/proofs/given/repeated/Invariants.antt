use Rattle.std.proofs.Common.{ℕ, ◌≡◌, ◌≤◌, ◌<◌, length, slice_index}
use Rattle.pb_cost.proofs.given.repeated.Given as goal

abbrev pub invariant-loop-k : goal.invariant-loop-k
invariant-loop-k l = (length l.of ≡ 8) × ((k : ℕ) → k < l.k → slice_index l.of k ≡ l.size) × ((k : ℕ) → l.k ≤ k → slice_index l.of k ≡ 0)
