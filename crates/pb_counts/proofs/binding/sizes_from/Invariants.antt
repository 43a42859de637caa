use Rattle.std.proofs.Common.{ℕ, ◌≡◌, ◌≤◌, ◌<◌, length, slice_index}
use Rattle.std.specs.Prelude.{unwrap_or}
use Rattle.std.specs.List.{zip}
use Rattle.pb_recursion.specs.Shapes.{first_side_for}
use Rattle.pb_counts.proofs.binding.sizes_from.Given as goal

abbrev pub invariant-loop-k : goal.invariant-loop-k
invariant-loop-k l = (length l.of ≡ 8) × ((k : ℕ) → k < l.k → slice_index l.of k ≡ unwrap_or (first_side_for k (zip l.decls l.given)) 0) × ((k : ℕ) → l.k ≤ k → slice_index l.of k ≡ 0)
