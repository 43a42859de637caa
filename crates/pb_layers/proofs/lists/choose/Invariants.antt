use Rattle.std.proofs.Common.{◌≡◌, ◌<◌, ◌≤◌, ℕ, None, length, slice_index_or}
use Rattle.pb_layers.specs.Graphs.{marked}
use Rattle.pb_layers.specs.Lists.{chosen}
use Rattle.pb_layers.proofs.lists.choose.Given as goal

abbrev pub invariant-loop-root : goal.invariant-loop-root
invariant-loop-root l = record {
  room : length l.lists.items ≡ length l.initial.lists.items;
  done : (root : ℕ) → root < l.root → slice_index_or l.lists.items root None ≡ chosen l.list (slice_index_or l.initial.lists.items root None) (marked l.served root);
  kept : (root : ℕ) → l.root ≤ root → slice_index_or l.lists.items root None ≡ slice_index_or l.initial.lists.items root None;
}
