use Rattle.std.proofs.Common.{◌≡◌, ◌<◌, ◌≤◌, ℕ, length, slice_get, slice_index, Some}
use Rattle.pb_links.specs.Indexed.{start}
use Rattle.pb_links.specs.declared.owners.Owned.{Owned}
use Rattle.pb_links.proofs.index.starts_of.Given as goal

abbrev pub invariant-loop-left : goal.invariant-loop-left
invariant-loop-left l = record {
  long : length l.starts.items ≡ length l.list;
  inside : l.left ≤ length l.list;
  so_far : (k j : ℕ) (o : Owned) → l.left ≤ k → k < length l.starts.items → k ≤ j → slice_get l.list j ≡ Some o → slice_index l.starts.items k ≤ start l.axis o.rect;
  least : (j : ℕ) (o : Owned) → l.left ≤ j → slice_get l.list j ≡ Some o → l.least ≤ start l.axis o.rect;
}

abbrev pub decreases-loop-left : goal.decreases-loop-left
decreases-loop-left l = l.left
