use Rattle.std.proofs.Common.{◌≡◌, ◌<◌, ◌≤◌, ℕ, length, slice_get, Some}
use Rattle.pb_links.specs.Indexed.{EndBy, end}
use Rattle.pb_links.specs.declared.owners.Owned.{Owned}
use Rattle.pb_links.proofs.index.ends_of.Given as goal

abbrev pub invariant-loop-owned : goal.invariant-loop-owned
invariant-loop-owned l = record {
  long : length l.ends.items ≡ l.owned-index;
  so_far : EndBy l.axis l.list l.ends.items;
  most : (j : ℕ) (o : Owned) → j < l.owned-index → slice_get l.list j ≡ Some o → end l.axis o.rect ≤ l.most;
}
