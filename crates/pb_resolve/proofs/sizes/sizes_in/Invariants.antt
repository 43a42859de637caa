use Rattle.std.proofs.Common.{◌≡◌, drop}
use Rattle.pb_names.specs.Transforms.{entries, sizes_in}
use Rattle.pb_resolve.proofs.sizes.sizes_in.Given as goal

abbrev pub invariant-loop-next : goal.invariant-loop-next
invariant-loop-next l = (sizes_in l.found.items (drop l.next-index l.forms) ≡ sizes_in l.initial.found.items l.forms) × (l.names ≡ entries 0 l.found.items)
