use Rattle.std.proofs.Common.{◌≡◌, drop}
use Rattle.pb_names.specs.Transforms.{entries, sizes_of}
use Rattle.pb_resolve.proofs.sizes.sizes.Given as goal

abbrev pub invariant-loop-next : goal.invariant-loop-next
invariant-loop-next l = (sizes_of l.found.items (drop l.next-index l.decls) ≡ sizes_of l.initial.found.items l.decls) × (l.names ≡ entries 0 l.found.items)
