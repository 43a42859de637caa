use Rattle.std.proofs.Common.{◌≡◌, ◌++◌, map, drop}
use Rattle.std.specs.List.{flat_map}
use Rattle.pb_names.specs.Bodies.{local_form, form_faults}
use Rattle.pb_resolve.proofs.scope.Scope.dims.Given as goal

abbrev pub invariant-loop-next : goal.invariant-loop-next
invariant-loop-next l = (l.found.items ++ map (local_form l.self) (drop l.next-index l.dims) ≡ map (local_form l.self) l.dims)
    × (flat_map (form_faults l.self) (drop l.next-index l.dims) ≡ flat_map (form_faults l.self) l.dims)
