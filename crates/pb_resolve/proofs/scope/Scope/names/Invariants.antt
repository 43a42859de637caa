use Rattle.std.proofs.Common.{◌≡◌, ◌++◌, map, drop}
use Rattle.std.specs.List.{flat_map}
use Rattle.pb_names.specs.Bodies.{named, use_faults}
use Rattle.pb_resolve.proofs.scope.Scope.names.Given as goal

abbrev pub invariant-loop-next : goal.invariant-loop-next
invariant-loop-next l = (l.found.items ++ map (named l.self) (drop l.next-index l.names) ≡ map (named l.self) l.names)
    × (flat_map (use_faults l.self) (drop l.next-index l.names) ≡ flat_map (use_faults l.self) l.names)
