use Rattle.std.proofs.Common.{◌≡◌, ◌++◌, map, drop}
use Rattle.std.specs.List.{flat_map}
use Rattle.pb_names.specs.Bodies.{term_of, term_faults}
use Rattle.pb_resolve.proofs.scope.Scope.terms.Given as goal

abbrev pub invariant-loop-next : goal.invariant-loop-next
invariant-loop-next l = (l.found.items ++ map (term_of l.self) (drop l.next-index l.terms) ≡ map (term_of l.self) l.terms)
    × (flat_map (term_faults l.self) (drop l.next-index l.terms) ≡ flat_map (term_faults l.self) l.terms)
