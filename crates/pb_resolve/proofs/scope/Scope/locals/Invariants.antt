use Rattle.std.proofs.Common.{◌≡◌, ◌++◌, drop}
use Rattle.std.specs.List.{AllByRecursion, flat_map}
use Rattle.pb_resolve.specs.Locals.{local_in, IsWithin}
use Rattle.pb_resolve.proofs.scope.Scope.locals.Given as goal

abbrev pub invariant-loop-next : goal.invariant-loop-next
invariant-loop-next l = (l.found.items ++ flat_map (local_in l.self.names) (drop l.next-index l.ss) ≡ flat_map (local_in l.self.names) l.ss)
    × AllByRecursion IsWithin (drop l.next-index l.ss)
