use Rattle.std.proofs.Common.{◌≡◌, ◌++◌, map, drop}
use Rattle.std.specs.List.{AllByRecursion, flat_map}
use Rattle.pb_syntax.specs.WithinLimits.{CondWithin}
use Rattle.pb_names.specs.Views.{cond_of, cond_faults}
use Rattle.pb_resolve.proofs.scope.Scope.conditions.Given as goal

abbrev pub invariant-loop-next : goal.invariant-loop-next
invariant-loop-next l = (l.found.items ++ map (cond_of l.self) (drop l.next-index l.conds) ≡ map (cond_of l.self) l.conds)
    × (flat_map (cond_faults l.self) (drop l.next-index l.conds) ≡ flat_map (cond_faults l.self) l.conds)
    × AllByRecursion CondWithin (drop l.next-index l.conds)
