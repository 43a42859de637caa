use Rattle.std.proofs.Common.{◌≡◌, ◌+◌, ◌≤◌, drop}
use Rattle.std.specs.List.{AllByRecursion}
use Rattle.pb_syntax.specs.WithinLimits.{TermWithin}
use Rattle.pb_names.specs.Sums.{add_terms}
use Rattle.pb_resolve.specs.SumValue.{value_of}
use Rattle.pb_resolve.proofs.scope.Scope.add_terms.Given as goal

abbrev pub invariant-loop-next : goal.invariant-loop-next
invariant-loop-next l = (add_terms l.self.names (value_of l.sum) (drop l.next-index l.terms) ≡ add_terms l.self.names (value_of l.initial.sum) l.terms)
    × (l.sum.terms ≤ l.next-index + 1) × AllByRecursion TermWithin (drop l.next-index l.terms)
