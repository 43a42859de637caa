use Rattle.std.proofs.Common.{◌≡◌, drop}
use Rattle.std.specs.List.{flat_map}
use Rattle.pb_names.specs.Views.{view_term_faults}
use Rattle.pb_resolve.proofs.scope.Scope.view_terms.Given as goal

abbrev pub invariant-loop-next : goal.invariant-loop-next
invariant-loop-next l = flat_map (view_term_faults l.self) (drop l.next-index l.terms) ≡ flat_map (view_term_faults l.self) l.terms
