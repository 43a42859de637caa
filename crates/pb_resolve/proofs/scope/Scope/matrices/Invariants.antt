use Rattle.std.proofs.Common.{◌≡◌, ◌+◌, drop, length}
use Rattle.std.specs.List.{AllByRecursion}
use Rattle.pb_syntax.specs.WithinLimits.{DeclWithin}
use Rattle.pb_names.specs.Transforms.{next_matrix, matrix_of, matrix_faults}
use Rattle.pb_resolve.proofs.TurnLemmas.{Added}
use Rattle.pb_resolve.proofs.scope.Scope.matrices.Given as goal

abbrev pub invariant-loop-next : goal.invariant-loop-next
invariant-loop-next l = Added next_matrix (matrix_of l.self) (matrix_faults l.self) l.initial.matrices.names l.matrices.names l.initial.found.items l.found.items l.decls l.next-index
    × AllByRecursion DeclWithin (drop l.next-index l.decls) × (l.matrices.inputs ≡ l.initial.matrices.inputs) × (length l.matrices.names ≡ length l.initial.matrices.names + l.next-index)
