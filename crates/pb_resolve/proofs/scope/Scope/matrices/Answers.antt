use Rattle.std.proofs.Common.{rules}
use Rattle.pb_names.specs.Transforms.{next_matrix, matrix_of, matrix_faults}
use Rattle.pb_resolve.proofs.TurnLemmas.{add_fails}
use Rattle.pb_resolve.proofs.scope.Scope.matrices.Goals as goal

pub returns-in_err-matrix-clause-refused : goal.returns-in_err-matrix-clause-refused
returns-in_err-matrix-clause-refused c =
    let v = c.args.self.now in
    let h = add_fails next_matrix (matrix_of v) (matrix_faults v) c.args.matrices.now.names c.loop-next.matrices.names c.args.found.now.items c.loop-next.found.items c.args.decls.now c.loop-next.next-index
    c.loop-next.invariant.0 c.next-item.result c.loop-next-test.true c.next-item.is c.in_err-matrix.field-0.0 c.in_err-matrix.ensures.refused in search (rules, h)
