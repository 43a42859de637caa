use Rattle.std.proofs.Common.{◌≡◌, ◌+◌, ap, arith, length, take}
use Rattle.pb_matrix.specs.Value.{MatrixValue}
use Rattle.pb_steps.specs.Handed.{total}
use Rattle.pb_run_work.specs.Given.{given_as}
use Rattle.pb_run_work.proofs.CountLemmas.{total_next, total_part}
use Rattle.pb_run_work.proofs.unrolled.count_cells.Goals as goal

pub overflow_add-cells : goal.overflow_add-cells
overflow_add-cells c =
    let next = total_next c.args.inputs.now c.loop-matrix.matrix-index c.matrix-item.result c.loop-matrix-test.true c.matrix-item.is in
    let part = total_part c.args.inputs.now (c.loop-matrix.matrix-index + 1) in
    omega (arith, next, part, c.requires, c.loop-matrix.invariant, c.len.ensures, c.matrix.inside.cells.ok, ap (λ (m : MatrixValue). length m.cells) c.matrix.view_is)

pub loop-matrix-preserved : goal.loop-matrix-preserved
loop-matrix-preserved c =
    let next = total_next c.args.inputs.now c.loop-matrix.matrix-index c.matrix-item.result c.loop-matrix-test.true c.matrix-item.is in
    let is : c.loop-matrix.cells + c.len.result ≡ total (given_as (take (c.loop-matrix.matrix-index + 1) c.args.inputs.now)) = omega (arith, next, c.loop-matrix.invariant, c.len.ensures, c.matrix.inside.cells.ok, ap (λ (m : MatrixValue). length m.cells) c.matrix.view_is) in
    is
