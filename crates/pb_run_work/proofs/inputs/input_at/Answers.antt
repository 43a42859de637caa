use Rattle.std.proofs.Common.{◌≡◌, ◌∙◌, ◌<◌, ◌≤◌, ap, length, arith}
use Rattle.std.specs.Prelude.{slice_index_or}
use Rattle.pb_matrix.specs.Value.{MatrixValue}
use Rattle.pb_run_work.proofs.InputLemmas.{cell_here, cell_later, later_below, none_left, small_cell}
use Rattle.pb_run_work.proofs.inputs.input_at.Goals as goal

pub returns-then-left-cells : goal.returns-then-left-cells
returns-then-left-cells c =
    let m = c.matrix-item.result in
    let cells : c.matrix.inside.cells.items ≡ m.cells = ap (λ (q : MatrixValue). q.cells) c.matrix.view_is in
    let at = c.index.ensures ∙ ap (λ xs. slice_index_or xs c.loop-matrix.left c.index.result.now) cells in
    let below : c.loop-matrix.left < length m.cells = omega (arith, c.if-left-cells.true, c.len-cells.ensures, ap length cells) in
    cell_here c.args.inputs.now c.loop-matrix.matrix-index m c.loop-matrix-test.true c.matrix-item.is c.args.cell c.loop-matrix.left c.loop-matrix.invariant.0 c.index.result.now below at
    (small_cell c.args.inputs.now c.loop-matrix.matrix-index m c.loop-matrix.left c.index.result.now c.loop-matrix-test.true c.matrix-item.is below at c.requires.small)

pub loop-matrix-preserved : goal.loop-matrix-preserved
loop-matrix-preserved c =
    let m = c.matrix-item.result in
    let cells : c.matrix.inside.cells.items ≡ m.cells = ap (λ (q : MatrixValue). q.cells) c.matrix.view_is in
    let count : c.len-cells.result ≡ length m.cells = omega (arith, c.len-cells.ensures, ap length cells) in
    let past : length m.cells ≤ c.loop-matrix.left = omega (arith, c.if-left-cells.false, count) in
    rw (count) (cell_later c.args.inputs.now c.loop-matrix.matrix-index m c.loop-matrix-test.true c.matrix-item.is c.args.cell c.loop-matrix.left c.loop-matrix.invariant.0 past, later_below c.args.inputs.now c.loop-matrix.matrix-index m c.loop-matrix-test.true c.matrix-item.is c.args.cell c.loop-matrix.left c.loop-matrix.invariant.0 c.loop-matrix.invariant.1 past)

pub returns : goal.returns
returns c = absurd (none_left c.args.inputs.now c.loop-matrix.matrix-index c.loop-matrix.left c.loop-matrix-test.false c.loop-matrix.invariant.1)
