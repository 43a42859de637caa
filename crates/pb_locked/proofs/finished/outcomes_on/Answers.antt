use Rattle.std.proofs.Common.{◌∙◌, ◌<◌, ap, arith, length, length-set, slice_get, subst, sym, IsSome}
use Rattle.pb_taskgraph.specs.Graphs.{GraphValue}
use Rattle.pb_taskgraph.proofs.SerialLemmas.{inputs-more}
use Rattle.pb_core.specs.Cores.{state_of}
use Rattle.pb_locked.proofs.FinishedLemmas.{cell-right, cell-small, cell-written, cells-all}
use Rattle.pb_locked.proofs.finished.outcomes_on.Goals as goal

pub unwrap-requires : goal.unwrap-requires
unwrap-requires g c =
    let p = g.N.NamesWork.plan in
    let below : c.loop-cell.cell < p.graph.cells = omega (arith, c.loop-cell-test.true, c.cells-cells.ensures, ap (λ (h : GraphValue). h.cells) c.graph.ensures.graph) in
    subst IsSome (sym c.value.ensures) (cell-written p c.graph.ensures.plan (state_of p c.args.board.now) c.done-done.ensures.board c.requires c.loop-cell.cell below)

pub set-requires-clause-small : goal.set-requires-clause-small
set-requires-clause-small g c =
    let p = g.N.NamesWork.plan in
    let below : c.loop-cell.cell < p.graph.cells = omega (arith, c.loop-cell-test.true, c.cells-cells.ensures, ap (λ (h : GraphValue). h.cells) c.graph.ensures.graph) in
    cell-small p c.graph.ensures.plan (state_of p c.args.board.now) c.done-done.ensures.board c.requires c.loop-cell.cell c.unwrap.result below (sym c.unwrap.ensures ∙ c.value.ensures)

pub loop-cell-preserved : goal.loop-cell-preserved
loop-cell-preserved g c =
    let p = g.N.NamesWork.plan in
    let right = cell-right p c.graph.ensures.plan (state_of p c.args.board.now) c.done-done.ensures.board c.requires c.loop-cell.cell c.unwrap.result (sym c.unwrap.ensures ∙ c.value.ensures) in
    record {
      size = ap length c.set.ensures ∙ length-set c.loop-cell.outcomes c.loop-cell.cell c.unwrap.result ∙ c.loop-cell.invariant.size;
      told = λ k below. ap (λ l. slice_get l k) c.set.ensures
          ∙ inputs-more p.solution c.loop-cell.outcomes c.loop-cell.cell c.unwrap.result (omega (arith, c.loop-cell.invariant.size, c.loop-cell-test.true)) right c.loop-cell.invariant.told k below;
    }

pub returns : goal.returns
returns g c =
    let p = g.N.NamesWork.plan in
    let cells = c.cells-cells.ensures ∙ ap (λ (h : GraphValue). h.cells) c.graph.ensures.graph in
    cells-all p c.graph.ensures.plan c.loop-cell.outcomes c.loop-cell.cell (c.loop-cell.invariant.size ∙ cells) (omega (arith, cells, c.loop-cell-test.false)) c.loop-cell.invariant.told
