use Rattle.std.proofs.Common.{◌∙◌, ap, arith, false, get_or, subst}
use Rattle.std.specs.List.{Contains}
use Rattle.pb_taskgraph.specs.Graphs.{GraphValue, cells_of}
use Rattle.pb_core.specs.Cores.{untouched}
use Rattle.pb_core.proofs.WriteLemmas.{writer-input, writer-none, writer-past, writer-some}
use Rattle.std.proofs.Common.{refl, sym, true, ◌≡◌}
use Rattle.pb_core.proofs.machine.Core.writer.Goals as goal

pub returns-then-cell-inputs : goal.returns-then-cell-inputs
returns-then-cell-inputs g c = writer-input g.N.NamesWork.plan c.graph-graph.ensures.plan c.args.self.now c.args.self.now refl c.args.hand c.args.cell
    (omega (arith, c.if-cell-inputs.true, c.inputs.ensures, ap (λ (h : GraphValue). h.inputs) c.graph-graph.ensures.graph))

pub returns-then-cell-cells : goal.returns-then-cell-cells
returns-then-cell-cells g c = writer-past g.N.NamesWork.plan c.graph-graph.ensures.plan c.args.self.now c.args.self.now refl c.args.hand c.args.cell
    (omega (arith, c.if-cell-cells.true, c.cells.ensures, ap (λ (h : GraphValue). h.cells) c.graph-graph.ensures.graph))

pub returns-then-not-can_write : goal.returns-then-not-can_write
returns-then-not-can_write g c = writer-none g.N.NamesWork.plan c.graph-graph.ensures.plan _ c.args.self.now c.self.view_is c.args.hand c.args.cell c.owner-task.result
    (subst (λ (h : GraphValue). Contains (cells_of h c.owner-task.result) c.args.cell) c.graph-graph.ensures.graph c.owner-task.ensures.cell)
    c.progress_of.result (c.progress_of.ensures ∙ ap (λ l. get_or l c.owner-task.result untouched) c.deref.ensures.value)
    c.is_written.result (c.is_written.ensures ∙ ap (λ l. get_or l c.args.cell false) c.deref-2.ensures.value)
    (λ can. let wrong : false ≡ true = sym c.if-not-can_write.true ∙ c.can_write.ensures.1 can in cc)

pub returns : goal.returns
returns g c = writer-some g.N.NamesWork.plan c.graph-graph.ensures.plan _ c.args.self.now c.self.view_is c.args.hand c.args.cell c.owner-task.result
    (subst (λ (h : GraphValue). Contains (cells_of h c.owner-task.result) c.args.cell) c.graph-graph.ensures.graph c.owner-task.ensures.cell)
    c.progress_of.result (c.progress_of.ensures ∙ ap (λ l. get_or l c.owner-task.result untouched) c.deref.ensures.value)
    c.is_written.result (c.is_written.ensures ∙ ap (λ l. get_or l c.args.cell false) c.deref-2.ensures.value)
    (c.can_write.ensures.0 c.if-not-can_write.false)
