use Rattle.std.proofs.Common.{◌∙◌, ap, arith}
use Rattle.std.specs.List.{flat_map}
use Rattle.std.proofs.lemmas.Bool.Decides.{nat_tests}
use Rattle.pb_values.specs.Views.{view_cells}
use Rattle.pb_taskgraph.specs.Graphs.{GraphValue, TaskValue}
use Rattle.pb_taskgraph.specs.declared.task.Part.{Part}
use Rattle.pb_core.specs.Cores.{CoreValue}
use Rattle.pb_core.proofs.FinishLemmas.{whole-none, whole-some}
use Rattle.pb_core.proofs.machine.Core.is_whole.Goals as goal

pub returns-in-Some : goal.returns-in-Some
returns-in-Some g c =
    whole-some g.N.NamesWork.plan c.args.self.now c.args.task c.tasks.result.now (c.tasks.ensures.tasks ∙ ap (λ (h : GraphValue). h.tasks) c.graph.ensures.graph)
    _ _ c.in-Some.task.now c.parts_written.result (c.deref.ensures.value ∙ ap (λ (v : CoreValue). v.written) c.self.view_is)
    (ap (flat_map (λ (part : Part). view_cells part.view)) (c.deref-in-Some.ensures.value ∙ ap (λ (t : TaskValue). t.parts) c.task.view_is))
    (let h = c.in-Some.ensures.lookup in grind (arith, nat_tests)) c.in-Some.ensures.lookup.1 c.parts_written.ensures

pub returns-in-None : goal.returns-in-None
returns-in-None g c = whole-none g.N.NamesWork.plan c.args.self.now c.args.task c.tasks.result.now (c.tasks.ensures.tasks ∙ ap (λ (h : GraphValue). h.tasks) c.graph.ensures.graph) c.in-None.ensures.lookup.3
