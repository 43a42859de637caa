use Rattle.std.proofs.Common.{ap, length, refl}
use Rattle.pb_core.proofs.NewLemmas.{core-machine, core-state}
use Rattle.pb_core.proofs.machine.Core.new.Goals as goal

pub invariant_of-result : goal.invariant_of-result
invariant_of-result g c =
    core-machine g.N.NamesWork.plan (g.W.Work.plan c.args.work.now) c.requires.name c.graph-graph.ensures.plan c.graph-graph.result.now c.graph-graph.ensures.graph c.args.hands _
    c.inputs-inputs.result c.cells-cells.result c.in_ok-first_tasks.ensures c.in_ok-first_links.ensures c.inputs-inputs.ensures c.cells-cells.ensures c.in_ok-first_written.ensures refl
    _ _ _ _ c.in_ok-scratch.ensures c.requires.some c.requires.few (c.in_ok-vec.ensures.items_if_clones_equal (λ y e. e)) (ap length c.tasks.ensures.tasks) c.in_ok-first_outcomes.ensures

pub returns : goal.returns
returns g c =
    core-state g.N.NamesWork.plan (g.W.Work.plan c.args.work.now) c.requires.name c.graph-graph.ensures.plan c.graph-graph.result.now c.graph-graph.ensures.graph c.args.hands _
    c.inputs-inputs.result c.cells-cells.result c.in_ok-first_tasks.ensures c.in_ok-first_links.ensures c.inputs-inputs.ensures c.cells-cells.ensures c.in_ok-first_written.ensures refl
