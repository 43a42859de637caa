use Rattle.std.proofs.Common.{◌∙◌, ap, subst, arith}
use Rattle.pb_taskgraph.specs.Graphs.{GraphValue}
use Rattle.pb_taskgraph.specs.Plans.{IsPlan, Plan}
use Rattle.pb_cells.specs.Handles.{JobValue}
use Rattle.pb_instance_trials.proofs.DrivenLemmas.{all-known}
use Rattle.pb_instance_trials.proofs.driven.read.Goals as goal

pub read-requires-clause-known : goal.read-requires-clause-known
read-requires-clause-known g c =
    let p = g.N.NamesWork.plan in
    let same = c.loop-cell.invariant in
    all-known p (subst IsPlan c.requires.name c.graph.ensures.plan) c.requires.two c.loop-cell.job.at (ap (λ (j : JobValue). j.at.task) same ∙ c.requires.task)
    (omega (arith, ap (λ (j : JobValue). j.at.written) same, c.requires.written)) c.loop-cell.cell
    (omega (arith, c.loop-cell-test.true, c.cells-cell-end.ensures, ap (λ (v : GraphValue). v.cells) c.graph.ensures.graph, ap (λ (q : Plan). q.graph.cells) c.requires.name))
