use Rattle.std.proofs.Common.{◌∙◌, sym, ap, subst, IsSome, arith}
use Rattle.pb_taskgraph.specs.Known.{known_turn}
use Rattle.pb_cells.specs.Handles.{JobValue}
use Rattle.pb_run_trials.proofs.DrivenLemmas.{driven-reads, driven-whole}
use Rattle.pb_run_trials.proofs.cells.read.Goals as goal

pub read-requires-clause-known : goal.read-requires-clause-known
read-requires-clause-known g c =
    let p = g.N.NamesWork.plan in
    let task = ap (λ (j : JobValue). j.at.task) c.loop-cell.invariant ∙ c.requires.at in
    let written = ap (λ (j : JobValue). j.at.written) c.loop-cell.invariant ∙ c.requires.written ∙ driven-whole c.args.work.now p c.requires.name c.end-cell-end.ensures.given c.args.task c.requires.task in
    subst (λ t. IsSome ((known_turn p t c.loop-cell.job.at.written).outcomes c.loop-cell.cell)) (sym task)
    (driven-reads c.args.work.now p c.requires.name c.end-cell-end.ensures.given c.args.task c.requires.task c.loop-cell.job.at.written c.loop-cell.cell (omega (arith, written)) (omega (arith, written, c.end-cell-end.ensures.end, c.loop-cell-test.true)))
