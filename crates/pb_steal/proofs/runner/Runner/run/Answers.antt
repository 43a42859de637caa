use Rattle.std.proofs.Common.{◌≡◌, ◌∙◌, ◌+◌, ◌++◌, ◌∷◌, [], ℕ, Some, ap, subst, sym}
use Rattle.pb_taskgraph.specs.Graphs.{after_of}
use Rattle.pb_taskgraph.specs.Plans.{Plan}
use Rattle.pb_cells.specs.Handles.{HandValue, JobValue}
use Rattle.pb_steal.specs.Hands.{RunnerValue}
use Rattle.pb_steal.specs.Turns.{Opens, RunsTask}
use Rattle.pb_steal.proofs.RunLemmas.{runs}
use Rattle.pb_steal.proofs.runner.Runner.run.Goals as goal

pub returns : goal.returns
returns g c =
    let p : Plan = g.N.NamesWork.plan in
    let t : ℕ = c.args.ticket in
    let old : RunnerValue = record { seat = c.self.inside.seat; ran = c.self.inside.ran.items; row = c.self.inside.row.items } in
    let new : RunnerValue = record { seat = c.finished.new.hand; ran = c.push_reserved.new.self.items; row = c.release_all.new.row.items } in
    let job : JobValue = c.release_all.new.job in
    let ran : new.ran ≡ old.ran ++ t ∷ [] = c.push_reserved.ensures.items ∙ ap (λ u. old.ran ++ u ∷ []) c.task-task.ensures.task in
    let number : job.at.number ≡ Some c.finish.result = c.release_all.ensures.number ∙ ap (λ (j : JobValue). j.at.number) c.finish.ensures in
    let from : c.finish.new.job.at.task ≡ t = ap (λ (j : JobValue). j.at.task) (c.finish.ensures) ∙ ap (λ (j : JobValue). j.at.task) c.run-job.ensures.job ∙ ap (λ (j : JobValue). j.at.task) c.into_job.ensures in
    let nexts : c.successors.result.now ≡ after_of p.graph t = c.successors.ensures.nexts ∙ ap (λ (q : Plan). after_of q.graph c.task-task.result) c.self.invariant.0 ∙ ap (after_of p.graph) c.task-task.ensures.task in
    let opens : Opens p job.at.task (after_of p.graph t) new.row = subst (λ u. Opens p u (after_of p.graph t) new.row) (sym c.release_all.ensures.task) (subst (λ ts. Opens p c.finish.new.job.at.task ts new.row) nexts c.release_all.ensures.opens) in
    subst (λ (r : RunnerValue). RunsTask p r t new) c.self.view_is
    (runs p old new t c.finish.result c.finished.result (c.self.inside.seat.looks + 1) job ran c.self.invariant.2.ran (c.finished.ensures.seen ∙ ap (λ (h : HandValue). record h { seen = c.finished.result; looks = h.looks + 1 }) c.end.ensures)
    (c.release_all.ensures.task ∙ from) number c.release_all.ensures.opened opens c.finished.ensures.told)
