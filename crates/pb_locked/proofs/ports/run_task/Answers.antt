use Rattle.std.proofs.Common.{◌∙◌, ◌≤◌, ap, length, subst, sym}
use Rattle.pb_taskgraph.specs.Graphs.{cells_of}
use Rattle.pb_taskgraph.specs.Turns.{Begins, after_all}
use Rattle.pb_locked.specs.Boards.{outcomes_of}
use Rattle.pb_locked.specs.Jobs.{JobValue, TellsOthers, job_turn}
use Rattle.pb_locked.proofs.JobLemmas.{job-begins, job-over}
use Rattle.pb_locked.proofs.ports.run_task.Goals as goal

pub invariant_of-port : goal.invariant_of-port
invariant_of-port g c = subst (λ (j : JobValue). TellsOthers g.N.NamesWork.plan j.task (g.S.Source.asks c.args.others) (g.S.Source.answers c.args.others)) (sym c.in_ok-job.ensures) c.requires.others

pub run-requires-clause-begins : goal.run-requires-clause-begins
run-requires-clause-begins g c κs within = subst (λ (j : JobValue). Begins g.N.NamesWork.plan c.args.task (job_turn g.N.NamesWork.plan j)) (sym c.in_ok-job.ensures) (job-begins g.N.NamesWork.plan c.args.task)

pub into_values-requires : goal.into_values-requires
into_values-requires g c =
    let p = g.N.NamesWork.plan in
    let over = job-over p c.into_job.result c.args.task (ap (job_turn p) c.into_job.ensures ∙ c.run.ensures ∙ ap (λ (j : JobValue). after_all (job_turn p j)) c.in_ok-job.ensures) in
    subst (λ t. length (p.order t) ≤ c.into_job.result.written) (sym over.0) over.1

pub returns : goal.returns
returns g c =
    let p = g.N.NamesWork.plan in
    let over = job-over p c.into_job.result c.args.task (ap (job_turn p) c.into_job.ensures ∙ c.run.ensures ∙ ap (λ (j : JobValue). after_all (job_turn p j)) c.in_ok-job.ensures) in
    c.into_values.ensures ∙ ap (λ t. outcomes_of p (cells_of p.graph t)) over.0
