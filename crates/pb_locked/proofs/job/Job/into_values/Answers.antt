use Rattle.std.proofs.Common.{◌∙◌, ◌≤◌, ap, length, subst, sym}
use Rattle.pb_taskgraph.specs.Graphs.{cells_of}
use Rattle.pb_locked.specs.Boards.{outcomes_of}
use Rattle.pb_locked.specs.Jobs.{JobValue}
use Rattle.pb_locked.proofs.JobLemmas.{job-values}
use Rattle.pb_locked.proofs.job.Job.into_values.Goals as goal

pub returns : goal.returns
returns g c =
    let p = g.N.NamesWork.plan in
    job-values p _ _ _ _ c.self.invariant (subst (λ (j : JobValue). length (p.order j.task) ≤ j.written) (sym c.self.view_is) c.requires)
    ∙ ap (λ (j : JobValue). outcomes_of p (cells_of p.graph j.task)) c.self.view_is
