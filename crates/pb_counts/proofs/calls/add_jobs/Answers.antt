use Rattle.std.proofs.Common.{Option}
use Rattle.pb_linear.specs.Sizes.{sizes_of}
use Rattle.pb_program.specs.Trees.{bare_prog, bare_transform}
use Rattle.pb_frame.specs.Frames.{JobValue}
use Rattle.pb_recursion.specs.Counts.{Counted, Counter}
use Rattle.pb_runs.specs.Tallied.{job_tally}
use Rattle.pb_counts.proofs.AddLemmas.{more_item, more_next}
use Rattle.pb_counts.proofs.calls.add_jobs.Goals as goal

pub loop-job-preserved : goal.loop-job-preserved
loop-job-preserved c =
    let p = bare_prog c.args.prog.now in
    let one : Option Counter → JobValue → Counted = λ d job. job_tally p (bare_transform c.args.t.now) (sizes_of c.args.s.now) d job.rule in (
      more_next p c.args.deep one c.args.jobs.now c.loop-job.job-index c.job-item.result c.loop-job-test.true c.args.g.now c.loop-job.g c.add_job.new.g c.loop-job.invariant.0
          (more_item p c.args.deep one c.args.jobs.now c.loop-job.job-index c.job-item.result c.job-item.is c.loop-job.g c.add_job.new.g c.in_ok-add_job.ensures.more),
      λ all. c.in_ok-add_job.ensures.next (c.loop-job.invariant.1 all),
    )
