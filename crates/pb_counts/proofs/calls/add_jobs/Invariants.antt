use Rattle.std.proofs.Common.{map, take}
use Rattle.std.specs.List.{All}
use Rattle.pb_linear.specs.Sizes.{sizes_of}
use Rattle.pb_program.specs.Trees.{bare_prog, bare_transform}
use Rattle.pb_frame.specs.Frames.{JobValue}
use Rattle.pb_recursion.specs.Counts.{all_of}
use Rattle.pb_runs.specs.Tallied.{job_tally}
use Rattle.pb_counts.specs.Gathered.{CanCome, IsMore}
use Rattle.pb_counts.proofs.calls.add_jobs.Given as goal

abbrev pub invariant-loop-job : goal.invariant-loop-job
invariant-loop-job l =
    IsMore (bare_prog l.prog) l.deep l.initial.g l.g (λ deeper. all_of (map (λ (job : JobValue). job_tally (bare_prog l.prog) (bare_transform l.t) (sizes_of l.s) deeper job.rule) (take l.job-index l.jobs)))
    × (All (CanCome (bare_prog l.prog)) l.initial.g.next → All (CanCome (bare_prog l.prog)) l.g.next)
