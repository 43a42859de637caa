use Rattle.std.proofs.Common.{◌≡◌, ◌++◌, map, take}
use Rattle.pb_frame.specs.Frames.{wide_job}
use Rattle.pb_frame.proofs.wides.add_jobs.Given as goal

abbrev pub invariant-loop-k : goal.invariant-loop-k
invariant-loop-k l = l.jobs.items ≡ l.initial.jobs.items ++ map (wide_job l.layer l.parts) (take l.k-index l.rules)
