use Rattle.std.proofs.Common.{◌≡◌, map, take}
use Rattle.pb_linear.specs.Sizes.{sizes_of}
use Rattle.pb_program.specs.Trees.{bare_transform}
use Rattle.pb_plan.specs.Boxes.{places_of}
use Rattle.pb_plan.proofs.jobs.places.Given as goal

abbrev pub invariant-loop-job : goal.invariant-loop-job
invariant-loop-job l = l.found.items ≡ map (places_of (bare_transform l.transform) l.nodes (sizes_of l.s)) (take l.job-index l.jobs)
