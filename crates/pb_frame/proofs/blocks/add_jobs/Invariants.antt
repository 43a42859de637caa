use Rattle.std.proofs.Common.{◌≡◌, ◌++◌, map, take}
use Rattle.pb_program.specs.Trees.{bare_transform}
use Rattle.pb_frame.specs.Frames.{block_job}
use Rattle.pb_frame.proofs.blocks.add_jobs.Given as goal

abbrev pub invariant-loop-square : goal.invariant-loop-square
invariant-loop-square l = l.jobs.items ≡ l.initial.jobs.items ++ map (block_job (bare_transform l.transform) l.layer l.parts) (take l.square-index l.found)
