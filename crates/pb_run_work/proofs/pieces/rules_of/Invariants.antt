use Rattle.std.proofs.Common.{◌≡◌, map, take}
use Rattle.pb_frame.specs.declared.part.FramePart.{FramePart}
use Rattle.pb_run_work.proofs.pieces.rules_of.Given as goal

abbrev pub invariant-loop-part : goal.invariant-loop-part
invariant-loop-part l = l.rules.items ≡ map (λ (part : FramePart). part.rule) (take l.part-index l.parts)
