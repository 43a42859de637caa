use Rattle.std.proofs.Common.{◌≡◌, map, take}
use Rattle.pb_frame.specs.declared.part.FramePart.{FramePart}
use Rattle.pb_frame.specs.Frames.{greatest}
use Rattle.pb_frame.proofs.blocks.top_x.Given as goal

abbrev pub invariant-loop-part : goal.invariant-loop-part
invariant-loop-part l = l.top ≡ greatest (map (λ (part : FramePart). part.rect.x1) (take l.part-index l.parts))
