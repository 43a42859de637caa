use Rattle.std.proofs.Common.{◌∙◌, ap, get_or, max}
use Rattle.pb_frame.specs.declared.part.FramePart.{FramePart}
use Rattle.pb_frame.proofs.SizeLemmas.{greatest_step}
use Rattle.pb_frame.proofs.blocks.top_x.Goals as goal

pub loop-part-preserved : goal.loop-part-preserved
loop-part-preserved c =
    let none : FramePart = record { node = 0; rect = record { x0 = 0; y0 = 0; x1 = 0; y1 = 0 }; rule = 0 } in
    c.greater-top.ensures ∙ ap (λ n. max n (get_or c.args.parts.now c.loop-part.part-index none).rect.x1) c.loop-part.invariant ∙ greatest_step (λ (part : FramePart). part.rect.x1) c.args.parts.now c.loop-part.part-index none c.loop-part-test.true
