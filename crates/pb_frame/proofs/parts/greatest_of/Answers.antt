use Rattle.std.proofs.Common.{◌∙◌, ap, get_or, max}
use Rattle.pb_frame.proofs.SizeLemmas.{greatest_plain}
use Rattle.pb_frame.proofs.parts.greatest_of.Goals as goal

pub loop-number-preserved : goal.loop-number-preserved
loop-number-preserved c = c.greater-top.ensures ∙ ap (λ n. max n (get_or c.args.numbers.now c.loop-number.number-index 0)) c.loop-number.invariant ∙ greatest_plain c.args.numbers.now c.loop-number.number-index 0 c.loop-number-test.true
