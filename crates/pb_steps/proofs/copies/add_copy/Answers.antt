use Rattle.std.proofs.Common.{ap, length, arith}
use Rattle.pb_steps.specs.Values.{CopiedValue}
use Rattle.pb_steps.proofs.CopyLemmas.{copy_one}
use Rattle.pb_steps.proofs.copies.add_copy.Goals as goal

pub returns-in_ok-push : goal.returns-in_ok-push
returns-in_ok-push c = λ p found instances i job at. copy_one p found instances i job c.args.copied at (omega (arith, c.if-len-gt0.true, c.len.ensures, ap (λ (f : CopiedValue). length f.parts) c.copied.view_is)) c.args.steps.now.items _ c.in_ok-push.ensures.items
