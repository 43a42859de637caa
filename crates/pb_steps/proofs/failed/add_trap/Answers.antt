use Rattle.std.proofs.Common.{ap, length, arith}
use Rattle.pb_steps.specs.Values.{FailedValue}
use Rattle.pb_steps.proofs.CopyLemmas.{trap_one}
use Rattle.pb_steps.proofs.failed.add_trap.Goals as goal

pub returns-in_ok-push : goal.returns-in_ok-push
returns-in_ok-push c = λ p found instances. trap_one p found instances c.args.failed (omega (arith, c.if-len-gt0.true, c.len.ensures, ap (λ (f : FailedValue). length f.seats) c.failed.view_is)) c.args.steps.now.items _ c.in_ok-push.ensures.items
