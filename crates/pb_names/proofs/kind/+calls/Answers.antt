use Rattle.pb_names.proofs.KindLemmas.{operands_none}
use Rattle.pb_names.proofs.kind.+calls.Goals as goal

pub operands_call-returns : goal.operands_call-returns
operands_call-returns t c = operands_none c.args.xs.now c.loop-next.next-index c.loop-next.invariant c.loop-next-test.false
