use Rattle.std.proofs.Common.{arith}
use Rattle.pb_linear.proofs.SizesLemmas.{zeros_from}
use Rattle.pb_entry.proofs.values.values.Goals as goal

pub invariant_of-result : goal.invariant_of-result
invariant_of-result c = record { few = c.requires.few; zero_past_count = zeros_from c.args.count c.loop-size.of (λ k past. c.loop-size.invariant.2 k (omega (arith, past, c.loop-size.auto.size-end, c.loop-size-test.false))) }
