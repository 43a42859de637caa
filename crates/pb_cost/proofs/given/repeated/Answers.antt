use Rattle.std.proofs.Common.{◌∙◌, ℕ, arith}
use Rattle.pb_linear.proofs.SizesLemmas.{zeros_from}
use Rattle.pb_counts.proofs.BindingLemmas.{held}
use Rattle.pb_cost.proofs.SumLemmas.{same_each}
use Rattle.pb_cost.proofs.given.repeated.Goals as goal

pub invariant_of-result : goal.invariant_of-result
invariant_of-result c = record { few = c.requires; zero_past_count = zeros_from c.args.count c.loop-k.of (λ k past. c.loop-k.invariant.2 k (omega (arith, past, c.loop-k.auto.k-end, c.loop-k-test.false))) }

pub returns-clause-sizes : goal.returns-clause-sizes
returns-clause-sizes c = held (λ (k : ℕ). c.args.size) c.args.count c.loop-k.of (omega (arith, c.requires, c.loop-k.invariant.0)) (λ k below. c.loop-k.invariant.1 k (omega (arith, below, c.loop-k-test.false))) ∙ same_each c.args.size 0 c.args.count
