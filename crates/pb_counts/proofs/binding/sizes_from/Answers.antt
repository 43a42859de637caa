use Rattle.std.proofs.Common.{ℕ, arith}
use Rattle.std.specs.Prelude.{unwrap_or}
use Rattle.std.specs.List.{zip}
use Rattle.pb_linear.proofs.SizesLemmas.{zeros_from}
use Rattle.pb_recursion.specs.Shapes.{first_side_for}
use Rattle.pb_counts.proofs.BindingLemmas.{held}
use Rattle.pb_counts.proofs.binding.sizes_from.Goals as goal

pub invariant_of-result : goal.invariant_of-result
invariant_of-result c = record { few = c.requires; zero_past_count = zeros_from c.args.count c.loop-k.of (λ k past. c.loop-k.invariant.2 k (omega (arith, past, c.loop-k.auto.k-end, c.loop-k-test.false))) }

pub returns : goal.returns
returns c = held (λ (k : ℕ). unwrap_or (first_side_for k (zip c.args.decls.now c.args.given.now)) 0) c.args.count c.loop-k.of (omega (arith, c.requires, c.loop-k.invariant.0)) (λ k below. c.loop-k.invariant.1 k (omega (arith, below, c.loop-k-test.false)))
