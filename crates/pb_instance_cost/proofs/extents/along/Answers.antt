use Rattle.std.proofs.Common.{◌≤◌, ◌^◌, unsigned_abs, subst, sym, arith}
use Rattle.std.proofs.lemmas.Int.{ints}
use Rattle.pb_instance_cost.proofs.ExtentLemmas.{along_is, three_fit}
use Rattle.pb_instance_cost.proofs.extents.along.Goals as goal

pub overflow_add-result-2 : goal.overflow_add-result-2
overflow_add-result-2 c = three_fit c.args.e.now.rest c.term.result c.term-2.result c.args.e.now.small_rest c.term.ensures.near c.term-2.ensures.near

pub returns-clause-first : goal.returns-clause-first
returns-clause-first c = along_is c.args.e.now c.args.x c.args.y c.term.result c.term-2.result c.term.ensures.near c.term-2.ensures.near c.term.ensures.value c.term-2.ensures.value

pub invariant_of-result : goal.invariant_of-result
invariant_of-result c = record {
  small_first = subst (λ z. unsigned_abs z ≤ 2 ^ 27) (sym (along_is c.args.e.now c.args.x c.args.y c.term.result c.term-2.result c.term.ensures.near c.term-2.ensures.near c.term.ensures.value c.term-2.ensures.value)) c.requires.near;
  small_step = omega (arith, ints, c.args.e.now.small_x);
}
