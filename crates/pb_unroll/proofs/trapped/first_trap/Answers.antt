use Rattle.std.proofs.Common.{◌∙◌, sym}
use Rattle.pb_unroll.proofs.TrapLemmas.{found_here, none_left, none_of, passed}
use Rattle.pb_unroll.proofs.trapped.first_trap.Goals as goal

pub returns-then-is_untrapped : goal.returns-then-is_untrapped
returns-then-is_untrapped c = none_of c.args.outcomes.now c.args.from c.args.count c.requires.room (c.is_untrapped.ensures c.if-is_untrapped.true)

pub returns-then-is_trapped : goal.returns-then-is_trapped
returns-then-is_trapped c =
    found_here c.args.outcomes.now c.args.from c.args.count c.requires.room c.loop-k.k c.loop-k.invariant c.get.result c.loop-k-test.true c.get.ensures (sym c.is_trapped.ensures ∙ c.if-is_trapped.true)

pub loop-k-preserved : goal.loop-k-preserved
loop-k-preserved c = passed c.args.outcomes.now c.args.from c.args.count c.requires.room c.loop-k.k c.loop-k.invariant c.get.result c.get.ensures (sym c.is_trapped.ensures ∙ c.if-is_trapped.false)

pub returns : goal.returns
returns c = none_left c.args.outcomes.now c.args.from c.args.count c.requires.room c.loop-k.k c.loop-k.invariant c.loop-k-test.false
