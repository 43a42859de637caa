use Rattle.std.proofs.Common.{arith}
use Rattle.pb_core.proofs.LinkLemmas.{open-none, open-set, open-some}
use Rattle.pb_core.proofs.links.open_place.Goals as goal

pub returns-then-flags-place : goal.returns-then-flags-place
returns-then-flags-place c = open-set c.args.numbers.now c.args.flags.now c.args.number c.loop-place.place c.requires.flags c.loop-place-test.true c.loop-place.invariant c.if-numbers-place.true c.if-flags-place.true

pub returns-else-flags-place : goal.returns-else-flags-place
returns-else-flags-place c = open-some c.args.numbers.now c.args.flags.now c.args.number c.loop-place.place c.requires.flags c.loop-place-test.true c.loop-place.invariant c.if-numbers-place.true c.if-flags-place.false

pub returns : goal.returns
returns c = open-none c.args.numbers.now c.args.flags.now c.args.number (λ k below. c.loop-place.invariant k (omega arith))
