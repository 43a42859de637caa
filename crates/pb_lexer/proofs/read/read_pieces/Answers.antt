use Rattle.std.proofs.Common.{arith, inr, sym}
use Rattle.pb_lexer.proofs.ReadLemmas.{at_start, at_fault, at_next}
use Rattle.pb_lexer.proofs.read.read_pieces.Goals as goal

pub loop-at-init : goal.loop-at-init
loop-at-init c = (omega arith, at_start c.args.text.now _ c.new-found.ensures.items)

pub returns-in_default-clause-refused : goal.returns-in_default-clause-refused
returns-in_default-clause-refused c =
    inr (c.requires, at_fault c.args.text.now c.loop-at.at _ c.loop-at-test.true c.loop-at.invariant.1 (sym c.in_default.ensures.front))

pub loop-at-preserved : goal.loop-at-preserved
loop-at-preserved c =
    (omega (arith, c.in-Some.ensures.within), at_next c.args.text.now c.loop-at.at c.in-Some.front _ _ c.loop-at.invariant.0 c.loop-at.invariant.1 (sym c.in-Some.ensures.front) c.in_ok-put_token.ensures.put)
