use Rattle.std.proofs.Common.{◌∙◌, ◌∷◌, [], ap, refl, length, arith}
use Rattle.std.proofs.lemmas.List.{length-append}
use Rattle.pb_eval.proofs.TermLemmas.{steps_begin, steps_more}
use Rattle.pb_eval.proofs.terms.Terms.go_on.Goals as goal

pub loop-next-init : goal.loop-next-init
loop-next-init c = record {
  count = ap length c.requires.none;
  steps = steps_begin c.args.rest.now c.args.self.now.rest c.requires.none;
  first = refl;
}

pub loop-next-preserved : goal.loop-next-preserved
loop-next-preserved c = record {
  count = ap length c.put.ensures.rest ∙ omega (arith, length-append c.loop-next.self.rest ((c.next-item.result.0, c.in-Some.term) ∷ []), c.loop-next.invariant.count);
  steps = steps_more c.args.rest.now c.loop-next.next-index c.next-item.result c.loop-next.self.rest c.put.new.self.rest c.in-Some.term c.loop-next-test.true c.next-item.is c.loop-next.invariant.steps c.in-Some.ensures c.put.ensures.rest;
  first = c.put.ensures.first ∙ c.loop-next.invariant.first;
}
