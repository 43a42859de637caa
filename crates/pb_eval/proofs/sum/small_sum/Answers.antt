use Rattle.std.proofs.Common.{◌≡◌, ◌∙◌, ◌+◌, ◌*◌, ◌^◌, ◌≤◌, ap, refl, sym, unsigned_abs, rules, arith, to_z, of_z, w64}
use Rattle.pb_statements.specs.Shown.{number_told}
use Rattle.pb_eval.specs.Sums.{SumValue}
use Rattle.pb_eval.proofs.SumLemmas.{sum_begin, sum_end, sum_more}
use Rattle.pb_eval.proofs.sum.small_sum.Goals as goal

pub loop-next-init : goal.loop-next-init
loop-next-init g c =
    let turn = g.N.NamesTurn.turn in
    let held : to_z w64 (of_z w64 c.number-first.result) ≡ c.number-first.result = search rules in
    record {
      small = c.is_small.ensures c.if-not-is_small.false;
      value = λ ms t b st is tells. sum_begin b st turn ms c.args.place tells t c.args.sum.now is c.sum.inside.first c.number-first.result _ (ap (λ (s : SumValue). s.first) c.sum.view_is) (c.number-first.ensures.number ∙ ap (number_told turn) c.at.ensures) held;
      same_reference = refl;
    }

pub loop-next-preserved : goal.loop-next-preserved
loop-next-preserved g c =
    let turn = g.N.NamesTurn.turn in
    let same : to_z w64 (of_z w64 c.in-Some.more) ≡ c.in-Some.more = search rules in
    let held : to_z w64 (of_z w64 c.number-n.result) ≡ c.number-n.result = search rules in
    let small : unsigned_abs c.in-Some.more ≤ (c.loop-next.next-index + 1 + 1) * 2 ^ 58 = omega (arith, c.in-Some.ensures.small, c.loop-next.invariant.small) in
    record {
      small = rw same small;
      value = λ ms t b st is tells.
          sum_more b st turn ms c.args.place tells t c.args.sum.now is c.deref-next-items.result.now (c.deref-next-items.ensures.value ∙ ap (λ (s : SumValue). s.rest) c.sum.view_is) c.loop-next.next-index _ _ c.number-n.result _ _ _ c.loop-next-test.true
          (c.number-n.ensures.number ∙ ap (number_told turn) c.at-in-loop-next.ensures) held c.in-Some.ensures.value same
          ∙ c.loop-next.invariant.value ms t b st is tells;
      same_reference = c.number-n.ensures.same_reference ∙ c.loop-next.invariant.same_reference;
    }

pub returns-clause-value : goal.returns-clause-value
returns-clause-value g c = λ ms t b st is tells.
    sym (c.loop-next.invariant.value ms t b st is tells)
    ∙ sum_end b st g.N.NamesTurn.turn ms c.args.place tells t c.args.sum.now is c.deref-next-items.result.now (c.deref-next-items.ensures.value ∙ ap (λ (s : SumValue). s.rest) c.sum.view_is) c.loop-next.next-index _ c.loop-next-test.false
