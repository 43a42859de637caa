use Rattle.std.proofs.Common.{◌≡◌, ◌<◌, ◌≤◌, length, ◌∙◌, sym, rules, arith, to_z, of_z, w64}
use Rattle.pb_eval.proofs.TermLemmas.{steps_end, steps_err, steps_ok, steps_same}
use Rattle.pb_eval.proofs.chain.steps.Goals as goal

pub returns-in-Err-clause-value : goal.returns-in-Err-clause-value
returns-in-Err-clause-value g c =
    let first : to_z w64 (of_z w64 c.args.first) ≡ c.args.first = search rules in
    let inside : c.loop-next.next-index < length c.args.rest.now = omega arith in
    steps_same _ _ _ _ _ _ first (steps_err _ _ _ _ _ _ _ inside (sym c.step.ensures.value ∙ c.in-Err.is) ∙ c.loop-next.invariant.value)

pub loop-next-preserved : goal.loop-next-preserved
loop-next-preserved g c =
    let next : to_z w64 (of_z w64 c.in-Ok.value) ≡ c.in-Ok.value = search rules in
    let inside : c.loop-next.next-index < length c.args.rest.now = omega arith in
    record {
      value = steps_ok _ _ _ _ _ _ _ _ inside next (sym c.step.ensures.value ∙ c.in-Ok.is) ∙ c.loop-next.invariant.value;
      same_reference = c.step.ensures.same_reference ∙ c.loop-next.invariant.same_reference;
    }

pub returns-clause-value : goal.returns-clause-value
returns-clause-value g c =
    let first : to_z w64 (of_z w64 c.args.first) ≡ c.args.first = search rules in
    let past : length c.args.rest.now ≤ c.loop-next.next-index = omega arith in
    steps_same _ _ _ _ _ _ first (sym (steps_end _ _ _ _ _ past) ∙ c.loop-next.invariant.value)
