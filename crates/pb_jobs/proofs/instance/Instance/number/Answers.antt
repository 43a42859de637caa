use Rattle.std.proofs.Common.{◌≡◌, ◌∙◌, ◌≤◌, ◌+◌, true, false, ap, sym, subst, length, arith, w64, to_z, of_z}
use Rattle.std.proofs.lemmas.Grind.{common_steps}
use Rattle.std.proofs.lemmas.Int.{to_z-of_z}
use Rattle.pb_values.specs.Views.{HasPlace}
use Rattle.pb_program.specs.Trees.{ProgRule}
use Rattle.pb_eval.specs.CanRun.{at_variables, outs_needed}
use Rattle.pb_model.specs.Equations.{in_outputs}
use Rattle.pb_jobs.specs.Instances.{of_sizes, of_transform}
use Rattle.pb_jobs.specs.Jobs.{stop_cell}
use Rattle.pb_jobs.proofs.OutputLemmas.{across, down, same_rule}
use Rattle.pb_jobs.proofs.PickLemmas.{IsPast, below, fits, past_all, past_it, picked, small, sum_fits}
use Rattle.pb_jobs.proofs.instance.Instance.number.Goals as goal
use Rattle.pb_jobs.proofs.instance.Instance.number.Goals.{else-output-stop-via-then-output-stop+else-holds, else-output-stop-via-else-output-stop}

pub place_in-requires-clause-small : goal.place_in-requires-clause-small
place_in-requires-clause-small c = let can = c.requires.can in small c.requires.ready can (c.loop-k.invariant can.rule can.there) (c.output_box-output.ensures can.rule can.there)

pub overflow_add-first : goal.overflow_add-first
overflow_add-first c =
    let can = c.requires.can in
    omega (arith, sum_fits c.requires.ready can (c.loop-k.invariant can.rule can.there) (c.output_box-output.ensures can.rule can.there) c.if-output-stop.true (c.holds.ensures.0 c.if-holds.true) c.place_in.result c.place_in.ensures)

pub out-requires : goal.out-requires
out-requires c =
    let can = c.requires.can in
    omega (
      arith,
      (c.requires.room (of_transform c.args.self.now) can.rule c.requires.ready.there can.there).1 0 0,
      below c.requires.ready can (c.loop-k.invariant can.rule can.there) (c.output_box-output.ensures can.rule can.there) c.if-output-stop.true (c.holds.ensures.0 c.if-holds.true) c.place_in.result c.place_in.ensures,
    )

pub returns-then-holds : goal.returns-then-holds
returns-then-holds c = λ r numbers there left count.
    let can = c.requires.can in
    let v = c.args.self.now in
    let same = same_rule c.requires.ready can r there in
    let whole : to_z w64 (of_z w64 c.out.result) ≡ c.out.result = grind (arith, common_steps, to_z-of_z, c.out.type_inv) in
    whole ∙ subst (λ (q : ProgRule). c.out.result ≡ in_outputs (of_transform v).matrices (of_sizes v) (stop_cell c.args.stop) q.outs numbers) same
    (picked c.requires.ready can (c.loop-k.invariant can.rule can.there) (c.output_box-output.ensures can.rule can.there) c.if-output-stop.true (c.holds.ensures.0 c.if-holds.true) c.place_in.result c.place_in.ensures
    c.args.scratch.now.body numbers c.out.result left (count ∙ ap (outs_needed (of_transform v).matrices (of_sizes v) (at_variables 0 0)) (sym same)) c.out.ensures)

pub count-first-requires-clause-across : goal.count-first-requires-clause-across
count-first-requires-clause-across c = let can = c.requires.can in across c.requires.ready can (c.output_box-output.ensures can.rule can.there)

pub count-first-requires-clause-down : goal.count-first-requires-clause-down
count-first-requires-clause-down c = let can = c.requires.can in down c.requires.ready can (c.output_box-output.ensures can.rule can.there)

pub count-first-requires-clause-small : goal.count-first-requires-clause-small
count-first-requires-clause-small c = let can = c.requires.can in small c.requires.ready can (c.loop-k.invariant can.rule can.there) (c.output_box-output.ensures can.rule can.there)

pub overflow_add-first-in-loop-k : goal.overflow_add-first-in-loop-k
overflow_add-first-in-loop-k c = let can = c.requires.can in omega (arith, c.count-first.ensures, fits c.requires.ready can (c.loop-k.invariant can.rule can.there) (c.output_box-output.ensures can.rule can.there))

pub loop-k-preserved : goal.loop-k-preserved
loop-k-preserved c = λ r there.
    let can = c.requires.can in
    let v = c.args.self.now in
    let never : c.output_box-output.result.base ≡ c.args.stop.base → HasPlace c.output_box-output.result.rect c.args.stop.x c.args.stop.y → ⊥ = λ same place. elim c.else-output-stop.branch [
      | else-output-stop-via-then-output-stop+else-holds w ↦ let both : true ≡ false = sym (w.holds.ensures.1 place) ∙ w.if-holds.false in cc
      | else-output-stop-via-else-output-stop w ↦ w.if-output-stop.false same
    ] in
    subst (λ (q : ProgRule). IsPast (of_transform v).matrices (of_sizes v) (stop_cell c.args.stop) q (c.loop-k.k + 1) (c.loop-k.first + c.count-first.result)) (same_rule c.requires.ready can r there)
    (past_it c.requires.ready can (c.loop-k.invariant can.rule can.there) (c.output_box-output.ensures can.rule can.there) never c.count-first.result c.count-first.ensures)

pub returns : goal.returns
returns c = λ r numbers there left count.
    let end : length r.outs ≤ c.loop-k.k = omega (arith, c.loop-k-test.false, ap length (c.outs-outs.ensures r there)) in
    sym (past_all (c.loop-k.invariant r there) end numbers)
