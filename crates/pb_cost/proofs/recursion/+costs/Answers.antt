use Rattle.std.proofs.Common.{◌∙◌, sym, ap, subst, ⊎_elim, List, map, Option, Some, arith}
use Rattle.pb_linear.specs.Sizes.{sizes_of}
use Rattle.pb_program.specs.Trees.{bare_prog}
use Rattle.pb_counts.proofs.TellLemmas.{can_enter}
use Rattle.pb_cost.specs.Calls.{Entered, call_cost, deeper_at, plus, total}
use Rattle.pb_cost.specs.Known.{IsKnown}
use Rattle.pb_cost.specs.Planned.{CanBeEntered}
use Rattle.pb_cost.proofs.DepthLemmas.{above, none_made}
use Rattle.pb_cost.proofs.LookLemmas.{costed}
use Rattle.pb_cost.proofs.SumLemmas.{none_left, one_more}
use Rattle.pb_cost.proofs.recursion.+costs.Goals as goal

pub call_cost-returns-clause-cost : goal.call_cost-returns-clause-cost
call_cost-returns-clause-cost m c =
    let v = c.args.a.now in
    let sizes = sizes_of c.args.s.now in
    let all = λ (l : List (Option Entered)). plus (Some c.in_ok-own.own) (total (map (call_cost (deeper_at (bare_prog v.program) c.args.c.now c.args.depth)) l)) in
    c.in_ok-cost.ensures.cost ∙ ap all c.deref.ensures.value ∙ costed v c.args.c.now c.args.depth c.args.t sizes c.in_ok-own.own c.in_ok-own.calls.items c.in_ok-own.ensures.own c.in_ok-own.ensures.calls

pub call_cost-returns-clause-known : goal.call_cost-returns-clause-known
call_cost-returns-clause-known m c = λ k h.
    let v = c.args.a.now in
    let sizes = sizes_of c.args.s.now in
    let all = λ (l : List (Option Entered)). plus (Some c.in_ok-own.own) (total (map (call_cost (deeper_at (bare_prog v.program) c.args.c.now c.args.depth)) l)) in
    ⊎_elim (λ old. c.in_ok-cost.ensures.known k old)
    (λ new. subst (IsKnown (bare_prog v.program) c.args.c.now) (sym new) (c.in_ok-cost.ensures.cost ∙ ap all c.deref.ensures.value ∙ costed v c.args.c.now c.args.depth c.args.t sizes c.in_ok-own.own c.in_ok-own.calls.items c.in_ok-own.ensures.own c.in_ok-own.ensures.calls))
    (c.in_ok-add.ensures k h)

pub with_calls-returns-in_default-clause-cost : goal.with_calls-returns-in_default-clause-cost
with_calls-returns-in_default-clause-cost m c =
    let p = bare_prog c.args.a.now.program in
    let f = call_cost (deeper_at p c.args.c.now c.args.depth) in
    let none = ap f (sym c.call-item.is) ∙ none_made p c.args.c.now c.args.depth c.call-item.result c.in_default.is in
    sym (none_left c.args.own f c.args.calls.now c.loop-call.call-index c.call-item.result c.loop-call-test.true none)

pub with_calls-call_cost-requires : goal.with_calls-call_cost-requires
with_calls-call_cost-requires m c =
    let p = bare_prog c.args.a.now.program in
    let n : Entered = (c.entered.inside.transform, sizes_of c.entered.inside.sizes) in
    let at = sym c.call-item.is ∙ c.in-Some.is ∙ ap Some (sym c.entered.view_is) in
    let can = subst (CanBeEntered p) at (c.requires.calls c.loop-call.call-index c.call-item.result c.loop-call-test.true) in
    (omega (arith, c.decreases, c.if-depth-eq0.false), (c.requires.valid, (can_enter c.args.a.now c.prog.ensures.accepted n can, c.loop-call.invariant.1)))

pub with_calls-returns-in_default-2-clause-cost : goal.with_calls-returns-in_default-2-clause-cost
with_calls-returns-in_default-2-clause-cost m c =
    let p = bare_prog c.args.a.now.program in
    let f = call_cost (deeper_at p c.args.c.now c.args.depth) in
    let n : Entered = (c.entered.inside.transform, sizes_of c.entered.inside.sizes) in
    let none = ap f (sym c.call-item.is ∙ c.in-Some.is ∙ ap Some (sym c.entered.view_is)) ∙ above p c.args.c.now c.args.depth c.if-depth-eq0.false n ∙ sym c.in_ok-one.ensures.cost ∙ c.in_default-2.is in
    sym (none_left c.args.own f c.args.calls.now c.loop-call.call-index c.call-item.result c.loop-call-test.true none)

pub with_calls-loop-call-preserved : goal.with_calls-loop-call-preserved
with_calls-loop-call-preserved m c =
    let p = bare_prog c.args.a.now.program in
    let f = call_cost (deeper_at p c.args.c.now c.args.depth) in
    let n : Entered = (c.entered.inside.transform, sizes_of c.entered.inside.sizes) in
    let one = ap f (sym c.call-item.is ∙ c.in-Some.is ∙ ap Some (sym c.entered.view_is)) ∙ above p c.args.c.now c.args.depth c.if-depth-eq0.false n ∙ sym c.in_ok-one.ensures.cost ∙ c.in-Some-2.is in (
      ap Some c.in_ok-cost.ensures ∙ (λ i. plus (c.loop-call.invariant.0 i) (sym one i)) ∙ sym (one_more c.args.own f c.args.calls.now c.loop-call.call-index c.call-item.result c.loop-call-test.true),
      c.in_ok-one.ensures.known,
    )
