use Rattle.std.proofs.Common.{◌∙◌, refl, ap, length, map, subst, List, get_or, ◌≡◌, ◌<◌, arith}
use Rattle.std.proofs.lemmas.List.{length-map}
use Rattle.pb_program.specs.Transforms.{ProgValue, TransformValue}
use Rattle.pb_program.specs.Trees.{bare_prog, bare_transform}
use Rattle.pb_region.proofs.RuleLemmas.{held_at}
use Rattle.pb_check.specs.Phases.{IsBounded}
use Rattle.pb_check.proofs.FirstLemmas.{all_end, more}
use Rattle.pb_check.proofs.bounds.bounds.Goals as goal

pub loop-t-preserved : goal.loop-t-preserved
loop-t-preserved c =
    let same = c.deref-transform-items.ensures.value ∙ ap (λ (p : ProgValue). p.transforms) c.p.view_is in
    let x = c.transform-item.result in
    let below : c.loop-t.t < length c.args.p.now.transforms = subst (λ (l : List TransformValue). c.loop-t.t < length l) same c.loop-t-test.true in
    let here : x ≡ get_or c.args.p.now.transforms c.loop-t.t x = subst (λ (l : List TransformValue). x ≡ get_or l c.loop-t.t x) same c.transform-item.is in
    more IsBounded (bare_prog c.args.p.now) c.loop-t.t (bare_transform x) c.loop-t.invariant (held_at bare_transform c.args.p.now.transforms c.loop-t.t x below here) c.in_ok-transform_bounds.ensures.found

pub returns-clause-found : goal.returns-clause-found
returns-clause-found c =
    let same = c.deref-transform-items.ensures.value ∙ ap (λ (p : ProgValue). p.transforms) c.p.view_is in
    let long : length (map bare_transform c.args.p.now.transforms) ≡ length c.args.p.now.transforms = rw length-map refl in
    all_end IsBounded (bare_prog c.args.p.now) c.loop-t.t c.loop-t.invariant (omega (arith, ap length same, long, c.loop-t-test.false))
