use Rattle.std.proofs.Common.{◌≡◌, ◌∙◌, ap, map, rules, subst}
use Rattle.std.specs.Prelude.{Some, slice_get}
use Rattle.pb_program.specs.Transforms.{ProgValue}
use Rattle.pb_program.specs.Trees.{bare_prog, bare_transform}
use Rattle.pb_region.proofs.RuleLemmas.{held_at}
use Rattle.pb_check.specs.Phases.{IsBounded}
use Rattle.pb_check.proofs.CutLemmas.{fails_found, next_found}
use Rattle.pb_check.proofs.FirstLemmas.{all_at}
use Rattle.pb_check.proofs.cuts.cut_all.Goals as goal

pub transform_nodes-requires-clause-bounded : goal.transform_nodes-requires-clause-bounded
transform_nodes-requires-clause-bounded c =
    let held : c.deref-transform-items.result.now ≡ c.args.p.now.transforms = c.deref-transform-items.ensures.value ∙ ap (λ (x : ProgValue). x.transforms) c.p.view_is in
    let there : slice_get (bare_prog c.args.p.now) c.loop-t.t ≡ Some (bare_transform c.transform-item.result) = subst (λ ts. slice_get (map bare_transform ts) c.loop-t.t ≡ Some (bare_transform c.transform-item.result)) held (held_at bare_transform c.deref-transform-items.result.now c.loop-t.t c.transform-item.result c.loop-t-test.true c.transform-item.is) in
    all_at IsBounded (bare_prog c.args.p.now) c.loop-t.t (bare_transform c.transform-item.result) c.requires.bounded there

pub returns-in_err-nodes-clause-refused : goal.returns-in_err-nodes-clause-refused
returns-in_err-nodes-clause-refused c =
    let held : c.deref-transform-items.result.now ≡ c.args.p.now.transforms = c.deref-transform-items.ensures.value ∙ ap (λ (x : ProgValue). x.transforms) c.p.view_is in
    let there : slice_get (bare_prog c.args.p.now) c.loop-t.t ≡ Some (bare_transform c.transform-item.result) = subst (λ ts. slice_get (map bare_transform ts) c.loop-t.t ≡ Some (bare_transform c.transform-item.result)) held (held_at bare_transform c.deref-transform-items.result.now c.loop-t.t c.transform-item.result c.loop-t-test.true c.transform-item.is) in
    let fails = fails_found (bare_prog c.args.p.now) c.loop-t.t (bare_transform c.transform-item.result) there c.loop-t.cuts.items c.in_err-nodes.field-0.0 c.loop-t.invariant c.in_err-nodes.ensures.refused in
    search rules

pub loop-t-preserved : goal.loop-t-preserved
loop-t-preserved c =
    let held : c.deref-transform-items.result.now ≡ c.args.p.now.transforms = c.deref-transform-items.ensures.value ∙ ap (λ (x : ProgValue). x.transforms) c.p.view_is in
    let there : slice_get (bare_prog c.args.p.now) c.loop-t.t ≡ Some (bare_transform c.transform-item.result) = subst (λ ts. slice_get (map bare_transform ts) c.loop-t.t ≡ Some (bare_transform c.transform-item.result)) held (held_at bare_transform c.deref-transform-items.result.now c.loop-t.t c.transform-item.result c.loop-t-test.true c.transform-item.is) in
    next_found (bare_prog c.args.p.now) c.loop-t.t (bare_transform c.transform-item.result) there c.loop-t.cuts.items c.push.new.self.items (record { nodes = c.in_ok-nodes.nodes.items }) c.loop-t.invariant c.in_ok-nodes.ensures.found c.in_ok-push.ensures.items
