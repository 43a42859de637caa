use Rattle.std.proofs.Common.{rules, ◌≡◌, ◌∙◌, ap, arith, length, sym, subst}
use Rattle.std.specs.Prelude.{Some, slice_get}
use Rattle.pb_program.specs.Trees.{bare_prog, bare_transform}
use Rattle.pb_check.specs.Cuts.{AreNodes, CutValue}
use Rattle.pb_check.specs.Orders.{IsAnalysis}
use Rattle.pb_check.specs.Phases.{IsBounded}
use Rattle.pb_check.proofs.FirstLemmas.{all_at}
use Rattle.pb_check.proofs.OrderLemmas.{IsFoundTo, fails_here, found_end, found_more, inside, nodes_here, none_left}
use Rattle.pb_check.proofs.orders.order_all.Goals as goal

pub transform_at-requires : goal.transform_at-requires
transform_at-requires c =
    let p = bare_prog c.args.p.now in
    let found = c.loop-cut.found.items in
    let to = subst (IsFoundTo p found) c.in-Some.ensures.steps.0 c.loop-cut.invariant in
    omega (arith, inside p found c.in-Some.cut c.next.new.self.rest.items to, c.len-t.ensures)

pub order_of-requires-clause-bounded : goal.order_of-requires-clause-bounded
order_of-requires-clause-bounded c = all_at IsBounded (bare_prog c.args.p.now) _ (bare_transform c.transform_at.result.now) c.requires.bounded c.transform_at.ensures

pub order_of-requires-clause-nodes : goal.order_of-requires-clause-nodes
order_of-requires-clause-nodes c =
    let p = bare_prog c.args.p.now in
    let found = c.loop-cut.found.items in
    let t = bare_transform c.transform_at.result.now in
    let to = subst (IsFoundTo p found) c.in-Some.ensures.steps.0 c.loop-cut.invariant in
    let at : slice_get p (length found) ≡ Some t = let e : length found ≡ c.len-t.result = omega (arith, c.len-t.ensures, c.loop-cut.found.ok) in ap (slice_get p) e ∙ c.transform_at.ensures in
    let e : c.in-Some.cut.nodes ≡ c.deref.result.now = ap (λ (v : CutValue). v.nodes) (sym c.cut.view_is) ∙ sym c.deref.ensures.value in
    subst (AreNodes t) e (nodes_here p found c.in-Some.cut c.next.new.self.rest.items to t at)

pub returns-in_err-order-clause-refused : goal.returns-in_err-order-clause-refused
returns-in_err-order-clause-refused c =
    let p = bare_prog c.args.p.now in
    let found = c.loop-cut.found.items in
    let t = bare_transform c.transform_at.result.now in
    let to = subst (IsFoundTo p found) c.in-Some.ensures.steps.0 c.loop-cut.invariant in
    let at : slice_get p (length found) ≡ Some t = let e : length found ≡ c.len-t.result = omega (arith, c.len-t.ensures, c.loop-cut.found.ok) in ap (slice_get p) e ∙ c.transform_at.ensures in
    let fails = fails_here p found c.in-Some.cut c.next.new.self.rest.items to t c.len-t.result c.in_err-order.field-0.0 (omega (arith, c.len-t.ensures, c.loop-cut.found.ok)) at c.in_err-order.ensures.refused in
    search rules

pub loop-cut-preserved : goal.loop-cut-preserved
loop-cut-preserved c =
    let p = bare_prog c.args.p.now in
    let found = c.loop-cut.found.items in
    let t = bare_transform c.transform_at.result.now in
    let to = subst (IsFoundTo p found) c.in-Some.ensures.steps.0 c.loop-cut.invariant in
    let at : slice_get p (length found) ≡ Some t = let e : length found ≡ c.len-t.result = omega (arith, c.len-t.ensures, c.loop-cut.found.ok) in ap (slice_get p) e ∙ c.transform_at.ensures in
    let is : IsAnalysis t (record { nodes = c.cut.inside.nodes.items; order = c.in_ok-order.order }) =
    subst (λ ns. IsAnalysis t (record { nodes = ns; order = c.in_ok-order.order })) c.deref.ensures.value c.in_ok-order.ensures.found in
    found_more p found c.in-Some.cut c.next.new.self.rest.items to t (record { nodes = c.cut.inside.nodes.items; order = c.in_ok-order.order }) c.push.new.self.items at is c.in_ok-push.ensures.items

pub returns-clause-found : goal.returns-clause-found
returns-clause-found c = found_end (bare_prog c.args.p.now) c.loop-cut.found.items (subst (IsFoundTo (bare_prog c.args.p.now) c.loop-cut.found.items) (none_left c.loop-cut.cut-iterator.rest.items (omega (arith, c.in-None.ensures.steps.0, c.loop-cut.cut-iterator.rest.ok))) c.loop-cut.invariant)
