use Rattle.std.proofs.Common.{◌∙◌, ◌≡◌, ap, map}
use Rattle.pb_program.specs.Transforms.{ProgValue}
use Rattle.pb_program.specs.Trees.{bare_prog, bare_transform}
use Rattle.pb_check.proofs.NamedLemmas.{bounded_at, cut_at, found_at, nowhere_at, past_at, there_at}
use Rattle.pb_check.proofs.named.nodes_at.Goals as goal

pub transform_nodes-requires-clause-bounded : goal.transform_nodes-requires-clause-bounded
transform_nodes-requires-clause-bounded c =
    let p = bare_prog c.args.p.now in
    let same : map bare_transform c.deref.result.now ≡ p = ap (map bare_transform) (c.deref.ensures.value ∙ ap (λ (v : ProgValue). v.transforms) c.p.view_is) in
    let there = there_at c.deref.result.now p c.args.t c.in-Some.transform.now same c.in-Some.ensures.lookup.3.0 c.in-Some.ensures.lookup.1 in
    bounded_at p c.args.t (bare_transform c.in-Some.transform.now) c.requires.bounded there

pub returns-in-Some-clause-found : goal.returns-in-Some-clause-found
returns-in-Some-clause-found c =
    let p = bare_prog c.args.p.now in
    let same : map bare_transform c.deref.result.now ≡ p = ap (map bare_transform) (c.deref.ensures.value ∙ ap (λ (v : ProgValue). v.transforms) c.p.view_is) in
    let there = there_at c.deref.result.now p c.args.t c.in-Some.transform.now same c.in-Some.ensures.lookup.3.0 c.in-Some.ensures.lookup.1 in
    found_at p c.args.t (λ ns. ns.items) c.transform_nodes.result (bare_transform c.in-Some.transform.now) there c.transform_nodes.ensures.found

pub returns-in-Some-clause-refused : goal.returns-in-Some-clause-refused
returns-in-Some-clause-refused c =
    let p = bare_prog c.args.p.now in
    let same : map bare_transform c.deref.result.now ≡ p = ap (map bare_transform) (c.deref.ensures.value ∙ ap (λ (v : ProgValue). v.transforms) c.p.view_is) in
    let there = there_at c.deref.result.now p c.args.t c.in-Some.transform.now same c.in-Some.ensures.lookup.3.0 c.in-Some.ensures.lookup.1 in
    cut_at p c.args.t c.transform_nodes.result (bare_transform c.in-Some.transform.now) c.requires.cut there c.transform_nodes.ensures.refused

pub returns-in-None-clause-found : goal.returns-in-None-clause-found
returns-in-None-clause-found c =
    let p = bare_prog c.args.p.now in
    let same : map bare_transform c.deref.result.now ≡ p = ap (map bare_transform) (c.deref.ensures.value ∙ ap (λ (v : ProgValue). v.transforms) c.p.view_is) in
    nowhere_at p c.args.t _ (past_at c.deref.result.now p c.args.t same c.in-None.ensures.lookup.3) c.new.ensures.items
