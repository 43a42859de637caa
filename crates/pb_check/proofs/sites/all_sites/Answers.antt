use Rattle.std.proofs.Common.{arith, ◌≡◌, ◌<◌, ◌∙◌, ◌++◌, ap, length, map}
use Rattle.pb_program.specs.Transforms.{ProgValue}
use Rattle.pb_program.specs.Trees.{bare_prog, bare_transform}
use Rattle.pb_check.specs.Sites.{sites_of}
use Rattle.pb_check.proofs.NamedLemmas.{there_at}
use Rattle.pb_check.proofs.OrderLemmas.{at_item, found_length}
use Rattle.pb_check.proofs.EachLemmas.{more_made}
use Rattle.std.proofs.lemmas.List.{length-map}
use Rattle.pb_check.proofs.sites.all_sites.Goals as goal

pub overflow_cast-t : goal.overflow_cast-t
overflow_cast-t c =
    let same : map bare_transform c.deref-transform-items.result.now ≡ bare_prog c.args.p.now = ap (map bare_transform) (c.deref-transform-items.ensures.value ∙ ap (λ (v : ProgValue). v.transforms) c.p.view_is) in
    omega (arith, c.loop-t-test.true, ap length same, length-map c.deref-transform-items.result.now bare_transform, c.requires.few)

pub bounds-found-t : goal.bounds-found-t
bounds-found-t c =
    let same : map bare_transform c.deref-transform-items.result.now ≡ bare_prog c.args.p.now = ap (map bare_transform) (c.deref-transform-items.ensures.value ∙ ap (λ (v : ProgValue). v.transforms) c.p.view_is) in
    omega (arith, c.loop-t-test.true, ap length same, length-map c.deref-transform-items.result.now bare_transform, found_length (bare_prog c.args.p.now) c.args.found.now c.requires.found)

pub loop-t-preserved : goal.loop-t-preserved
loop-t-preserved c =
    let p = bare_prog c.args.p.now in
    let x = bare_transform c.transform-item.result in
    let same : map bare_transform c.deref-transform-items.result.now ≡ p = ap (map bare_transform) (c.deref-transform-items.ensures.value ∙ ap (λ (v : ProgValue). v.transforms) c.p.view_is) in
    let there = there_at c.deref-transform-items.result.now p c.loop-t.t c.transform-item.result same c.loop-t-test.true c.transform-item.is in
    let below : c.loop-t.t < length c.args.found.now = omega (arith, c.loop-t-test.true, ap length same, length-map c.deref-transform-items.result.now bare_transform, found_length p c.args.found.now c.requires.found) in
    let found = at_item c.args.found.now c.loop-t.t c.index-found-t.result below c.index-found-t.is in
    let sites = c.in_ok-more.ensures ∙ ap (sites_of c.loop-t.t x) c.nodes.ensures in
    more_made (λ number t a. sites_of number t a.nodes) c.loop-t.t p c.args.found.now x c.index-found-t.result c.loop-t.sites.items c.append.new.self.items there found c.loop-t.invariant (c.in_ok-append.ensures.items ∙ ap (λ l. c.loop-t.sites.items ++ l) sites)
