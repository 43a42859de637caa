use Rattle.std.proofs.Common.{arith, ◌≡◌, ◌<◌, ◌∙◌, ap, length, map}
use Rattle.std.proofs.lemmas.List.{length-map}
use Rattle.pb_program.specs.Transforms.{ProgValue}
use Rattle.pb_program.specs.Trees.{bare_prog, bare_transform}
use Rattle.pb_program.specs.WellFormed.{IsTransform}
use Rattle.pb_region.proofs.SmallLemmas.{at_place}
use Rattle.pb_check.specs.Sites.{sites_of}
use Rattle.pb_check.proofs.EachLemmas.{more_made}
use Rattle.pb_check.proofs.NamedLemmas.{there_at}
use Rattle.pb_check.proofs.OrderLemmas.{at_item, found_length}
use Rattle.pb_report.specs.Report.{transform_report}
use Rattle.pb_report.proofs.program.report_of.Goals as goal

pub overflow_cast-t : goal.overflow_cast-t
overflow_cast-t c =
    let same : map bare_transform c.deref-transform-items.result.now ≡ bare_prog c.args.p.now = ap (map bare_transform) (c.deref-transform-items.ensures.value ∙ ap (λ (v : ProgValue). v.transforms) c.p.view_is) in
    omega (arith, c.loop-t-test.true, ap length same, length-map c.deref-transform-items.result.now bare_transform, c.requires.well_formed.few)

pub bounds-found-t : goal.bounds-found-t
bounds-found-t c =
    let same : map bare_transform c.deref-transform-items.result.now ≡ bare_prog c.args.p.now = ap (map bare_transform) (c.deref-transform-items.ensures.value ∙ ap (λ (v : ProgValue). v.transforms) c.p.view_is) in
    omega (arith, c.loop-t-test.true, ap length same, length-map c.deref-transform-items.result.now bare_transform, found_length (bare_prog c.args.p.now) c.args.found.now c.requires.found)

pub write_found-requires : goal.write_found-requires
write_found-requires c =
    let p = bare_prog c.args.p.now in
    let same : map bare_transform c.deref-transform-items.result.now ≡ p = ap (map bare_transform) (c.deref-transform-items.ensures.value ∙ ap (λ (v : ProgValue). v.transforms) c.p.view_is) in
    let there = there_at c.deref-transform-items.result.now p c.loop-t.t c.transform-item.result same c.loop-t-test.true c.transform-item.is in
    (at_place (IsTransform (length p)) p c.loop-t.t (bare_transform c.transform-item.result) c.requires.well_formed.transforms there).few_sizes

pub loop-t-preserved : goal.loop-t-preserved
loop-t-preserved c =
    let p = bare_prog c.args.p.now in
    let x = bare_transform c.transform-item.result in
    let same : map bare_transform c.deref-transform-items.result.now ≡ p = ap (map bare_transform) (c.deref-transform-items.ensures.value ∙ ap (λ (v : ProgValue). v.transforms) c.p.view_is) in
    let there = there_at c.deref-transform-items.result.now p c.loop-t.t c.transform-item.result same c.loop-t-test.true c.transform-item.is in
    let below : c.loop-t.t < length c.args.found.now = omega (arith, c.loop-t-test.true, ap length same, length-map c.deref-transform-items.result.now bare_transform, found_length p c.args.found.now c.requires.found) in
    let found = at_item c.args.found.now c.loop-t.t c.index-found-t.result below c.index-found-t.is in
    more_made (λ number t a. transform_report t a.nodes a.order (sites_of number t a.nodes)) c.loop-t.t p c.args.found.now x c.index-found-t.result c.loop-t.text.items c.write_found.new.text.items there found c.loop-t.invariant c.in_ok-write_found.ensures
