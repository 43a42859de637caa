use Rattle.std.proofs.Common.{◌∙◌, ◌++◌, [], ◌∷◌, map, take, true, false, ap, sym, arith}
use Rattle.std.proofs.lemmas.List.{append-nil, map-append}
use Rattle.pb_grid.specs.Gaps.{both_held}
use Rattle.pb_grid.specs.Segments.{holder_of}
use Rattle.pb_grid.proofs.GapLemmas.{held_more}
use Rattle.pb_grid.proofs.segments.holders.Goals as goal

pub loop-place-preserved-then-not-are_held : goal.loop-place-preserved-then-not-are_held
loop-place-preserved-then-not-are_held c =
    c.loop-place.invariant ∙ ap (map holder_of) (sym (held_more c.args.x.now.held c.args.y.now.held c.args.boxes.now c.loop-place.place c.index-boxes-place.result false c.requires.x c.requires.y (omega arith) c.index-boxes-place.is (sym c.are_held.ensures ∙ c.if-not-are_held.true) ∙ append-nil _))

pub loop-place-preserved : goal.loop-place-preserved
loop-place-preserved c =
    let i = c.loop-place.place in
    let before = both_held (take i c.args.x.now.held) (take i c.args.y.now.held) (take i c.args.boxes.now) in
    let x = c.index-boxes-place.result in
    c.in_ok-push.ensures.items ∙ ap (λ h. c.loop-place.holders.items ++ h ∷ []) (ap holder_of c.rule_box.view_is) ∙ ap (λ l. l ++ holder_of x ∷ []) c.loop-place.invariant
    ∙ sym (ap (map holder_of) (held_more c.args.x.now.held c.args.y.now.held c.args.boxes.now i x true c.requires.x c.requires.y (omega arith) c.index-boxes-place.is (sym c.are_held.ensures ∙ c.if-not-are_held.false)) ∙ map-append holder_of before (x ∷ []))
