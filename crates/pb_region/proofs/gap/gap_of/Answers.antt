use Rattle.std.proofs.Common.{◌≡◌, ◌||◌, ap, sym, ◌∙◌, arith, pos, to_z, of_z, w64}
use Rattle.std.proofs.lemmas.Int.{ints}
use Rattle.pb_linear.specs.Form.{numbers}
use Rattle.pb_linear.specs.Numbers.{difference}
use Rattle.pb_program.specs.Forms.{CoordinateValue}
use Rattle.pb_region.specs.Gaps.{raised}
use Rattle.pb_region.proofs.GapLemmas.{same_gap}
use Rattle.pb_region.proofs.gap.gap_of.Goals as goal
use Rattle.pb_region.proofs.gap.gap_of.Goals.{Joined-left, then-left, else-left}

quotient : (c : Joined-left) → c.if-left.result ≡ (c.args.left.now.quotient || c.args.right.now.quotient)
quotient c =
    let l = ap (λ (v : CoordinateValue). v.quotient) c.left.view_is in
    let r = ap (λ (v : CoordinateValue). v.quotient) c.right.view_is in
    elim c.if-left.branch [ then-left w ↦ let true_left = sym l ∙ w.if-left.true in rw true_left (w.result-is ∙ w.if-left.true) | else-left w ↦ let false_left = sym l ∙ w.if-left.false in rw false_left (w.result-is ∙ r) ]

pub returns : goal.returns
returns c =
    let l = c.left.view_is in
    let r = c.right.view_is in
    let more : to_z w64 (of_z w64 c.from.result) ≡ pos c.args.more = omega (arith, ints) in
    same_gap _ _ _ _ _ (omega (arith, ints, ap (λ (v : CoordinateValue). v.x) l, ap (λ (v : CoordinateValue). v.x) r)) (omega (arith, ints, ap (λ (v : CoordinateValue). v.y) l, ap (λ (v : CoordinateValue). v.y) r)) (rw more at c.raised.ensures.numbers ∙ ap (raised (pos c.args.more)) (c.difference-rest.ensures.numbers ∙ ap (λ (v : CoordinateValue). difference v.rest (numbers c.right.inside.form.rest)) l ∙ ap (λ (v : CoordinateValue). difference c.args.left.now.rest v.rest) r)) (quotient c)
