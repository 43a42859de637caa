use Rattle.std.proofs.Common.{◌≡◌, ◌*◌, ◌<◌, ◌∙◌, ap, Err, sym, rules, arith, to_z, of_z, w64, length}
use Rattle.pb_statements.specs.Places.{grid_shown, height_of, width_of}
use Rattle.pb_statements.proofs.CellLemmas.{length-cells}
use Rattle.pb_statements.proofs.ProductLemmas.{dot_end, dot_err, dot_ok, dot_other, dot_start}
use Rattle.pb_statements.proofs.shown.Shown.dot.Goals as goal

pub returns-then-cells-height-clause-dot : goal.returns-then-cells-height-clause-dot
returns-then-cells-height-clause-dot g c =
    let own : c.height.result * c.width.result ≡ height_of c.args.self.now * width_of c.args.self.now = λ j. c.height.ensures j * c.width.ensures j in
    let theirs : c.height-2.result * c.width-2.result ≡ height_of c.args.other.now * width_of c.args.other.now = λ j. c.height-2.ensures j * c.width-2.ensures j in
    let l = length-cells g.N.NamesTurn.turn c.args.scratch.now.numbers.items c.args.self.now in
    let r = length-cells g.N.NamesTurn.turn c.args.scratch.now.numbers.items c.args.other.now in
    ap (λ k. Err k) c.of.ensures ∙ dot_other _ _ (λ e. c.if-cells-height.true (own ∙ sym l ∙ e ∙ r ∙ sym theirs))

pub loop-i-init : goal.loop-i-init
loop-i-init g c =
    let own : c.height.result * c.width.result ≡ height_of c.args.self.now * width_of c.args.self.now = λ j. c.height.ensures j * c.width.ensures j in
    let theirs : c.height-2.result * c.width-2.result ≡ height_of c.args.other.now * width_of c.args.other.now = λ j. c.height-2.ensures j * c.width-2.ensures j in
    let l = length-cells g.N.NamesTurn.turn c.args.scratch.now.numbers.items c.args.self.now in
    let r = length-cells g.N.NamesTurn.turn c.args.scratch.now.numbers.items c.args.other.now in
    record { dot = dot_start _ _ (l ∙ sym own ∙ c.if-cells-height.false ∙ theirs ∙ sym r); same_reference = search rules }

pub returns-in-Err-clause-dot : goal.returns-in-Err-clause-dot
returns-in-Err-clause-dot g c =
    let own : c.height.result * c.width.result ≡ height_of c.args.self.now * width_of c.args.self.now = λ j. c.height.ensures j * c.width.ensures j in
    let theirs : c.height-2.result * c.width-2.result ≡ height_of c.args.other.now * width_of c.args.other.now = λ j. c.height-2.ensures j * c.width-2.ensures j in
    let vs = (grid_shown g.N.NamesTurn.turn c.args.scratch.now.numbers.items c.args.self.now).cells in
    let l = length-cells g.N.NamesTurn.turn c.args.scratch.now.numbers.items c.args.self.now in
    let r = length-cells g.N.NamesTurn.turn c.args.scratch.now.numbers.items c.args.other.now in
    let left : to_z w64 (of_z w64 c.nth-left.result) ≡ c.nth-left.result = search rules in
    let right : to_z w64 (of_z w64 c.nth.result) ≡ c.nth.result = search rules in
    let inside : c.loop-i.i < length vs = omega (arith, own, l) in
    dot_err _ _ _ _ _ _ c.in-Err.kind (l ∙ sym own ∙ c.if-cells-height.false ∙ theirs ∙ sym r) inside (left ∙ c.nth-left.ensures.number) (right ∙ c.nth.ensures.number) (sym c.with_product.ensures ∙ c.in-Err.is) ∙ c.loop-i.invariant.dot

pub loop-i-preserved : goal.loop-i-preserved
loop-i-preserved g c =
    let own : c.height.result * c.width.result ≡ height_of c.args.self.now * width_of c.args.self.now = λ j. c.height.ensures j * c.width.ensures j in
    let theirs : c.height-2.result * c.width-2.result ≡ height_of c.args.other.now * width_of c.args.other.now = λ j. c.height-2.ensures j * c.width-2.ensures j in
    let vs = (grid_shown g.N.NamesTurn.turn c.args.scratch.now.numbers.items c.args.self.now).cells in
    let l = length-cells g.N.NamesTurn.turn c.args.scratch.now.numbers.items c.args.self.now in
    let r = length-cells g.N.NamesTurn.turn c.args.scratch.now.numbers.items c.args.other.now in
    let left : to_z w64 (of_z w64 c.nth-left.result) ≡ c.nth-left.result = search rules in
    let right : to_z w64 (of_z w64 c.nth.result) ≡ c.nth.result = search rules in
    let next : to_z w64 (of_z w64 c.in-Ok.next) ≡ c.in-Ok.next = search rules in
    let inside : c.loop-i.i < length vs = omega (arith, own, l) in
    record {
      dot = dot_ok _ _ _ _ _ _ _ _ (l ∙ sym own ∙ c.if-cells-height.false ∙ theirs ∙ sym r) inside (left ∙ c.nth-left.ensures.number) (right ∙ c.nth.ensures.number) next (sym c.with_product.ensures ∙ c.in-Ok.is) ∙ c.loop-i.invariant.dot;
      same_reference = c.nth.ensures.same_reference ∙ c.nth-left.ensures.same_reference ∙ c.loop-i.invariant.same_reference;
    }

pub returns-clause-dot : goal.returns-clause-dot
returns-clause-dot g c =
    let own : c.height.result * c.width.result ≡ height_of c.args.self.now * width_of c.args.self.now = λ j. c.height.ensures j * c.width.ensures j in
    let l = length-cells g.N.NamesTurn.turn c.args.scratch.now.numbers.items c.args.self.now in
    sym (dot_end _ _ c.loop-i.i _ (omega (arith, own, l))) ∙ c.loop-i.invariant.dot
