use Rattle.std.proofs.Common.{◌≡◌, ◌<◌, ◌∙◌, ap, Err, sym, refl, drop, rules, arith, to_z, of_z, w64, length}
use Rattle.pb_model.specs.Bodies.{products}
use Rattle.pb_statements.specs.Places.{grid_shown}
use Rattle.pb_statements.specs.declared.shown.Shown.TheVariants.{Told}
use Rattle.pb_statements.proofs.CellLemmas.{in_row, length_row}
use Rattle.pb_statements.proofs.ProductLemmas.{dot_end, dot_err, dot_ok, dot_other}
use Rattle.pb_statements.proofs.products.dot_rows.Goals as goal

pub returns-then-cells-right-clause-dot : goal.returns-then-cells-right-clause-dot
returns-then-cells-right-clause-dot g c =
    let l = length_row g.N.NamesTurn.turn c.args.scratch.now.numbers.items c.args.left.now c.requires.one_left in
    let r = length_row g.N.NamesTurn.turn c.args.scratch.now.numbers.items c.args.right.now c.requires.one_right in
    ap (λ k. Err k) c.of.ensures ∙ dot_other _ _ (λ e. c.if-cells-right.true (sym l ∙ e ∙ r))

pub loop-i-init : goal.loop-i-init
loop-i-init g c =
    let vs = (grid_shown g.N.NamesTurn.turn c.args.scratch.now.numbers.items (Told c.args.left.now)).cells in
    let ws = (grid_shown g.N.NamesTurn.turn c.args.scratch.now.numbers.items (Told c.args.right.now)).cells in
    let small = c.dot_small-from in
    let total : to_z w64 (of_z w64 small.result.1) ≡ small.result.1 = search rules in
    record {
      dot = ap (λ t. products t (drop small.result.0 vs) (drop small.result.0 ws)) total ∙ small.ensures.dot c.args.scratch.now.numbers.items;
      same_reference = refl;
    }

pub returns-in-Err-clause-dot : goal.returns-in-Err-clause-dot
returns-in-Err-clause-dot g c =
    let N = g.N.NamesTurn.turn in
    let numbers = c.args.scratch.now.numbers.items in
    let l = length_row N numbers c.args.left.now c.requires.one_left in
    let r = length_row N numbers c.args.right.now c.requires.one_right in
    let first : to_z w64 (of_z w64 c.number-first.result) ≡ c.number-first.result = search rules in
    let second : to_z w64 (of_z w64 c.number-second.result) ≡ c.number-second.result = search rules in
    let inside : c.loop-i.i < length (grid_shown N numbers (Told c.args.left.now)).cells = omega (arith, l) in
    let other : c.loop-i.i < c.args.right.now.shape.w = omega (arith, c.if-cells-right.false) in
    dot_err _ _ _ _ _ _ c.in-Err.kind (l ∙ c.if-cells-right.false ∙ sym r) inside
    (first ∙ in_row N numbers c.args.left.now c.requires.one_left _ _ _ (omega arith) c.place.ensures c.number-first.ensures.number)
    (second ∙ in_row N numbers c.args.right.now c.requires.one_right _ _ _ other c.place-in-loop-i.ensures c.number-second.ensures.number)
    (sym c.with_product.ensures ∙ c.in-Err.is) ∙ c.loop-i.invariant.dot

pub loop-i-preserved : goal.loop-i-preserved
loop-i-preserved g c =
    let N = g.N.NamesTurn.turn in
    let numbers = c.args.scratch.now.numbers.items in
    let l = length_row N numbers c.args.left.now c.requires.one_left in
    let r = length_row N numbers c.args.right.now c.requires.one_right in
    let first : to_z w64 (of_z w64 c.number-first.result) ≡ c.number-first.result = search rules in
    let second : to_z w64 (of_z w64 c.number-second.result) ≡ c.number-second.result = search rules in
    let next : to_z w64 (of_z w64 c.in-Ok.next) ≡ c.in-Ok.next = search rules in
    let inside : c.loop-i.i < length (grid_shown N numbers (Told c.args.left.now)).cells = omega (arith, l) in
    let other : c.loop-i.i < c.args.right.now.shape.w = omega (arith, c.if-cells-right.false) in
    record {
      dot = dot_ok _ _ _ _ _ _ _ _ (l ∙ c.if-cells-right.false ∙ sym r) inside
          (first ∙ in_row N numbers c.args.left.now c.requires.one_left _ _ _ (omega arith) c.place.ensures c.number-first.ensures.number)
          (second ∙ in_row N numbers c.args.right.now c.requires.one_right _ _ _ other c.place-in-loop-i.ensures c.number-second.ensures.number)
          next (sym c.with_product.ensures ∙ c.in-Ok.is) ∙ c.loop-i.invariant.dot;
      same_reference = c.number-second.ensures.same_reference ∙ c.number-first.ensures.same_reference ∙ c.loop-i.invariant.same_reference;
    }

pub returns-clause-dot : goal.returns-clause-dot
returns-clause-dot g c =
    let l = length_row g.N.NamesTurn.turn c.args.scratch.now.numbers.items c.args.left.now c.requires.one_left in
    sym (dot_end _ _ c.loop-i.i _ (omega (arith, l))) ∙ c.loop-i.invariant.dot
