use Rattle.std.proofs.Common.{◌≡◌, ◌*◌, ◌+◌, ◌<◌, ◌≤◌, ◌^◌, ◌∙◌, List, ℤ, length, refl, rules, sym, arith, to_z, of_z, w64}
use Rattle.pb_statements.specs.Places.{grid_shown}
use Rattle.pb_statements.specs.declared.shown.Shown.TheVariants.{Told}
use Rattle.pb_statements.proofs.CellLemmas.{in_row, length_row}
use Rattle.pb_statements.proofs.ProductLemmas.{dot_start, dot_two}
use Rattle.pb_statements.proofs.products.dot_small.Goals as goal

pub loop-pair-init : goal.loop-pair-init
loop-pair-init g c = record {
  dot = λ numbers.
      let l = length_row g.N.NamesTurn.turn numbers c.args.left.now c.requires.one_left in
      let r = length_row g.N.NamesTurn.turn numbers c.args.right.now c.requires.one_right in
      dot_start _ _ (l ∙ c.requires.same ∙ sym r);
  small = omega arith;
  same_reference = refl;
}

pub loop-pair-preserved : goal.loop-pair-preserved
loop-pair-preserved g c =
    let N = g.N.NamesTurn.turn in
    let i = c.loop-pair.pair * 2 in
    let left = c.args.left.now in
    let right = c.args.right.now in
    let small = c.if-not-are_small.ensures in
    let a : to_z w64 (of_z w64 c.number-a.result) ≡ c.number-a.result = search rules in
    let b : to_z w64 (of_z w64 c.number-b.result) ≡ c.number-b.result = search rules in
    let third : to_z w64 (of_z w64 c.number-c.result) ≡ c.number-c.result = search rules in
    let d : to_z w64 (of_z w64 c.number-d.result) ≡ c.number-d.result = search rules in
    let total : to_z w64 (of_z w64 c.plus_small_products-total.result) ≡ c.plus_small_products-total.result = search rules in
    let next : (c.loop-pair.pair + 1) * 2 ≡ i + 1 + 1 = omega arith in
    let room : c.loop-pair.pair * 2 ^ 41 + 2 ^ 41 < 2 ^ 63 = omega (arith, c.requires.left.wide) in
    record {
      dot = λ (numbers : List ℤ).
          let l = length_row N numbers left c.requires.one_left in
          let r = length_row N numbers right c.requires.one_right in
          let inside : (c.loop-pair.pair + 1) * 2 ≤ length (grid_shown N numbers (Told left)).cells = omega (arith, l) in
          dot_two _ _ i ((c.loop-pair.pair + 1) * 2) _ _ _ _ _ _ (c.loop-pair.pair * 2 ^ 41) (l ∙ c.requires.same ∙ sym r) next inside
          (a ∙ in_row N numbers left c.requires.one_left i _ _ (omega arith) c.place.ensures c.number-a.ensures.number)
          (b ∙ in_row N numbers right c.requires.one_right i _ _ (omega (arith, c.requires.same)) c.place-in-loop-pair.ensures c.number-b.ensures.number)
          (third ∙ in_row N numbers left c.requires.one_left (i + 1) _ _ (omega arith) c.place-in-loop-pair-2.ensures c.number-c.ensures.number)
          (d ∙ in_row N numbers right c.requires.one_right (i + 1) _ _ (omega (arith, c.requires.same)) c.place-in-loop-pair-3.ensures c.number-d.ensures.number)
          c.loop-pair.invariant.small room (small.a refl) (small.b refl) (small.c refl) (small.d refl) (total ∙ c.plus_small_products-total.ensures.sum)
          ∙ c.loop-pair.invariant.dot numbers;
      small = rw total (omega (arith, c.plus_small_products-total.ensures.small, c.loop-pair.invariant.small));
      same_reference = c.number-d.ensures.same_reference ∙ c.number-c.ensures.same_reference ∙ c.number-b.ensures.same_reference ∙ c.number-a.ensures.same_reference ∙ c.loop-pair.invariant.same_reference;
    }
