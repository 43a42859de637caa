use Rattle.std.proofs.Common.{◌≡◌, ◌∙◌, ap, int_le, to_z, of_z, w64, arith}
use Rattle.std.proofs.lemmas.Bool.{leb-true}
use Rattle.std.proofs.lemmas.Int.{ints, to_z-of_z}
use Rattle.pb_grid.proofs.FormLemmas.{le_by_constants}
use Rattle.pb_grid.proofs.forms.is_at_most.Goals as goal

pub returns-then-are_parallel : goal.returns-then-are_parallel
returns-then-are_parallel c =
    let a = c.args.a.now in
    let b = c.args.b.now in
    let near_a = leb-true _ _ a.small_constant in
    let near_b = leb-true _ _ b.small_constant in
    let same_a : to_z w64 (of_z w64 a.constant) ≡ a.constant = to_z-of_z w64 a.constant (omega (arith, ints)) in
    let same_b : to_z w64 (of_z w64 b.constant) ≡ b.constant = to_z-of_z w64 b.constant (omega (arith, ints)) in
    ap (λ z. int_le z (to_z w64 (of_z w64 b.constant))) same_a ∙ ap (int_le a.constant) same_b ∙ le_by_constants c.args.ranges.now a b c.requires.ranges (c.are_parallel.ensures c.if-are_parallel.true)
