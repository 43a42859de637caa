use Rattle.std.proofs.Common.{◌≡◌, ◌<◌, ◌≤◌, length, ◌∙◌, sym, ap, rules, arith, to_z, of_z, w64, None}
use Rattle.std.proofs.lemmas.Result.{err_from_is_err_and}
use Rattle.pb_numbers.specs.Deciding.{decided}
use Rattle.pb_statements.proofs.ArgumentLemmas.{cell_found, operand_open, pair_both, pair_first, pair_second}
use Rattle.pb_statements.proofs.ExprLemmas.{operated_same, values_end, values_err, values_ok, values_same}
use Rattle.pb_statements.proofs.scene.Scene.+expression.Goals as goal

pub operand-returns-in-Some-leaf-clause-value : goal.operand-returns-in-Some-leaf-clause-value
operand-returns-in-Some-leaf-clause-value g t c =
    let left : to_z w64 (of_z w64 c.args.left) ≡ c.args.left = search rules in
    let right : to_z w64 (of_z w64 c.in-Some-leaf.right) ≡ c.in-Some-leaf.right = search rules in
    let none : decided c.args.operator c.args.left ≡ None = ap (decided c.args.operator) (sym left) ∙ sym c.decided.ensures ∙ c.in_default.is in
    operated_same _ _ _ _ _ _ _ _ _ left right c.operate.ensures c.in-Some-leaf.ensures.value (operand_open _ _ c.args.operator c.args.left c.args.e.now none)

pub operand-returns-clause-value : goal.operand-returns-clause-value
operand-returns-clause-value g t c =
    let left : to_z w64 (of_z w64 c.args.left) ≡ c.args.left = search rules in
    let right : to_z w64 (of_z w64 c.in_ok-value.field-0) ≡ c.in_ok-value.field-0 = search rules in
    let none : decided c.args.operator c.args.left ≡ None = ap (decided c.args.operator) (sym left) ∙ sym c.decided.ensures ∙ c.in_default.is in
    operated_same _ _ _ _ _ _ _ _ _ left right c.operate-2.ensures (sym c.value.ensures.value ∙ c.in_ok-value.was) (operand_open _ _ c.args.operator c.args.left c.args.e.now none)

pub pair-returns-in_err-i-in-len2-clause-value : goal.pair-returns-in_err-i-in-len2-clause-value
pair-returns-in_err-i-in-len2-clause-value g t c =
    let p = err_from_is_err_and c.from_residual.result c.from_residual.ensures.1 in
    rw (p.1, p.2) (pair_first _ _ _ _ _ _ c.in-len2.len_at_least c.in-len2.len_below c.x-item.is c.y-item.is (sym c.value.ensures.value ∙ c.in_err-i-in-len2.was))

pub pair-returns-in_err-j-in-len2-clause-value : goal.pair-returns-in_err-j-in-len2-clause-value
pair-returns-in_err-j-in-len2-clause-value g t c =
    let p = err_from_is_err_and c.from_residual-in_err-j-in-len2.result c.from_residual-in_err-j-in-len2.ensures.1 in
    rw (p.1, p.2) (pair_second _ _ _ _ _ _ _ c.in-len2.len_at_least c.in-len2.len_below c.x-item.is c.y-item.is (sym c.value.ensures.value ∙ c.in_ok-i-in-len2.was) (sym c.value-in-len2.ensures.value ∙ c.in_err-j-in-len2.was))

pub pair-returns-in_ok-j-in-len2-clause-value : goal.pair-returns-in_ok-j-in-len2-clause-value
pair-returns-in_ok-j-in-len2-clause-value g t c =
    let i : to_z w64 (of_z w64 c.in_ok-i-in-len2.i) ≡ c.in_ok-i-in-len2.i = search rules in
    let j : to_z w64 (of_z w64 c.in_ok-j-in-len2.j) ≡ c.in_ok-j-in-len2.j = search rules in
    pair_both _ _ _ _ _ _ _ _ _ c.in-len2.len_at_least c.in-len2.len_below c.x-item.is c.y-item.is (sym c.value.ensures.value ∙ c.in_ok-i-in-len2.was) (sym c.value-in-len2.ensures.value ∙ c.in_ok-j-in-len2.was) i j

pub cell_of-returns-clause-value : goal.cell_of-returns-clause-value
cell_of-returns-clause-value g t c =
    let i : to_z w64 (of_z w64 c.in_ok-i.i) ≡ c.in_ok-i.i = search rules in
    let j : to_z w64 (of_z w64 c.in_ok-i.j) ≡ c.in_ok-i.j = search rules in
    cell_found _ _ _ _ _ _ _ _ _ (sym c.place.ensures.value ∙ c.in_ok-i.was) i j c.cell.ensures.number

pub values-returns-in-Err-clause-value : goal.values-returns-in-Err-clause-value
values-returns-in-Err-clause-value g t c =
    let first : to_z w64 (of_z w64 c.args.first) ≡ c.args.first = search rules in
    let inside : c.loop-next.next-index < length c.args.rest.now = omega arith in
    values_same _ _ _ _ _ _ first (values_err _ _ _ _ _ _ _ inside c.next-item.is (sym c.operand.ensures.value ∙ c.in-Err.is) ∙ c.loop-next.invariant.value)

pub values-loop-next-preserved : goal.values-loop-next-preserved
values-loop-next-preserved g t c =
    let next : to_z w64 (of_z w64 c.in-Ok.value) ≡ c.in-Ok.value = search rules in
    let inside : c.loop-next.next-index < length c.args.rest.now = omega arith in
    record {
      value = values_ok _ _ _ _ _ _ _ _ inside c.next-item.is next (sym c.operand.ensures.value ∙ c.in-Ok.is) ∙ c.loop-next.invariant.value;
      same_reference = c.operand.ensures.same_reference ∙ c.loop-next.invariant.same_reference;
    }

pub values-returns-clause-value : goal.values-returns-clause-value
values-returns-clause-value g t c =
    let first : to_z w64 (of_z w64 c.args.first) ≡ c.args.first = search rules in
    let past : length c.args.rest.now ≤ c.loop-next.next-index = omega arith in
    values_same _ _ _ _ _ _ first (sym (values_end _ _ _ _ _ past) ∙ c.loop-next.invariant.value)
