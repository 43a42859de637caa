use Rattle.std.proofs.Common.{◌≡◌, ◌<◌, ◌+◌, ◌-◌, ◌∙◌, refl, length, arith}
use Rattle.pb_statements.specs.Codes.{steps_of}
use Rattle.pb_statements.proofs.TranslateLemmas.{action_leaf, action_waits, call_of, called_of, chain_of, compare_of, inner_of, load_of, operands_next, operands_none}
use Rattle.pb_statements.proofs.scene.Scene.+translation.Goals as goal

pub put_action-returns-in-Some-clause-code : goal.put_action-returns-in-Some-clause-code
put_action-returns-in-Some-clause-code g t c = λ is. action_leaf _ _ _ _ c.in-Some.leaf _ _ c.in-Some.ensures.leaf (c.put_with.ensures is)

pub put_action-returns-clause-code : goal.put_action-returns-clause-code
put_action-returns-clause-code g t c = λ is. action_waits _ _ _ _ _ _ _ _ c.if-depth.false (c.put.ensures c.if-not-put.false) (c.put_value.ensures.code c.if-not-put_value.false) (c.put-2.ensures is)

pub put_call-returns-clause-code : goal.put_call-returns-clause-code
put_call-returns-clause-code g t c = λ is.
    call_of _ _ _ c.in-Some.action _ c.x-item.result c.y-item.result _ _ _ c.in-len2.len_at_least c.in-len2.len_below c.x-item.is c.y-item.is c.in-Some.ensures (c.put_action.ensures.code c.if-not-put_action.false) (c.put_value.ensures.code is)

pub put_operands-loop-left-init : goal.put_operands-loop-left-init
put_operands-loop-left-init g t c = record { inside = omega arith; code = operands_none c.args.self.now c.args.depth c.args.rest.now (length c.args.rest.now) (steps_of c.args.code.now) (omega arith); same_reference = refl }

pub put_operands-loop-left-preserved : goal.put_operands-loop-left-preserved
put_operands-loop-left-preserved g t c =
    let next : c.loop-left.left ≡ c.loop-left.left - 1 + 1 = omega (arith, c.loop-left-test.true) in
    let below : c.loop-left.left - 1 < length c.args.rest.now = omega (arith, c.loop-left-test.true, c.loop-left.invariant.inside) in
    record {
      inside = omega (arith, c.loop-left.invariant.inside);
      code = operands_next _ _ _ _ _ c.index-rest-left.result c.in-Some.action _ _ _ next below c.index-rest-left.is c.in-Some.ensures (c.put_action.ensures.code c.if-not-put_action.false) c.loop-left.invariant.code;
      same_reference = c.put_action.ensures.same_reference ∙ c.loop-left.invariant.same_reference;
    }

pub put_value-returns-in-Parentheses-clause-code : goal.put_value-returns-in-Parentheses-clause-code
put_value-returns-in-Parentheses-clause-code g t c = λ is. inner_of _ _ _ _ _ c.in-Parentheses.inner _ _ c.in-Parentheses.is c.deref.ensures (c.put_value.ensures.code is)

pub put_value-returns-else-not-put_operands-clause-code : goal.put_value-returns-else-not-put_operands-clause-code
put_value-returns-else-not-put_operands-clause-code g t c = λ is.
    chain_of _ _ _ _ _ c.in-Chain.first c.in-Chain.rest _ _ _ _ c.in-Chain.is c.deref-in-Chain-2.ensures c.deref-in-Chain.ensures.value (c.put_operands.ensures.code c.if-not-put_operands.false) (c.put_value-in-Chain.ensures.code is)

pub put_value-returns-else-not-put_action-clause-code : goal.put_value-returns-else-not-put_action-clause-code
put_value-returns-else-not-put_action-clause-code g t c = λ is.
    compare_of _ _ _ _ _ c.in-Compare.left _ c.in-Compare.right _ _ _ _ c.in-Compare.is c.deref-in-Compare-2.ensures c.deref-in-Compare.ensures c.relation_action.ensures (c.put_action.ensures.code c.if-not-put_action.false) (c.put_value-in-Compare.ensures.code is)

pub put_value-returns-in-Call-clause-code : goal.put_value-returns-in-Call-clause-code
put_value-returns-in-Call-clause-code g t c = λ is. called_of _ _ _ c.in-Call.called c.in-Call.arguments _ _ _ c.in-Call.is c.deref-in-Call.ensures.value (c.put_call.ensures.code is)

pub put_value-returns-in-Some : goal.put_value-returns-in-Some
put_value-returns-in-Some g t c = record { code = λ is. load_of _ _ _ c.in-Some.leaf _ _ c.in-Some.ensures.leaf (c.put_load.ensures is); same_reference = c.leaf_of.ensures.same_reference }
