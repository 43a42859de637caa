use Rattle.std.proofs.Common.{◌≡◌, ◌<◌, ◌+◌, ◌-◌, ◌∙◌, refl, ap, length, arith, rules}
use Rattle.pb_program.specs.declared.statement.Stmt.{If, the_lemmas}
use Rattle.pb_statements.specs.Codes.{steps_of}
use Rattle.pb_statements.proofs.TranslateLemmas.{all_next, all_none, else_of, let_of, set_of, then_of}
use Rattle.pb_statements.proofs.scene.Scene.+statement_translation.Goals as goal

pub put_statement-returns-in-Let-clause-code : goal.put_statement-returns-in-Let-clause-code
put_statement-returns-in-Let-clause-code g t c = λ is. let_of _ _ _ _ _ _ _ _ c.in-Let.is (c.put_assignment.ensures.code is)

pub put_statement-returns-in-Assign-clause-code : goal.put_statement-returns-in-Assign-clause-code
put_statement-returns-in-Assign-clause-code g t c = λ is. set_of _ _ _ _ _ _ _ c.in-Assign.is (c.put_assignment-in-Assign.ensures.code is)

pub put_statements-loop-left-init : goal.put_statements-loop-left-init
put_statements-loop-left-init g t c = record { inside = omega arith; code = all_none c.args.self.now c.args.room c.args.ss.now (length c.args.ss.now) (steps_of c.args.code.now) (omega arith); same_reference = refl }

pub put_statements-loop-left-preserved : goal.put_statements-loop-left-preserved
put_statements-loop-left-preserved g t c =
    let next : c.loop-left.left ≡ c.loop-left.left - 1 + 1 = omega (arith, c.loop-left-test.true) in
    let below : c.loop-left.left - 1 < length c.args.ss.now = omega (arith, c.loop-left-test.true, c.loop-left.invariant.inside) in
    record {
      inside = omega (arith, c.loop-left.invariant.inside);
      code = all_next _ _ _ _ _ c.index-ss-left.result _ _ _ next below c.index-ss-left.is (c.put_statement.ensures.code c.if-not-put_statement.false) c.loop-left.invariant.code;
      same_reference = c.put_statement.ensures.same_reference ∙ c.loop-left.invariant.same_reference;
    }

pub put_statement-put_statements-requires : goal.put_statement-put_statements-requires
put_statement-put_statements-requires g t c κs within = (search (rules, the_lemmas, c.in-If.is, c.in-Some.is, c.deref.ensures.value) depth 12, search rules)

pub put_statement-put_statements-requires-in-Some : goal.put_statement-put_statements-requires-in-Some
put_statement-put_statements-requires-in-Some g t c κs within = (search (rules, the_lemmas, c.in-If.is, c.deref-in-Some.ensures.value) depth 12, search rules)

pub put_statement-put_statements-requires-in-None : goal.put_statement-put_statements-requires-in-None
put_statement-put_statements-requires-in-None g t c κs within = (search (rules, the_lemmas, c.in-If.is, c.deref-in-None.ensures.value) depth 12, search rules)

pub put_statement-returns-else-not-put_statements-2-clause-code : goal.put_statement-returns-else-not-put_statements-2-clause-code
put_statement-returns-else-not-put_statements-2-clause-code g t c = λ is.
    let a = c.in-If in
    let here = a.is ∙ ap (If a.at a.test a.«then») c.in-Some.is in
    else_of _ _ _ _ _ a.«then» c.in-Some.otherwise _ _ c.len-other.result c.len-after.result _ _ _ _ _ here c.deref-in-Some.ensures.value c.deref.ensures.value c.len-after.ensures c.len-other.ensures
    (c.put_statements.ensures.code c.if-not-put_statements.false) (c.put.ensures c.if-not-put.false) (c.put_statements-in-Some.ensures.code c.if-not-put_statements-2.false) (c.put_test.ensures.code is)

pub put_statement-returns-else-not-put_statements-3-clause-code : goal.put_statement-returns-else-not-put_statements-3-clause-code
put_statement-returns-else-not-put_statements-3-clause-code g t c = λ is.
    let a = c.in-If in
    let here = a.is ∙ ap (If a.at a.test a.«then») c.in-None.is in
    then_of _ _ _ _ _ a.«then» _ c.len-after.result _ _ _ here c.deref-in-None.ensures.value c.len-after.ensures (c.put_statements-in-None.ensures.code c.if-not-put_statements-3.false) (c.put_test-in-None.ensures.code is)
