use Rattle.std.proofs.Common.{rules, ◌≡◌, ◌++◌, ap, ◌∙◌, sym, subst, IfErr}
use Rattle.pb_program.specs.Exprs.{bare}
use Rattle.pb_program.specs.Exprs as to
use Rattle.pb_names.specs.Faults.{Fails}
use Rattle.pb_resolve.specs.Working.{expr_in, faults_in, operand_in, operands_in, operands_faults_in}
use Rattle.pb_resolve.proofs.FaultLemmas.{fails_right, built_next}
use Rattle.pb_resolve.proofs.ListLemmas.{chain_in, chain_faults_in, operand_fails, operand_passes, operands_faultless}
use Rattle.pb_resolve.proofs.scope.Scope.+expression.Goals as goal

pub expression-returns-in_err-rest-in-Chain-clause-refused : goal.expression-returns-in_err-rest-in-Chain-clause-refused
expression-returns-in_err-rest-in-Chain-clause-refused t c =
    let a = c.in-Chain in
    let parts : faults_in c.args.self.now c.args.e.now ≡ faults_in c.args.self.now a.first.value ++ operands_faults_in c.args.self.now a.rest.items
    = ap (faults_in c.args.self.now) a.is ∙ chain_faults_in c.args.self.now a.level a.first a.rest in
    subst (λ xs. IfErr c.from_residual-in_err-rest-in-Chain.result (λ f. Fails f xs)) (sym parts) (search (rules, fails_right))

pub expression-returns-in_ok-chain-in-Chain-clause-found : goal.expression-returns-in_ok-chain-in-Chain-clause-found
expression-returns-in_ok-chain-in-Chain-clause-found t c =
    let a = c.in-Chain in
    let parts : expr_in c.args.self.now c.args.e.now ≡ to.chain a.level (expr_in c.args.self.now a.first.value) (operands_in c.args.self.now a.rest.items)
    = ap (expr_in c.args.self.now) a.is ∙ chain_in c.args.self.now a.level a.first a.rest in
    cc (c.in_ok-chain-in-Chain.ensures, c.in_ok-first-in-Chain.ensures.found, c.in_ok-rest-in-Chain.ensures.found)

pub operands-loop-next-preserved : goal.operands-loop-next-preserved
unfolding operand_in
operands-loop-next-preserved t c =
    let v = c.args.self.now in
    let xs = c.args.rest.now in
    let same : (c.next-item.result.0, bare c.in_ok-expression.field-0) ≡ operand_in v c.next-item.result = ap (λ x. (c.next-item.result.0, x)) c.in_ok-expression.ensures.found in (
      built_next (λ o. (o.0, bare o.1)) (operand_in v) c.loop-next.found.items c.push.new.self.items (c.next-item.result.0, c.in_ok-expression.field-0) xs c.loop-next.next-index c.next-item.result
          c.loop-next.invariant.0 same c.in_ok-push.ensures.items c.loop-next-test.true c.next-item.is,
      operand_passes v xs c.loop-next.next-index c.next-item.result c.loop-next.invariant.1 c.in_ok-expression.ensures.faultless c.loop-next-test.true c.next-item.is,
    )

pub operands-returns-in_err-expression-clause-refused : goal.operands-returns-in_err-expression-clause-refused
operands-returns-in_err-expression-clause-refused t c =
    let v = c.args.self.now in
    let xs = c.args.rest.now in
    let h = operand_fails v xs c.loop-next.next-index c.next-item.result c.in_err-expression.field-0.0 c.loop-next.invariant.1 c.in_err-expression.ensures.refused c.loop-next-test.true c.next-item.is in search (rules, h)

pub operands-returns-clause-faultless : goal.operands-returns-clause-faultless
operands-returns-clause-faultless t c = operands_faultless c.args.self.now c.args.rest.now c.loop-next.next-index c.loop-next.invariant.1 c.loop-next-test.false
