use Rattle.std.proofs.Common.{◌∙◌, ap, sym, subst, List}
use Rattle.pb_program.specs.declared.expression.Expr.{Expr}
use Rattle.pb_syntax.specs.declared.tree.expression.Operator.{Operator}
use Rattle.pb_eval.specs.Terms.{AreSteps, IsTerm}
use Rattle.pb_statements.specs.Working.{value_in}
use Rattle.pb_statements.proofs.ExprLemmas.{chain_in}
use Rattle.pb_eval.proofs.TermLemmas.{alone, together}
use Rattle.pb_eval.proofs.terms.Terms.take_all.Goals as goal

pub returns-in_default : goal.returns-in_default
returns-in_default c = λ is. alone c.args.e.now c.begin.new.self c.begin.ensures.rest (c.begin.ensures.first is)

pub returns : goal.returns
returns c = λ is.
    together c.args.e.now c.in-Chain.first.value c.in-Chain.rest.items c.go_on.new.self (λ b st. ap (value_in b st) c.in-Chain.is ∙ chain_in b st c.in-Chain.level c.in-Chain.first c.in-Chain.rest)
    (subst (IsTerm c.in-Chain.first.value) (sym c.go_on.ensures.first) (subst (λ (x : Expr). IsTerm x c.begin-2.new.self.first) c.deref.ensures (c.begin-2.ensures.first c.if-not-begin.false))) (subst (λ (l : List (Operator × Expr)). AreSteps l c.go_on.new.self.rest) c.deref-2.ensures.value (c.go_on.ensures.rest is))
