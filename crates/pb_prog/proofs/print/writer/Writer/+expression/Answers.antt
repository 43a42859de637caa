use Rattle.std.proofs.Common.{◌≡◌, ◌∷◌, ◌++◌, map, ap, ◌∙◌, rules}
use Rattle.pb_syntax.specs.declared.tree.expression.ExprText.{Chain, Compare, the_lemmas}
use Rattle.pb_syntax.specs.Exprs.{bare, chain, compare, operands}
use Rattle.pb_prog.specs.Spelling.{sign_at, relation_sign, expr_tokens}
use Rattle.pb_prog.specs.Writing.{expr_in, operands_in}
use Rattle.pb_prog.proofs.WriterLemmas.{two_steps}
use Rattle.pb_prog.proofs.print.writer.Writer.+expression.Goals as goal

pub expression-returns-in_ok-expression-in-Chain : goal.expression-returns-in_ok-expression-in-Chain
unfolding expr_tokens expr_in operands_in
expression-returns-in_ok-expression-in-Chain t c =
    let a = c.in-Chain in
    let seen : bare (Chain a.level a.first a.rest) ≡ chain a.level (bare a.first.value) (operands (map (λ o. (o.0, bare o.1)) a.rest.items)) = search (rules, the_lemmas) in
    let parts : expr_in c.args.expression.now ≡ expr_in a.first.value ++ operands_in a.rest.items = ap expr_in a.is ∙ ap expr_tokens seen in
    two_steps c.operands.result c.args.self.now c.expression-in-Chain.new.self c.operands.new.self (expr_in a.first.value) (operands_in a.rest.items) (expr_in c.args.expression.now)
    parts (search rules) (search rules)

pub expression-returns-in_ok-expression-in-Compare : goal.expression-returns-in_ok-expression-in-Compare
unfolding expr_tokens expr_in
expression-returns-in_ok-expression-in-Compare t c =
    let a = c.in-Compare in
    let seen : bare (Compare a.left a.relation a.right) ≡ compare (bare a.left.value) a.relation (bare a.right.value) = search (rules, the_lemmas) in
    let second = sign_at (relation_sign a.relation) ∷ expr_in a.right.value in
    let parts : expr_in c.args.expression.now ≡ expr_in a.left.value ++ second = ap expr_in a.is ∙ ap expr_tokens seen in
    two_steps c.compared.result c.args.self.now c.expression-in-Compare.new.self c.compared.new.self (expr_in a.left.value) second (expr_in c.args.expression.now)
    parts (search rules) (search rules)
