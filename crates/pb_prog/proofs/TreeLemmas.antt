-- The tokens of lists of trees, as they are held.
use Rattle.std.proofs.Common.{◌≡◌, ℕ, ◌+◌, ◌<◌, List, [], ◌∷◌, ◌++◌, length, get_or, drop, map, refl, ap, arith}
use Rattle.pb_syntax.specs.declared.tree.expression.Operator.{Operator}
use Rattle.pb_syntax.specs.declared.tree.expression.Operator.TheVariants as operator
use Rattle.pb_syntax.specs.declared.tree.expression.UnarySign.{UnarySign}
use Rattle.pb_syntax.specs.declared.tree.expression.UnarySign.TheVariants as sign
use Rattle.pb_syntax.specs.declared.tree.expression.ExprText.{ExprText}
use Rattle.pb_syntax.specs.declared.tree.statement.StmtText.{StmtText}
use Rattle.pb_syntax.specs.Exprs.{bare, exprs}
use Rattle.pb_syntax.specs.Stmts.{bare_stmt}
use Rattle.pb_syntax.specs.Rules.{RuleValue}
use Rattle.pb_syntax.specs.Transforms.{TransformValue}
use Rattle.pb_syntax.specs.Trees.{bare_rule, bare_transform}
use Rattle.pb_prog.specs.Spelling.{sign_at, comma, operator_sign, unary_sign, in_order, after_commas, with_commas, expr_tokens, more_arguments_tokens, stmt_tokens, rule_tokens, transform_tokens}
use Rattle.pb_prog.specs.Writing.{WriterValue, put, puts, expr_in, operand_in, stmt_in, rule_in, transform_in, args_in, operands_in, body_in}
use Rattle.pb_prog.proofs.WriterLemmas.{order_more}

pub operator_listed : (o : Operator) → operator_sign o < 25
operator_listed operator.Times = omega arith
operator_listed operator.Over = omega arith
operator_listed operator.Modulo = omega arith
operator_listed operator.Plus = omega arith
operator_listed operator.Minus = omega arith
operator_listed operator.And = omega arith
operator_listed operator.Or = omega arith

pub unary_listed : (s : UnarySign) → unary_sign s < 25
unary_listed sign.Minus = omega arith
unary_listed sign.Not = omega arith

more_arguments_listed : (xs : List ExprText) → more_arguments_tokens (exprs (map bare xs)) ≡ after_commas expr_in xs
unfolding expr_tokens expr_in
more_arguments_listed [] = refl
more_arguments_listed (x ∷ xs) = ap (λ ts. comma ∷ (expr_in x ++ ts)) (more_arguments_listed xs)

pub arguments_listed : (xs : List ExprText) → args_in xs ≡ with_commas expr_in xs
unfolding expr_tokens expr_in args_in
arguments_listed [] = refl
arguments_listed (x ∷ xs) = ap (λ ts. expr_in x ++ ts) (more_arguments_listed xs)

pub operands_listed : (xs : List (Operator × ExprText)) → operands_in xs ≡ in_order operand_in xs
unfolding expr_tokens expr_in operand_in operands_in
operands_listed [] = refl
operands_listed (x ∷ xs) = ap (λ ts. operand_in x ++ ts) (operands_listed xs)

pub stmts_listed : (xs : List StmtText) → body_in xs ≡ in_order stmt_in xs
unfolding stmt_tokens stmt_in body_in
stmts_listed [] = refl
stmts_listed (x ∷ xs) = ap (λ ts. stmt_in x ++ ts) (stmts_listed xs)

pub body_listed : (xs : List StmtText) → in_order stmt_tokens (map bare_stmt xs) ≡ body_in xs
unfolding body_in stmt_tokens
body_listed [] = refl
body_listed (x ∷ xs) = ap (λ ts. stmt_tokens (bare_stmt x) ++ ts) (body_listed xs)

pub rules_listed : (xs : List RuleValue) → in_order rule_tokens (map bare_rule xs) ≡ in_order rule_in xs
unfolding rule_in
rules_listed [] = refl
rules_listed (x ∷ xs) = ap (λ ts. rule_in x ++ ts) (rules_listed xs)

pub transforms_listed : (xs : List TransformValue) → in_order transform_tokens (map bare_transform xs) ≡ in_order transform_in xs
unfolding transform_in
transforms_listed [] = refl
transforms_listed (x ∷ xs) = ap (λ ts. transform_in x ++ ts) (transforms_listed xs)

pub operand_more : (w v : WriterValue) (xs : List (Operator × ExprText)) (i : ℕ) (x : Operator × ExprText)
    → v ≡ puts (put w (sign_at (operator_sign x.0))) (expr_in x.1) → i < length xs → x ≡ get_or xs i x
    → puts v (in_order operand_in (drop (i + 1) xs)) ≡ puts w (in_order operand_in (drop i xs))
unfolding operand_in
operand_more w v xs i x done within here = order_more operand_in w v xs i x done within here
