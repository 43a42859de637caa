-- What a writer of tokens has done so far.
use Rattle.std.specs.Prelude.{ℕ, Bool, true, false, map, List, [], ◌∷◌, ◌++◌, Option, Some}
use Rattle.pb_syntax.specs.declared.kind.TokenKind.{TokenKind}
use Rattle.pb_prog.specs.Canonical.{written_kind, written_bytes, space, line_end, depth_after}
use Rattle.pb_syntax.specs.declared.tree.expression.Operator.{Operator}
use Rattle.pb_syntax.specs.declared.tree.expression.ExprText.{ExprText}
use Rattle.pb_syntax.specs.declared.tree.statement.StmtText.{StmtText}
use Rattle.pb_syntax.specs.declared.tree.form.TermText.{TermText}
use Rattle.pb_syntax.specs.Exprs.{bare, exprs, operands}
use Rattle.pb_syntax.specs.Stmts.{bare_stmt, stmts}
use Rattle.pb_syntax.specs.Rules.{RuleValue}
use Rattle.pb_syntax.specs.Transforms.{TransformValue}
use Rattle.pb_syntax.specs.Trees.{bare_rule, bare_transform}
use Rattle.pb_prog.specs.Spelling.{Written, sign_at, comma, open_brace, close_brace, operator_sign, term_sign, in_order, after_commas, with_commas, next_term_tokens, sum_tokens, expr_tokens, arguments_tokens, operands_tokens, stmt_tokens, stmts_tokens, rule_tokens, transform_tokens}

-- the text, how many braces are open, and the last token
pub record WriterValue : Type 0 where
  pub text : List ℕ
  pub depth : ℕ
  pub last : Option TokenKind

-- a token of this kind with these bytes after the text
abbrev pub put_bytes : WriterValue → TokenKind → List ℕ → WriterValue
put_bytes w kind bytes = record {
  text = w.text ++ (space w.depth w.last kind ++ (bytes ++ line_end kind));
  depth = depth_after w.depth kind;
  last = Some kind;
}

-- a token after the text
unfoldable pub put : WriterValue → Written → WriterValue
put w t = put_bytes w (written_kind t) (written_bytes t)

-- tokens after the text
abbrev pub puts : WriterValue → List Written → WriterValue
puts w [] = w
puts w (t ∷ ts) = puts (put w t) ts

-- a comma, where an item isn't the first
abbrev pub comma_unless : Bool → List Written
comma_unless true = []
comma_unless false = comma ∷ []

-- items after others, or the first ones, with commas between them
abbrev pub commas_from : {A : Type 0} → Bool → (A → List Written) → List A → List Written
commas_from true tokens xs = with_commas tokens xs
commas_from false tokens xs = after_commas tokens xs

-- the sign of a term that isn't the first
abbrev pub sign_unless : Bool → Bool → List Written
sign_unless true minus = []
sign_unless false minus = sign_at (term_sign minus) ∷ []

abbrev pub terms_from : Bool → List TermText → List Written
terms_from true ts = sum_tokens ts
terms_from false ts = in_order next_term_tokens ts

-- the tokens of parts of a tree, as they are held
unfoldable pub expr_in : ExprText → List Written
expr_in e = expr_tokens (bare e)

unfoldable pub operand_in : (Operator × ExprText) → List Written
operand_in o = sign_at (operator_sign o.0) ∷ expr_in o.1

unfoldable pub stmt_in : StmtText → List Written
stmt_in s = stmt_tokens (bare_stmt s)

unfoldable pub rule_in : RuleValue → List Written
rule_in r = rule_tokens (bare_rule r)

unfoldable pub transform_in : TransformValue → List Written
transform_in t = transform_tokens (bare_transform t)

unfoldable pub args_in : List ExprText → List Written
args_in xs = arguments_tokens (exprs (map bare xs))

unfoldable pub operands_in : List (Operator × ExprText) → List Written
operands_in xs = operands_tokens (operands (map (λ o. (o.0, bare o.1)) xs))

unfoldable pub body_in : List StmtText → List Written
body_in ss = stmts_tokens (stmts (map bare_stmt ss))

-- statements in braces
abbrev pub block_in : List StmtText → List Written
block_in ss = open_brace ∷ (body_in ss ++ (close_brace ∷ []))
