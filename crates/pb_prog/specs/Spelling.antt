-- The tokens of a tree, in the order of the grammar.
use Rattle.std.specs.Prelude.{ℕ, Bool, true, false, ◌==◌, List, [], ◌∷◌, ◌++◌, Option, Some, None, codes, if◌then◌else◌}
use Rattle.pb_values.specs.Name.{NameValue}
use Rattle.pb_syntax.specs.declared.tree.expression.Operator.{Operator}
use Rattle.pb_syntax.specs.declared.tree.expression.Operator.TheVariants as operator
use Rattle.pb_syntax.specs.declared.tree.expression.Relation.{Relation}
use Rattle.pb_syntax.specs.declared.tree.expression.Relation.TheVariants as relation
use Rattle.pb_syntax.specs.declared.tree.expression.UnarySign.{UnarySign}
use Rattle.pb_syntax.specs.declared.tree.expression.UnarySign.TheVariants as sign
use Rattle.pb_syntax.specs.declared.tree.form.TermText.{TermText}
use Rattle.pb_syntax.specs.declared.tree.view.ViewText.{ViewText}
use Rattle.pb_syntax.specs.declared.tree.view.ViewText.TheVariants as view
use Rattle.pb_syntax.specs.declared.tree.view.UseText.{UseText}
use Rattle.pb_syntax.specs.declared.tree.view.CondText.{CondText}
use Rattle.pb_syntax.specs.declared.tree.view.MarkText.{MarkText}
use Rattle.pb_syntax.specs.declared.tree.view.MarkText.TheVariants as mark
use Rattle.pb_syntax.specs.Forms.{FormValue, DeclValue}
use Rattle.pb_syntax.specs.Exprs.{ExprTree, ExprTrees, Operands, number, name, call, parentheses, cell, width, height, signed, chain, compare, no_exprs, an_expr, no_operands, an_operand, exprs}
use Rattle.pb_syntax.specs.Stmts.{StmtTree, StmtTrees, let_number, let_matrix, assign, call_stmt, assign_cell, if_stmt, if_else, for_stmt, no_stmts, a_stmt}
use Rattle.pb_syntax.specs.Trees.{RuleTree, TransformTree}

-- a token as it is written: a name or keyword by its bytes, a number, or a sign by its place in the list of signs
pub data Written : Type 0 where
  word : List ℕ → Written
  numeral : ℕ → Written
  sign_at : ℕ → Written

-- the signs
abbrev pub opening : Written
opening = sign_at 0

abbrev pub closing : Written
closing = sign_at 1

abbrev pub open_brace : Written
open_brace = sign_at 2

abbrev pub close_brace : Written
close_brace = sign_at 3

abbrev pub open_bracket : Written
open_bracket = sign_at 4

abbrev pub close_bracket : Written
close_bracket = sign_at 5

abbrev pub comma : Written
comma = sign_at 6

abbrev pub semicolon : Written
semicolon = sign_at 7

abbrev pub dot : Written
dot = sign_at 8

abbrev pub dots : Written
dots = sign_at 9

abbrev pub equals : Written
equals = sign_at 10

-- `<` `<=` `>` `>=` `==` `!=`
abbrev pub relation_sign : Relation → ℕ
relation_sign relation.Equal = 11
relation_sign relation.Unequal = 12
relation_sign relation.Less = 13
relation_sign relation.LessOrEqual = 14
relation_sign relation.Greater = 15
relation_sign relation.GreaterOrEqual = 16

-- `*` `/` `%` `+` `-` `&&` `||`
abbrev pub operator_sign : Operator → ℕ
operator_sign operator.Plus = 17
operator_sign operator.Minus = 18
operator_sign operator.Times = 19
operator_sign operator.Over = 20
operator_sign operator.Modulo = 21
operator_sign operator.And = 22
operator_sign operator.Or = 23

-- `-` `!`
abbrev pub unary_sign : UnarySign → ℕ
unary_sign sign.Minus = 18
unary_sign sign.Not = 24

-- `+` or `-`
abbrev pub term_sign : Bool → ℕ
term_sign false = 17
term_sign true = 18

-- the tokens of several items, with `,` before each
abbrev pub after_commas : {A : Type 0} → (A → List Written) → List A → List Written
after_commas tokens [] = []
after_commas tokens (x ∷ xs) = comma ∷ (tokens x ++ after_commas tokens xs)

-- the tokens of several items, with `,` between them
abbrev pub with_commas : {A : Type 0} → (A → List Written) → List A → List Written
with_commas tokens [] = []
with_commas tokens (x ∷ xs) = tokens x ++ after_commas tokens xs

-- the same after a keyword, where there is an item
abbrev pub after_keyword : {A : Type 0} → List ℕ → (A → List Written) → List A → List Written
after_keyword keyword tokens [] = []
after_keyword keyword tokens (x ∷ xs) = word keyword ∷ with_commas tokens (x ∷ xs)

-- the tokens of several items, one after the other
abbrev pub in_order : {A : Type 0} → (A → List Written) → List A → List Written
in_order tokens [] = []
in_order tokens (x ∷ xs) = tokens x ++ in_order tokens xs

abbrev pub name_tokens : NameValue → List Written
name_tokens n = word n.bytes ∷ []

-- NAME ">=" NUMBER
unfoldable pub minimum_tokens : (NameValue × ℕ) → List Written
minimum_tokens m = word m.0.bytes ∷ sign_at 16 ∷ numeral m.1 ∷ []

-- [ "where" minimum { "," minimum } ]
abbrev pub minimums_tokens : List (NameValue × ℕ) → List Written
minimums_tokens ms = after_keyword (codes "where") minimum_tokens ms

-- a factor other than 1, and `*`
unfoldable pub factor_tokens : ℕ → List Written
factor_tokens n = if n == 1 then [] else (numeral n ∷ sign_at 19 ∷ [])

-- `/` and a quotient other than 0
unfoldable pub quotient_tokens : ℕ → List Written
quotient_tokens n = if n == 0 then [] else (sign_at 20 ∷ numeral n ∷ [])

-- NUMBER, or a name with its factor and its quotient
abbrev pub term_tokens_at : ℕ → Option NameValue → ℕ → List Written
term_tokens_at factor None quotient = numeral factor ∷ []
term_tokens_at factor (Some n) quotient = factor_tokens factor ++ (word n.bytes ∷ quotient_tokens quotient)

unfoldable pub term_tokens : TermText → List Written
term_tokens t = term_tokens_at t.factor t.name t.quotient

-- ( "+" | "-" ) term
unfoldable pub next_term_tokens : TermText → List Written
next_term_tokens t = sign_at (term_sign t.minus) ∷ term_tokens t

-- term { ( "+" | "-" ) term }
unfoldable pub sum_tokens : List TermText → List Written
sum_tokens [] = []
sum_tokens (t ∷ ts) = term_tokens t ++ in_order next_term_tokens ts

abbrev pub form_tokens_at : Bool → List TermText → List Written
form_tokens_at true ts = sign_at 18 ∷ sum_tokens ts
form_tokens_at false ts = sum_tokens ts

-- [ "-" ] term { ( "+" | "-" ) term }
unfoldable pub form_tokens : FormValue → List Written
form_tokens f = form_tokens_at f.minus f.terms

-- NAME "[" form [ "," form ] "]"
unfoldable pub decl_tokens : DeclValue → List Written
decl_tokens d = word d.name.bytes ∷ open_bracket ∷ (with_commas form_tokens d.dims ++ (close_bracket ∷ []))

-- [ "through" decls ]
abbrev pub through_tokens : List DeclValue → List Written
through_tokens ds = after_keyword (codes "through") decl_tokens ds

-- "." "cell" "(" form [ "," form ] ")" and the like, or nothing
unfoldable pub view_tokens : ViewText → List Written
view_tokens view.Whole = []
view_tokens (view.Cell x None) = dot ∷ word (codes "cell") ∷ opening ∷ (form_tokens x ++ (closing ∷ []))
view_tokens (view.Cell x (Some y)) = dot ∷ word (codes "cell") ∷ opening ∷ (form_tokens x ++ (comma ∷ (form_tokens y ++ (closing ∷ []))))
view_tokens (view.Row y) = dot ∷ word (codes "row") ∷ opening ∷ (form_tokens y ++ (closing ∷ []))
view_tokens (view.Column x) = dot ∷ word (codes "column") ∷ opening ∷ (form_tokens x ++ (closing ∷ []))
view_tokens (view.Between a b) = dot ∷ word (codes "region") ∷ opening ∷ (form_tokens a ++ (comma ∷ (form_tokens b ++ (closing ∷ []))))
view_tokens (view.Region a b c d) =
    dot ∷ word (codes "region") ∷ opening ∷ (form_tokens a ++ (comma ∷ (form_tokens b ++ (comma ∷ (form_tokens c ++ (comma ∷ (form_tokens d ++ (closing ∷ []))))))))

-- NAME [ "." view ] NAME
unfoldable pub use_tokens : UseText → List Written
use_tokens u = word u.matrix.bytes ∷ (view_tokens u.view ++ (word u.bound.bytes ∷ []))

-- form relation form
unfoldable pub cond_tokens : CondText → List Written
cond_tokens c = form_tokens c.left ++ (sign_at (relation_sign c.relation) ∷ form_tokens c.right)

-- [ "where" cond { "," cond } ]
abbrev pub conds_tokens : List CondText → List Written
conds_tokens cs = after_keyword (codes "where") cond_tokens cs

-- "primary" | "secondary" | "priority" "(" NUMBER ")", or nothing
unfoldable pub mark_tokens : MarkText → List Written
mark_tokens mark.Unmarked = []
mark_tokens mark.Primary = word (codes "primary") ∷ []
mark_tokens mark.Secondary = word (codes "secondary") ∷ []
mark_tokens (mark.Priority n) = word (codes "priority") ∷ opening ∷ numeral n ∷ closing ∷ []

unfoldable mutual
  pub expr_tokens : ExprTree → List Written
  expr_tokens (number at n) = numeral n ∷ []
  expr_tokens (name n) = word n.bytes ∷ []
  expr_tokens (call n xs) = word n.bytes ∷ opening ∷ (arguments_tokens xs ++ (closing ∷ []))
  expr_tokens (parentheses at x) = opening ∷ (expr_tokens x ++ (closing ∷ []))
  expr_tokens (cell n xs) = word n.bytes ∷ dot ∷ word (codes "cell") ∷ opening ∷ (arguments_tokens xs ++ (closing ∷ []))
  expr_tokens (width n) = word n.bytes ∷ dot ∷ word (codes "width") ∷ opening ∷ closing ∷ []
  expr_tokens (height n) = word n.bytes ∷ dot ∷ word (codes "height") ∷ opening ∷ closing ∷ []
  expr_tokens (signed at s x) = sign_at (unary_sign s) ∷ expr_tokens x
  expr_tokens (chain l x xs) = expr_tokens x ++ operands_tokens xs
  expr_tokens (compare x r y) = expr_tokens x ++ (sign_at (relation_sign r) ∷ expr_tokens y)

  -- { operator operand }
  pub operands_tokens : Operands → List Written
  operands_tokens no_operands = []
  operands_tokens (an_operand o x xs) = sign_at (operator_sign o) ∷ (expr_tokens x ++ operands_tokens xs)

  -- [ expr { "," expr } ]
  pub arguments_tokens : ExprTrees → List Written
  arguments_tokens no_exprs = []
  arguments_tokens (an_expr x xs) = expr_tokens x ++ more_arguments_tokens xs

  -- { "," expr }
  pub more_arguments_tokens : ExprTrees → List Written
  more_arguments_tokens no_exprs = []
  more_arguments_tokens (an_expr x xs) = comma ∷ (expr_tokens x ++ more_arguments_tokens xs)

unfoldable mutual
  pub stmt_tokens : StmtTree → List Written
  stmt_tokens (let_number at n x) = word (codes "let") ∷ word n.bytes ∷ equals ∷ (expr_tokens x ++ (semicolon ∷ []))
  stmt_tokens (let_matrix at n ds) = word (codes "let") ∷ word n.bytes ∷ open_bracket ∷ (with_commas form_tokens ds ++ (close_bracket ∷ semicolon ∷ []))
  stmt_tokens (assign n x) = word n.bytes ∷ equals ∷ (expr_tokens x ++ (semicolon ∷ []))
  stmt_tokens (call_stmt ns f xs) =
      with_commas name_tokens ns ++ (equals ∷ word f.bytes ∷ opening ∷ (arguments_tokens (exprs xs) ++ (closing ∷ semicolon ∷ [])))
  stmt_tokens (assign_cell n xs x) =
      word n.bytes ∷ dot ∷ word (codes "cell") ∷ opening ∷ (arguments_tokens (exprs xs) ++ (closing ∷ equals ∷ (expr_tokens x ++ (semicolon ∷ []))))
  stmt_tokens (if_stmt at x ss) = word (codes "if") ∷ opening ∷ (expr_tokens x ++ (closing ∷ open_brace ∷ (stmts_tokens ss ++ (close_brace ∷ []))))
  stmt_tokens (if_else at x ss others) =
      word (codes "if") ∷ opening ∷ (expr_tokens x ++ (closing ∷ open_brace ∷ (stmts_tokens ss ++ (close_brace ∷ word (codes "else") ∷ open_brace ∷ (stmts_tokens others ++ (close_brace ∷ []))))))
  stmt_tokens (for_stmt at n a b ss) =
      word (codes "for") ∷ opening ∷ word n.bytes ∷ equals ∷ (expr_tokens a ++ (dots ∷ (expr_tokens b ++ (closing ∷ open_brace ∷ (stmts_tokens ss ++ (close_brace ∷ []))))))

  -- { stmt }
  pub stmts_tokens : StmtTrees → List Written
  stmts_tokens no_stmts = []
  stmts_tokens (a_stmt s ss) = stmt_tokens s ++ stmts_tokens ss

-- [ mark ] "to" "(" uses ")" "from" "(" [ uses ] ")" [ "where" conds ] "{" { stmt } "}"
unfoldable pub rule_tokens : RuleTree → List Written
rule_tokens r =
    mark_tokens r.mark ++ (word (codes "to") ∷ opening ∷ (with_commas use_tokens r.outs ++ (closing ∷ word (codes "from") ∷ opening ∷ (with_commas use_tokens r.reads
    ++ (closing ∷ (conds_tokens r.conds ++ (open_brace ∷ (in_order stmt_tokens r.body ++ (close_brace ∷ [])))))))))

-- "transform" NAME [ "where" minimums ] "from" decls [ "through" decls ] "to" decls "{" { rule } "}"
unfoldable pub transform_tokens : TransformTree → List Written
transform_tokens t =
    word (codes "transform") ∷ word t.name.bytes ∷ (minimums_tokens t.minimums ++ (word (codes "from") ∷ (with_commas decl_tokens t.from
    ++ (through_tokens t.through ++ (word (codes "to") ∷ (with_commas decl_tokens t.to ++ (open_brace ∷ (in_order rule_tokens t.rules ++ (close_brace ∷ [])))))))))

-- { transform }
abbrev pub text_tokens : List TransformTree → List Written
text_tokens ts = in_order transform_tokens ts
