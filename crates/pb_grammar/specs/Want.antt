-- Reading from left to right with one token of lookahead: what is still wanted, as data. Each case goes on with what it
-- has read; a mark tells that an item that is too many begins at the token that comes next.
use Rattle.std.specs.Prelude.{ℕ, suc, ◌+◌, Bool, true, false, List, [], ◌∷◌, length, Option, None, codes}
use Rattle.pb_values.specs.Name.{NameValue}
use Rattle.pb_syntax.specs.declared.token.Token.{Token}
use Rattle.pb_syntax.specs.declared.refusal.Item.{Item}
use Rattle.pb_syntax.specs.declared.refusal.Item.TheVariants as item
use Rattle.pb_syntax.specs.declared.kind.TokenKind.{TokenKind}
use Rattle.pb_syntax.specs.declared.kind.TokenKind.TheVariants as k
use Rattle.pb_syntax.specs.declared.tree.expression.Level.{Level}
use Rattle.pb_syntax.specs.declared.tree.expression.Level.TheVariants as level
use Rattle.pb_syntax.specs.declared.tree.expression.Operator.{Operator}
use Rattle.pb_syntax.specs.declared.tree.expression.Relation.{Relation}
use Rattle.pb_syntax.specs.declared.tree.form.TermText.{TermText}
use Rattle.pb_syntax.specs.declared.tree.view.ViewText.{ViewText}
use Rattle.pb_syntax.specs.declared.tree.view.UseText.{UseText}
use Rattle.pb_syntax.specs.declared.tree.view.CondText.{CondText}
use Rattle.pb_syntax.specs.declared.tree.view.MarkText.{MarkText}
use Rattle.pb_syntax.specs.Kinds.{name_in}
use Rattle.pb_syntax.specs.Forms.{FormValue, DeclValue}
use Rattle.pb_syntax.specs.Exprs.{ExprTree}
use Rattle.pb_syntax.specs.Stmts.{StmtTree, call_stmt, assign_cell, for_stmt, stmts}
use Rattle.pb_syntax.specs.Trees.{RuleTree, TransformTree}
use Rattle.pb_syntax.specs.declared.limits.TheConstants.{MOST_VIEWS}
use Rattle.pb_syntax.specs.Limits.{SizeNames, limited, over, counted}

pub data Want : Type 0 where
  token : TokenKind → (Token → Want) → Want
  word : List ℕ → Want → Want
  begin : Option Item → Want → Want
  more_transforms : List TransformTree → Want
  minimums : (List (NameValue × ℕ) → Want) → Want
  more_minimums : List (NameValue × ℕ) → (List (NameValue × ℕ) → Want) → Want
  more_decls : ℕ → Bool → List DeclValue → (List DeclValue → Want) → Want
  through : ℕ → (List DeclValue → Want) → Want
  after_dim : SizeNames → FormValue → (List FormValue → Want) → Want
  last_dim : SizeNames → FormValue → Want → Want
  rule : (RuleTree → Want) → Want
  more_rules : List RuleTree → (List RuleTree → Want) → Want
  small : (ℕ → Want) → Want
  more_uses : Item → List UseText → (List UseText → Want) → Want
  reads : (List UseText → Want) → Want
  conditions : (List CondText → Want) → Want
  more_conditions : List CondText → (List CondText → Want) → Want
  view_or_none : (ViewText → Want) → Want
  view_name : (ViewText → Want) → Want
  after_x : FormValue → (ViewText → Want) → Want
  after_high : FormValue → FormValue → (ViewText → Want) → Want
  form : (FormValue → Want) → Want
  term : Bool → (TermText → Want) → Want
  times : Bool → ℕ → (TermText → Want) → Want
  quotient : Bool → NameValue → (TermText → Want) → Want
  divisor : (ℕ → Want) → Want
  more_terms : List TermText → (List TermText → Want) → Want
  relation : (Relation → Want) → Want
  statements : ℕ → ℕ → List StmtTree → (List StmtTree → ℕ → Want) → Want
  statement : ℕ → ℕ → (StmtTree → ℕ → Want) → Want
  after_let : ℕ → ℕ → NameValue → (StmtTree → Want) → Want
  after_target : ℕ → NameValue → (StmtTree → Want) → Want
  more_targets : ℕ → List NameValue → (StmtTree → Want) → Want
  otherwise : ℕ → ℕ → ℕ → ExprTree → List StmtTree → (StmtTree → ℕ → Want) → Want
  factor : ℕ → (ExprTree → Want) → Want
  primary : ℕ → (ExprTree → Want) → Want
  after_name : ℕ → NameValue → (ExprTree → Want) → Want
  member : ℕ → NameValue → (ExprTree → Want) → Want
  arguments : ℕ → (List ExprTree → Want) → Want
  more_arguments : ℕ → List ExprTree → (List ExprTree → Want) → Want
  after_coordinate : ℕ → ExprTree → (List ExprTree → Want) → Want
  more_operands : Level → ℕ → ExprTree → List (Operator × ExprTree) → (ExprTree → Want) → Want
  comparison : ℕ → ExprTree → (ExprTree → Want) → Want

-- `(` and `{` in a body
abbrev pub bracket : ℕ → TokenKind → Want → Want
bracket depth kind w = begin (over item.Nesting depth) (token kind (λ _. w))

abbrev pub a_sign : TokenKind → Want → Want
a_sign kind w = token kind (λ _. w)

unfoldable pub name_token : (NameValue → Want) → Want
name_token f = token k.Name (λ t. f (name_in t))

-- one or two dimensions, after `[`
abbrev pub dims_known : SizeNames → (List FormValue → Want) → Want
dims_known known f = form (λ e. after_dim known e f)

abbrev pub decl_line : SizeNames → (DeclValue → Want) → Want
decl_line known f = token k.Name (λ t. a_sign k.OpenBracket
    (dims_known known (λ dims. f (record { name = name_in t; dims = dims }))))

abbrev pub a_decl : ℕ → SizeNames → (DeclValue → Want) → Want
a_decl before known f = begin (over item.Matrices before) (decl_line known f)

abbrev pub decls : ℕ → Bool → (List DeclValue → Want) → Want
decls before from f = a_decl before (counted from []) (λ d. more_decls before from (d ∷ []) f)

abbrev pub minimum_line : (NameValue × ℕ → Want) → Want
minimum_line f = token k.Name (λ t. a_sign k.GreaterOrEqual (small (λ n. f (name_in t, n))))

abbrev pub minimum : ℕ → (NameValue × ℕ → Want) → Want
minimum before f = begin (over item.Minimums before) (minimum_line f)

abbrev pub use_line : (UseText → Want) → Want
use_line f = token k.Name (λ m. view_or_none (λ v. token k.Name (λ b. f (record { matrix = name_in m; view = v; bound = name_in b }))))

abbrev pub a_use : Item → ℕ → (UseText → Want) → Want
a_use what before f = begin (limited MOST_VIEWS before what) (use_line f)

-- at least one use, after `(`
abbrev pub uses : Item → (List UseText → Want) → Want
uses what f = a_use what 0 (λ u. more_uses what (u ∷ []) f)

abbrev pub condition_line : (CondText → Want) → Want
condition_line f = form (λ a. relation (λ r. form (λ b. f (record { left = a; relation = r; right = b }))))

abbrev pub condition : ℕ → (CondText → Want) → Want
condition before f = begin (over item.Conditions before) (condition_line f)

-- what is wanted after the parts of a rule
abbrev pub with_conditions : MarkText → (RuleTree → Want) → List UseText → List UseText → List CondText → Want
with_conditions m f outs rs cs = statements 1 0 [] (λ body n. f (record { mark = m; outs = outs; reads = rs; conds = cs; body = body }))

abbrev pub with_reads : MarkText → (RuleTree → Want) → List UseText → List UseText → Want
with_reads m f outs rs = conditions (with_conditions m f outs rs)

abbrev pub with_outs : MarkText → (RuleTree → Want) → List UseText → Want
with_outs m f outs = a_sign k.From (a_sign k.Open (reads (with_reads m f outs)))

abbrev pub with_out : MarkText → (RuleTree → Want) → UseText → Want
with_out m f o = more_uses item.Outputs (o ∷ []) (with_outs m f)

unfoldable pub after_mark : MarkText → (RuleTree → Want) → Want
after_mark m f = a_sign k.Open (uses item.Outputs (with_outs m f))

-- at least one rule, and `}`
abbrev pub rules : (List RuleTree → Want) → Want
rules f = rule (λ r. more_rules (r ∷ []) f)

-- what is wanted after the parts of a transform
abbrev pub with_rules : NameValue → List (NameValue × ℕ) → List DeclValue → List DeclValue → List DeclValue → (TransformTree → Want) → List RuleTree → Want
with_rules n ms from kept to f rs = f (record { name = n; minimums = ms; from = from; through = kept; to = to; rules = rs })

abbrev pub with_to : NameValue → List (NameValue × ℕ) → List DeclValue → List DeclValue → (TransformTree → Want) → List DeclValue → Want
with_to n ms from kept f to = a_sign k.OpenBrace (rules (with_rules n ms from kept to f))

abbrev pub with_kept : NameValue → List (NameValue × ℕ) → List DeclValue → (TransformTree → Want) → List DeclValue → Want
with_kept n ms from f kept = decls (length from + length kept) false (with_to n ms from kept f)

abbrev pub with_from : NameValue → List (NameValue × ℕ) → (TransformTree → Want) → List DeclValue → Want
with_from n ms f from = through (length from) (with_kept n ms from f)

abbrev pub with_minimums : NameValue → (TransformTree → Want) → List (NameValue × ℕ) → Want
with_minimums n f ms = decls 0 true (with_from n ms f)

abbrev pub after_transform : (TransformTree → Want) → Want
after_transform f = token k.Name (λ n. minimums (with_minimums (name_in n) f))

abbrev pub a_transform : (TransformTree → Want) → Want
a_transform f = token k.Transform (λ _. after_transform f)

abbrev pub program : Want
program = a_transform (λ t. more_transforms (t ∷ []))

unfoldable pub product : ℕ → (ExprTree → Want) → Want
product d f = factor d (λ e. more_operands level.Product d e [] f)

unfoldable pub total : ℕ → (ExprTree → Want) → Want
total d f = product d (λ e. more_operands level.Sum d e [] f)

unfoldable pub compared : ℕ → (ExprTree → Want) → Want
compared d f = total d (λ e. comparison d e f)

unfoldable pub conjunction : ℕ → (ExprTree → Want) → Want
conjunction d f = compared d (λ e. more_operands level.Conjunction d e [] f)

unfoldable pub expression : ℕ → (ExprTree → Want) → Want
expression d f = conjunction d (λ e. more_operands level.Disjunction d e [] f)

-- the operands of a line
abbrev pub operand : Level → ℕ → (ExprTree → Want) → Want
operand level.Product = factor
operand level.Sum = product
operand level.Conjunction = compared
operand level.Disjunction = conjunction

-- one or two coordinates in a body, after `cell`
unfoldable pub coordinates : ℕ → (List ExprTree → Want) → Want
coordinates d f = bracket d k.Open (expression (suc d) (λ x. after_coordinate (suc d) x f))

-- a chain of binary operators of one level
abbrev pub line : Level → ℕ → (ExprTree → Want) → Want
line level.Product = product
line level.Sum = total
line level.Conjunction = conjunction
line level.Disjunction = expression

-- one argument and all that follow
unfoldable pub some_arguments : ℕ → (List ExprTree → Want) → Want
some_arguments d f = expression d (λ e. more_arguments d (e ∷ []) f)

-- statements in braces; `n` statements of the body have begun before
unfoldable pub block : ℕ → ℕ → (List StmtTree → ℕ → Want) → Want
block d n f = bracket d k.OpenBrace (statements (suc d) n [] f)

unfoldable pub after_if : ℕ → ℕ → ℕ → (StmtTree → ℕ → Want) → Want
after_if d n at f = bracket d k.Open (expression (suc d) (λ e. a_sign k.Close (block d n (λ body m. otherwise d m at e body f))))

unfoldable pub after_for : ℕ → ℕ → ℕ → (StmtTree → ℕ → Want) → Want
after_for d n at f = bracket d k.Open (name_token (λ x. a_sign k.Assign (expression (suc d) (λ a. a_sign k.Dots
    (expression (suc d) (λ b. a_sign k.Close (block d n (λ body m. f (for_stmt at x a b (stmts body)) m))))))))

-- the call after the targets and `=`
unfoldable pub called : ℕ → List NameValue → (StmtTree → Want) → Want
called d ns f = name_token (λ c. bracket d k.Open (some_arguments (suc d) (λ es. a_sign k.Semicolon (f (call_stmt ns c es)))))

-- the cell that gets a value, after its name and `.`
unfoldable pub after_dot : ℕ → NameValue → (StmtTree → Want) → Want
after_dot d n f = word (codes "cell") (coordinates d (λ xs. a_sign k.Assign (expression d (λ e. a_sign k.Semicolon (f (assign_cell n xs e))))))

-- the dimensions of a matrix of a body, after `[`
unfoldable pub dimensions : (List FormValue → Want) → Want
dimensions f = form (λ e. after_dim None e f)
