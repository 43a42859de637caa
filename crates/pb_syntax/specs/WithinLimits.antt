-- The limits, said of a tree: what is true of each tree that a text has.
use Rattle.std.specs.Prelude.{◌≡◌, ◌≢◌, ℕ, suc, ◌+◌, ◌≤◌, ◌<◌, false, List, [], ◌∷◌, length, Option, Some, None, ◌⊎◌}
use Rattle.std.specs.List.{AllByRecursion}
use Rattle.pb_values.specs.Name.{NameValue}
use Rattle.pb_syntax.specs.declared.kind.TokenKind.TheVariants as k
use Rattle.pb_syntax.specs.declared.limits.TheConstants.{MOST_VALUE, MOST_TRANSFORMS, MOST_RULES, MOST_MATRICES, MOST_SIZES, MOST_VIEWS, MOST_CONDITIONS, MOST_MINIMUMS, MOST_TARGETS, MOST_ARGUMENTS, MOST_TERMS, MOST_NUMBER, MOST_STATEMENTS, MOST_NESTING}
use Rattle.pb_syntax.specs.declared.tree.expression.Relation.TheVariants.{Unequal}
use Rattle.pb_syntax.specs.declared.tree.form.TermText.{TermText}
use Rattle.pb_syntax.specs.declared.tree.view.ViewText.{ViewText}
use Rattle.pb_syntax.specs.declared.tree.view.ViewText.TheVariants as view
use Rattle.pb_syntax.specs.declared.tree.view.UseText.{UseText}
use Rattle.pb_syntax.specs.declared.tree.view.CondText.{CondText}
use Rattle.pb_syntax.specs.declared.tree.view.MarkText.{MarkText}
use Rattle.pb_syntax.specs.declared.tree.view.MarkText.TheVariants as mark
use Rattle.pb_syntax.specs.Lexemes.{IsWordText}
use Rattle.pb_syntax.specs.Kinds.{word_kind}
use Rattle.pb_syntax.specs.Forms.{FormValue, DeclValue}
use Rattle.pb_syntax.specs.Exprs.{ExprTree, ExprTrees, Operands, number, name, call, parentheses, cell, width, height, signed, chain, compare, no_exprs, an_expr, no_operands, an_operand}
use Rattle.pb_syntax.specs.Stmts.{StmtTree, StmtTrees, let_number, let_matrix, assign, call_stmt, assign_cell, if_stmt, if_else, for_stmt, no_stmts, a_stmt}
use Rattle.pb_syntax.specs.Trees.{RuleTree, TransformTree}
use Rattle.pb_syntax.specs.Limits.{sizes_of}
use Rattle.pb_syntax.specs.TooMany.{among}

-- a word that is no keyword
abbrev pub IsNamed : NameValue → Type 0
IsNamed n = IsWordText n.bytes × (word_kind n.bytes ≡ k.Name)

-- how many there are
abbrev pub Counts : ℕ → ℕ → ℕ → Type 0
Counts least most n = (least ≤ n) × (n ≤ most)

-- a number alone has no quotient
abbrev pub NameFits : Option NameValue → ℕ → Type 0
NameFits None quotient = quotient ≡ 0
NameFits (Some n) quotient = IsNamed n

-- a name has a factor, or a half, third or quarter is taken of it
pub record TermWithin (t : TermText) : Type 0 where
  pub factor : t.factor ≤ MOST_NUMBER
  pub quotient : (t.quotient ≡ 0) ⊎ (Counts 2 4 t.quotient × (t.factor ≡ 1))
  pub name : NameFits t.name t.quotient

-- `-` before the first term is the form's own
abbrev pub FirstIsPlain : List TermText → Type 0
FirstIsPlain [] = ⊥
FirstIsPlain (t ∷ _) = t.minus ≡ false

pub record FormWithin (f : FormValue) : Type 0 where
  pub first : FirstIsPlain f.terms
  pub few : length f.terms ≤ MOST_TERMS
  pub terms : AllByRecursion TermWithin f.terms

abbrev pub DimsWithin : List FormValue → Type 0
DimsWithin ds = Counts 1 2 (length ds) × AllByRecursion FormWithin ds

pub record DeclWithin (d : DeclValue) : Type 0 where
  pub name : IsNamed d.name
  pub dims : DimsWithin d.dims

abbrev pub ViewWithin : ViewText → Type 0
ViewWithin view.Whole = Unit {0}
ViewWithin (view.Cell x None) = FormWithin x
ViewWithin (view.Cell x (Some y)) = FormWithin x × FormWithin y
ViewWithin (view.Row y) = FormWithin y
ViewWithin (view.Column x) = FormWithin x
ViewWithin (view.Between a b) = FormWithin a × FormWithin b
ViewWithin (view.Region a b c d) = FormWithin a × FormWithin b × FormWithin c × FormWithin d

pub record UseWithin (u : UseText) : Type 0 where
  pub matrix : IsNamed u.matrix
  pub view : ViewWithin u.view
  pub bound : IsNamed u.bound

pub record CondWithin (c : CondText) : Type 0 where
  pub left : FormWithin c.left
  pub relation : c.relation ≢ Unequal
  pub right : FormWithin c.right

abbrev pub MarkWithin : MarkText → Type 0
MarkWithin (mark.Priority n) = n ≤ MOST_NUMBER
MarkWithin _ = Unit {0}

abbrev pub exprs_count : ExprTrees → ℕ
exprs_count no_exprs = 0
exprs_count (an_expr x xs) = 1 + exprs_count xs

-- of an expression of a body, where `d` brackets, `(` or `{`, are open
abbrev mutual
  pub ExprWithin : ℕ → ExprTree → Type 0
  ExprWithin d (number at n) = n ≤ MOST_VALUE
  ExprWithin d (name n) = IsNamed n
  ExprWithin d (call n xs) = IsNamed n × (d < MOST_NESTING) × (exprs_count xs ≤ MOST_ARGUMENTS) × ExprsWithin (suc d) xs
  ExprWithin d (parentheses at x) = (d < MOST_NESTING) × ExprWithin (suc d) x
  ExprWithin d (cell n xs) = IsNamed n × (d < MOST_NESTING) × Counts 1 2 (exprs_count xs) × ExprsWithin (suc d) xs
  ExprWithin d (width n) = IsNamed n × (d < MOST_NESTING)
  ExprWithin d (height n) = IsNamed n × (d < MOST_NESTING)
  ExprWithin d (signed at s x) = ExprWithin d x
  ExprWithin d (chain l x xs) = ExprWithin d x × OperandsWithin d xs
  ExprWithin d (compare x r y) = ExprWithin d x × ExprWithin d y

  pub ExprsWithin : ℕ → ExprTrees → Type 0
  ExprsWithin d no_exprs = Unit {0}
  ExprsWithin d (an_expr x xs) = ExprWithin d x × ExprsWithin d xs

  pub OperandsWithin : ℕ → Operands → Type 0
  OperandsWithin d no_operands = Unit {0}
  OperandsWithin d (an_operand o x xs) = ExprWithin d x × OperandsWithin d xs

abbrev pub AllExprs : ℕ → List ExprTree → Type 0
AllExprs d xs = AllByRecursion (ExprWithin d) xs

-- of a statement; a block's brace is open within it
abbrev mutual
  pub StmtWithin : ℕ → StmtTree → Type 0
  StmtWithin d (let_number at n x) = IsNamed n × ExprWithin d x
  StmtWithin d (let_matrix at n ds) = IsNamed n × DimsWithin ds
  StmtWithin d (assign n x) = IsNamed n × ExprWithin d x
  StmtWithin d (call_stmt ns n xs) = AllByRecursion IsNamed ns × Counts 2 MOST_TARGETS (length ns) × IsNamed n × (d < MOST_NESTING)
      × Counts 1 MOST_ARGUMENTS (length xs) × AllExprs (suc d) xs
  StmtWithin d (assign_cell n xs x) = IsNamed n × (d < MOST_NESTING) × Counts 1 2 (length xs) × AllExprs (suc d) xs × ExprWithin d x
  StmtWithin d (if_stmt at x ss) = (d < MOST_NESTING) × ExprWithin (suc d) x × StmtsWithin (suc d) ss
  StmtWithin d (if_else at x ss others) = (d < MOST_NESTING) × ExprWithin (suc d) x × StmtsWithin (suc d) ss × StmtsWithin (suc d) others
  StmtWithin d (for_stmt at n a b ss) = IsNamed n × (d < MOST_NESTING) × ExprWithin (suc d) a × ExprWithin (suc d) b × StmtsWithin (suc d) ss

  pub StmtsWithin : ℕ → StmtTrees → Type 0
  StmtsWithin d no_stmts = Unit {0}
  StmtsWithin d (a_stmt s ss) = StmtWithin d s × StmtsWithin d ss

pub record RuleWithin (r : RuleTree) : Type 0 where
  pub mark : MarkWithin r.mark
  pub outputs : Counts 1 MOST_VIEWS (length r.outs) × AllByRecursion UseWithin r.outs
  pub reads : (length r.reads ≤ MOST_VIEWS) × AllByRecursion UseWithin r.reads
  pub conds : (length r.conds ≤ MOST_CONDITIONS) × AllByRecursion CondWithin r.conds
  pub few_statements : among r.body ≤ MOST_STATEMENTS
  pub body : AllByRecursion (StmtWithin 1) r.body

abbrev pub MinimumWithin : (NameValue × ℕ) → Type 0
MinimumWithin m = IsNamed m.0 × (m.1 ≤ MOST_NUMBER)

pub record TransformWithin (t : TransformTree) : Type 0 where
  pub name : IsNamed t.name
  pub minimums : (length t.minimums ≤ MOST_MINIMUMS) × AllByRecursion MinimumWithin t.minimums
  pub some_from : 1 ≤ length t.from
  pub some_to : 1 ≤ length t.to
  pub few_matrices : length t.from + (length t.through + length t.to) ≤ MOST_MATRICES
  pub few_sizes : length (sizes_of [] t.from) ≤ MOST_SIZES
  pub from : AllByRecursion DeclWithin t.from
  pub through : AllByRecursion DeclWithin t.through
  pub to : AllByRecursion DeclWithin t.to
  pub rules : Counts 1 MOST_RULES (length t.rules) × AllByRecursion RuleWithin t.rules

-- the program is within all limits
abbrev pub IsWithinLimits : List TransformTree → Type 0
IsWithinLimits ts = Counts 1 MOST_TRANSFORMS (length ts) × AllByRecursion TransformWithin ts
