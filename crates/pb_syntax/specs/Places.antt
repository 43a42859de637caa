-- A tree with its places aside: each place in it is 0.
use Rattle.std.specs.Prelude.{ℕ, List, Option, Some, None, map}
use Rattle.pb_values.specs.Name.{NameValue}
use Rattle.pb_syntax.specs.declared.tree.form.TermText.{TermText}
use Rattle.pb_syntax.specs.declared.tree.view.ViewText.{ViewText}
use Rattle.pb_syntax.specs.declared.tree.view.ViewText.TheVariants as view
use Rattle.pb_syntax.specs.declared.tree.view.UseText.{UseText}
use Rattle.pb_syntax.specs.declared.tree.view.CondText.{CondText}
use Rattle.pb_syntax.specs.Forms.{FormValue, DeclValue}
use Rattle.pb_syntax.specs.Exprs.{ExprTree, ExprTrees, Operands, number, name, call, parentheses, cell, width, height, signed, chain, compare, no_exprs, an_expr, no_operands, an_operand}
use Rattle.pb_syntax.specs.Stmts.{StmtTree, StmtTrees, let_number, let_matrix, assign, call_stmt, assign_cell, if_stmt, if_else, for_stmt, no_stmts, a_stmt}
use Rattle.pb_syntax.specs.Trees.{RuleTree, TransformTree}

abbrev pub unplaced_name : NameValue → NameValue
unplaced_name n = record { bytes = n.bytes; at = 0 }

abbrev pub unplaced_option : Option NameValue → Option NameValue
unplaced_option None = None
unplaced_option (Some n) = Some (unplaced_name n)

abbrev pub unplaced_minimum : (NameValue × ℕ) → (NameValue × ℕ)
unplaced_minimum m = (unplaced_name m.0, m.1)

abbrev pub unplaced_term : TermText → TermText
unplaced_term t = record { minus = t.minus; factor = t.factor; name = unplaced_option t.name; quotient = t.quotient }

abbrev pub unplaced_form : FormValue → FormValue
unplaced_form f = record { minus = f.minus; terms = map unplaced_term f.terms }

abbrev pub unplaced_decl : DeclValue → DeclValue
unplaced_decl d = record { name = unplaced_name d.name; dims = map unplaced_form d.dims }

abbrev pub unplaced_view : ViewText → ViewText
unplaced_view view.Whole = view.Whole
unplaced_view (view.Cell x None) = view.Cell (unplaced_form x) None
unplaced_view (view.Cell x (Some y)) = view.Cell (unplaced_form x) (Some (unplaced_form y))
unplaced_view (view.Row y) = view.Row (unplaced_form y)
unplaced_view (view.Column x) = view.Column (unplaced_form x)
unplaced_view (view.Between a b) = view.Between (unplaced_form a) (unplaced_form b)
unplaced_view (view.Region a b c d) = view.Region (unplaced_form a) (unplaced_form b) (unplaced_form c) (unplaced_form d)

abbrev pub unplaced_use : UseText → UseText
unplaced_use u = record { matrix = unplaced_name u.matrix; view = unplaced_view u.view; bound = unplaced_name u.bound }

abbrev pub unplaced_cond : CondText → CondText
unplaced_cond c = record { left = unplaced_form c.left; relation = c.relation; right = unplaced_form c.right }

abbrev mutual
  pub unplaced_expr : ExprTree → ExprTree
  unplaced_expr (number at n) = number 0 n
  unplaced_expr (name n) = name (unplaced_name n)
  unplaced_expr (call n xs) = call (unplaced_name n) (unplaced_exprs xs)
  unplaced_expr (parentheses at x) = parentheses 0 (unplaced_expr x)
  unplaced_expr (cell n xs) = cell (unplaced_name n) (unplaced_exprs xs)
  unplaced_expr (width n) = width (unplaced_name n)
  unplaced_expr (height n) = height (unplaced_name n)
  unplaced_expr (signed at s x) = signed 0 s (unplaced_expr x)
  unplaced_expr (chain l x xs) = chain l (unplaced_expr x) (unplaced_operands xs)
  unplaced_expr (compare x r y) = compare (unplaced_expr x) r (unplaced_expr y)

  pub unplaced_exprs : ExprTrees → ExprTrees
  unplaced_exprs no_exprs = no_exprs
  unplaced_exprs (an_expr x xs) = an_expr (unplaced_expr x) (unplaced_exprs xs)

  pub unplaced_operands : Operands → Operands
  unplaced_operands no_operands = no_operands
  unplaced_operands (an_operand o x xs) = an_operand o (unplaced_expr x) (unplaced_operands xs)

abbrev mutual
  pub unplaced_stmt : StmtTree → StmtTree
  unplaced_stmt (let_number at n x) = let_number 0 (unplaced_name n) (unplaced_expr x)
  unplaced_stmt (let_matrix at n ds) = let_matrix 0 (unplaced_name n) (map unplaced_form ds)
  unplaced_stmt (assign n x) = assign (unplaced_name n) (unplaced_expr x)
  unplaced_stmt (call_stmt ns n xs) = call_stmt (map unplaced_name ns) (unplaced_name n) (map unplaced_expr xs)
  unplaced_stmt (assign_cell n xs x) = assign_cell (unplaced_name n) (map unplaced_expr xs) (unplaced_expr x)
  unplaced_stmt (if_stmt at x ss) = if_stmt 0 (unplaced_expr x) (unplaced_stmts ss)
  unplaced_stmt (if_else at x ss others) = if_else 0 (unplaced_expr x) (unplaced_stmts ss) (unplaced_stmts others)
  unplaced_stmt (for_stmt at n a b ss) = for_stmt 0 (unplaced_name n) (unplaced_expr a) (unplaced_expr b) (unplaced_stmts ss)

  pub unplaced_stmts : StmtTrees → StmtTrees
  unplaced_stmts no_stmts = no_stmts
  unplaced_stmts (a_stmt s ss) = a_stmt (unplaced_stmt s) (unplaced_stmts ss)

abbrev pub unplaced_rule : RuleTree → RuleTree
unplaced_rule r = record {
  mark = r.mark;
  outs = map unplaced_use r.outs;
  reads = map unplaced_use r.reads;
  conds = map unplaced_cond r.conds;
  body = map unplaced_stmt r.body;
}

abbrev pub unplaced_transform : TransformTree → TransformTree
unplaced_transform t = record {
  name = unplaced_name t.name;
  minimums = map unplaced_minimum t.minimums;
  from = map unplaced_decl t.from;
  through = map unplaced_decl t.through;
  to = map unplaced_decl t.to;
  rules = map unplaced_rule t.rules;
}

abbrev pub unplaced : List TransformTree → List TransformTree
unplaced ts = map unplaced_transform ts
