-- The names in a body: what each names, and what is wrong with it. Faults stand in the order of the text.
use Rattle.std.specs.Prelude.{ℕ, ◌+◌, Bool, not, if◌then◌else◌, List, [], ◌∷◌, ◌++◌, map, Option, Some, None, is_some, codes}
use Rattle.std.specs.List.{flat_map}
use Rattle.std.specs.Option.{option_map, option_map_or}
use Rattle.std.specs.Str.{bytes_eq}
use Rattle.pb_values.specs.Name.{NameValue}
use Rattle.pb_syntax.specs.declared.tree.form.TermText.{TermText}
use Rattle.pb_syntax.specs.Forms.{FormValue}
use Rattle.pb_syntax.specs.Exprs.{ExprTree, ExprTrees, Operands}
use Rattle.pb_syntax.specs.Exprs as text
use Rattle.pb_syntax.specs.Stmts.{StmtTree, StmtTrees}
use Rattle.pb_syntax.specs.Stmts as text_stmt
use Rattle.pb_program.specs.declared.meaning.Meaning.{Meaning}
use Rattle.pb_program.specs.declared.meaning.Meaning.TheVariants as meaning
use Rattle.pb_program.specs.declared.meaning.Named.{Named}
use Rattle.pb_program.specs.declared.meaning.Called.{Called}
use Rattle.pb_program.specs.declared.meaning.Callee.{Callee}
use Rattle.pb_program.specs.declared.meaning.Callee.TheVariants as callee
use Rattle.pb_program.specs.declared.meaning.Function.{Function}
use Rattle.pb_program.specs.declared.meaning.Function.TheVariants as function
use Rattle.pb_program.specs.declared.statement.LocalTerm.{LocalTerm}
use Rattle.pb_program.specs.Forms.{LocalFormValue}
use Rattle.pb_program.specs.Exprs.{ExprValue, ExprValues, OperandValues}
use Rattle.pb_program.specs.Exprs as to
use Rattle.pb_program.specs.Stmts.{StmtValue, StmtValues}
use Rattle.pb_program.specs.Stmts as to_stmt
use Rattle.pb_names.specs.declared.fault.Fault.{Fault}
use Rattle.pb_names.specs.Names.{look}
use Rattle.pb_names.specs.Faults.{duplicate, unknown}

-- what a place of a body sees: the transforms of the program, by number; the names of sizes, rule variables, bound
-- views and locals, in order of declaration; and how many of them are locals
pub record Visible : Type 0 where
  pub transforms : List (List ℕ × ℕ)
  pub names : List (List ℕ × Meaning)
  pub locals : ℕ

-- with one more local, whose number is how many were visible
abbrev pub declare : Visible → NameValue → (ℕ → Meaning) → Visible
declare v n what = record { transforms = v.transforms; names = v.names ++ (n.bytes, what v.locals) ∷ []; locals = v.locals + 1 }

abbrev pub is_visible : Visible → NameValue → Bool
is_visible v n = is_some (look n.bytes v.names)

-- what a visible name names
abbrev pub meaning_or : Option Meaning → Meaning
meaning_or (Some m) = m
meaning_or None = meaning.Size 0

abbrev pub named : Visible → NameValue → Named
named v n = record { at = n.at; what = meaning_or (look n.bytes v.names) }

-- a local that is declared
abbrev pub local : Visible → NameValue → (ℕ → Meaning) → Named
local v n what = record { at = n.at; what = what v.locals }

abbrev pub function_of : List ℕ → Option Function
function_of n =
    if bytes_eq n (codes "sum") then Some function.Sum else
    if bytes_eq n (codes "dot") then Some function.Dot else
    if bytes_eq n (codes "min") then Some function.Min else
    if bytes_eq n (codes "max") then Some function.Max else
    if bytes_eq n (codes "abs") then Some function.Abs else None

abbrev pub called_by : Option Function → Option ℕ → Option Callee
called_by (Some f) t = Some (callee.Function f)
called_by None (Some t) = Some (callee.Transform t)
called_by None None = None

-- what a called name calls: a function, or a transform of the program
abbrev pub called_name : Visible → List ℕ → Option Callee
called_name v n = called_by (function_of n) (look n v.transforms)

abbrev pub callee_or : Option Callee → Callee
callee_or (Some c) = c
callee_or None = callee.Transform 0

abbrev pub called : Visible → NameValue → Called
called v n = record { at = n.at; what = callee_or (called_name v n.bytes) }

-- a name that isn't visible; a local whose name is visible already; a called name that is no function and no transform
abbrev pub use_faults : Visible → NameValue → List Fault
use_faults v n = unknown (not (is_visible v n)) n

abbrev pub declared_faults : Visible → NameValue → List Fault
declared_faults v n = duplicate (is_visible v n) n

abbrev pub called_faults : Visible → NameValue → List Fault
called_faults v n = unknown (not (is_some (called_name v n.bytes))) n

abbrev mutual
  pub expr_of : Visible → ExprTree → ExprValue
  expr_of v (text.number at n) = to.number at n
  expr_of v (text.name n) = to.name (named v n)
  expr_of v (text.call n xs) = to.call (called v n) (exprs_of v xs)
  expr_of v (text.parentheses at x) = to.parentheses at (expr_of v x)
  expr_of v (text.cell n xs) = to.cell (named v n) (exprs_of v xs)
  expr_of v (text.width n) = to.width (named v n)
  expr_of v (text.height n) = to.height (named v n)
  expr_of v (text.signed at sign x) = to.signed at sign (expr_of v x)
  expr_of v (text.chain level x rest) = to.chain level (expr_of v x) (operands_of v rest)
  expr_of v (text.compare x relation y) = to.compare (expr_of v x) relation (expr_of v y)

  pub exprs_of : Visible → ExprTrees → ExprValues
  exprs_of v text.no_exprs = to.no_exprs
  exprs_of v (text.an_expr x rest) = to.an_expr (expr_of v x) (exprs_of v rest)

  pub operands_of : Visible → Operands → OperandValues
  operands_of v text.no_operands = to.no_operands
  operands_of v (text.an_operand o x rest) = to.an_operand o (expr_of v x) (operands_of v rest)

abbrev mutual
  pub expr_faults : Visible → ExprTree → List Fault
  expr_faults v (text.number at n) = []
  expr_faults v (text.name n) = use_faults v n
  expr_faults v (text.call n xs) = called_faults v n ++ exprs_faults v xs
  expr_faults v (text.parentheses at x) = expr_faults v x
  expr_faults v (text.cell n xs) = use_faults v n ++ exprs_faults v xs
  expr_faults v (text.width n) = use_faults v n
  expr_faults v (text.height n) = use_faults v n
  expr_faults v (text.signed at sign x) = expr_faults v x
  expr_faults v (text.chain level x rest) = expr_faults v x ++ operands_faults v rest
  expr_faults v (text.compare x relation y) = expr_faults v x ++ expr_faults v y

  pub exprs_faults : Visible → ExprTrees → List Fault
  exprs_faults v text.no_exprs = []
  exprs_faults v (text.an_expr x rest) = expr_faults v x ++ exprs_faults v rest

  pub operands_faults : Visible → Operands → List Fault
  operands_faults v text.no_operands = []
  operands_faults v (text.an_operand o x rest) = expr_faults v x ++ operands_faults v rest

-- the dimensions of a local matrix
abbrev pub term_of : Visible → TermText → LocalTerm
term_of v t = record { minus = t.minus; factor = t.factor; name = option_map (named v) t.name; quotient = t.quotient }

abbrev pub term_faults : Visible → TermText → List Fault
term_faults v t = option_map_or (use_faults v) t.name []

abbrev pub local_form : Visible → FormValue → LocalFormValue
local_form v f = record { minus = f.minus; terms = map (term_of v) f.terms }

abbrev pub form_faults : Visible → FormValue → List Fault
form_faults v f = flat_map (term_faults v) f.terms

-- what the statements after one see
abbrev pub after : Visible → StmtTree → Visible
after v (text_stmt.let_number at n x) = declare v n meaning.Number
after v (text_stmt.let_matrix at n dims) = declare v n meaning.Matrix
after v _ = v

abbrev mutual
  pub stmt_of : Visible → StmtTree → StmtValue
  stmt_of v (text_stmt.let_number at n x) = to_stmt.let_number at (local v n meaning.Number) (expr_of v x)
  stmt_of v (text_stmt.let_matrix at n dims) = to_stmt.let_matrix at (local v n meaning.Matrix) (map (local_form v) dims)
  stmt_of v (text_stmt.assign n x) = to_stmt.assign (named v n) (expr_of v x)
  stmt_of v (text_stmt.call_stmt ns n xs) = to_stmt.call_stmt (map (named v) ns) (called v n) (map (expr_of v) xs)
  stmt_of v (text_stmt.assign_cell n xs x) = to_stmt.assign_cell (named v n) (map (expr_of v) xs) (expr_of v x)
  stmt_of v (text_stmt.if_stmt at x ss) = to_stmt.if_stmt at (expr_of v x) (stmts_of v ss)
  stmt_of v (text_stmt.if_else at x ss others) = to_stmt.if_else at (expr_of v x) (stmts_of v ss) (stmts_of v others)
  stmt_of v (text_stmt.for_stmt at n x y ss) =
      to_stmt.for_stmt at (local v n meaning.Number) (expr_of v x) (expr_of v y) (stmts_of (declare v n meaning.Number) ss)

  pub stmts_of : Visible → StmtTrees → StmtValues
  stmts_of v text_stmt.no_stmts = to_stmt.no_stmts
  stmts_of v (text_stmt.a_stmt s rest) = to_stmt.a_stmt (stmt_of v s) (stmts_of (after v s) rest)

abbrev mutual
  pub stmt_faults : Visible → StmtTree → List Fault
  stmt_faults v (text_stmt.let_number at n x) = declared_faults v n ++ expr_faults v x
  stmt_faults v (text_stmt.let_matrix at n dims) = declared_faults v n ++ flat_map (form_faults v) dims
  stmt_faults v (text_stmt.assign n x) = use_faults v n ++ expr_faults v x
  stmt_faults v (text_stmt.call_stmt ns n xs) = flat_map (use_faults v) ns ++ (called_faults v n ++ flat_map (expr_faults v) xs)
  stmt_faults v (text_stmt.assign_cell n xs x) = use_faults v n ++ (flat_map (expr_faults v) xs ++ expr_faults v x)
  stmt_faults v (text_stmt.if_stmt at x ss) = expr_faults v x ++ stmts_faults v ss
  stmt_faults v (text_stmt.if_else at x ss others) = expr_faults v x ++ (stmts_faults v ss ++ stmts_faults v others)
  stmt_faults v (text_stmt.for_stmt at n x y ss) =
      declared_faults v n ++ (expr_faults v x ++ (expr_faults v y ++ stmts_faults (declare v n meaning.Number) ss))

  pub stmts_faults : Visible → StmtTrees → List Fault
  stmts_faults v text_stmt.no_stmts = []
  stmts_faults v (text_stmt.a_stmt s rest) = stmt_faults v s ++ stmts_faults (after v s) rest
