-- What names are, and what is wrong with them, doesn't depend on the places of a tree: parts of bodies.
use Rattle.std.proofs.Common.{◌≡◌, Bool, true, false, List, [], ◌∷◌, map, Option, Some, None, refl, ap, ◌∙◌}
use Rattle.std.specs.List.{flat_map}
use Rattle.std.specs.Option.{option_map, option_map_or}
use Rattle.pb_values.specs.Name.{NameValue}
use Rattle.pb_syntax.specs.declared.tree.form.TermText.{TermText}
use Rattle.pb_syntax.specs.Forms.{FormValue}
use Rattle.pb_syntax.specs.Exprs.{ExprTree, ExprTrees, Operands}
use Rattle.pb_syntax.specs.Exprs as text
use Rattle.pb_syntax.specs.Stmts.{StmtTree, StmtTrees}
use Rattle.pb_syntax.specs.Stmts as text_stmt
use Rattle.pb_syntax.specs.Places.{unplaced_name, unplaced_option, unplaced_term, unplaced_form, unplaced_expr, unplaced_exprs, unplaced_operands, unplaced_stmt, unplaced_stmts}
use Rattle.pb_program.specs.declared.meaning.Meaning.TheVariants as meaning
use Rattle.pb_program.specs.Places.{unplaced_named, unplaced_local_term, unplaced_local_form, unplaced_value, unplaced_values, unplaced_operand_values, unplaced_statement, unplaced_statements}
use Rattle.pb_program.proofs.Kept.{joined, flat_kept, made_kept}
use Rattle.pb_names.specs.declared.fault.Fault.{Fault}
use Rattle.pb_names.specs.Faults.{duplicate, unknown, not_bound, bad_output}
use Rattle.pb_names.specs.Unplaced.{unplaced_fault}
use Rattle.pb_names.specs.Turns.{after_turns, turns, turn_faults}
use Rattle.pb_names.specs.Bodies.{Visible, named, use_faults, declared_faults, called_faults, expr_of, exprs_of, operands_of, expr_faults, exprs_faults, operands_faults, term_of, term_faults, local_form, form_faults, after, stmt_of, stmts_of, stmt_faults, stmts_faults, declare}

-- items in turn
module _ {A : Type 0} (u : A → A) where
  module _ {S : Type 0} (next : S → A → S) (next_kept : (s : S) (x : A) → next s (u x) ≡ next s x) where
    pub after_kept : (s : S) (xs : List A) → after_turns next s (map u xs) ≡ after_turns next s xs
    after_kept s [] = refl
    after_kept s (x ∷ xs) = ap (λ t. after_turns next t (map u xs)) (next_kept s x) ∙ after_kept (next s x) xs

    pub turns_kept : {B : Type 0} (g : B → B) (made : S → A → B) → ((s : S) (x : A) → made s (u x) ≡ g (made s x)) → (s : S) (xs : List A) → turns next made s (map u xs) ≡ map g (turns next made s xs)
    turns_kept g made e s [] = refl
    turns_kept g made e s (x ∷ xs) = rw (e s x, next_kept s x, turns_kept g made e (next s x) xs) refl

    pub faults_kept : (faults : S → A → List Fault) → ((s : S) (x : A) → faults s (u x) ≡ map unplaced_fault (faults s x)) → (s : S) (xs : List A)
        → turn_faults next faults s (map u xs) ≡ map unplaced_fault (turn_faults next faults s xs)
    faults_kept faults e s [] = refl
    faults_kept faults e s (x ∷ xs) = joined unplaced_fault _ _ (e s x) (ap (λ t. turn_faults next faults t (map u xs)) (next_kept s x) ∙ faults_kept faults e (next s x) xs)

-- faults of a name
pub duplicate_kept : (b : Bool) (n : NameValue) → duplicate b (unplaced_name n) ≡ map unplaced_fault (duplicate b n)
duplicate_kept true n = refl
duplicate_kept false n = refl

pub unknown_kept : (b : Bool) (n : NameValue) → unknown b (unplaced_name n) ≡ map unplaced_fault (unknown b n)
unknown_kept true n = refl
unknown_kept false n = refl

pub not_bound_kept : (b : Bool) (n : NameValue) → not_bound b (unplaced_name n) ≡ map unplaced_fault (not_bound b n)
not_bound_kept true n = refl
not_bound_kept false n = refl

pub bad_output_kept : (b : Bool) (n : NameValue) → bad_output b (unplaced_name n) ≡ map unplaced_fault (bad_output b n)
bad_output_kept true n = refl
bad_output_kept false n = refl

pub optional_faults : (h : NameValue → List Fault) → ((n : NameValue) → h (unplaced_name n) ≡ map unplaced_fault (h n)) → (n : Option NameValue)
    → option_map_or h (unplaced_option n) [] ≡ map unplaced_fault (option_map_or h n [])
optional_faults h e None = refl
optional_faults h e (Some n) = e n

use_kept : (v : Visible) (n : NameValue) → use_faults v (unplaced_name n) ≡ map unplaced_fault (use_faults v n)
use_kept v n = unknown_kept _ n

called_kept : (v : Visible) (n : NameValue) → called_faults v (unplaced_name n) ≡ map unplaced_fault (called_faults v n)
called_kept v n = unknown_kept _ n

declared_kept : (v : Visible) (n : NameValue) → declared_faults v (unplaced_name n) ≡ map unplaced_fault (declared_faults v n)
declared_kept v n = duplicate_kept _ n

-- expressions
mutual
  value_kept : (v : Visible) (x : ExprTree) → expr_of v (unplaced_expr x) ≡ unplaced_value (expr_of v x)
  value_kept v (text.number at n) = refl
  value_kept v (text.name n) = refl
  value_kept v (text.call n xs) = rw (values_kept v xs) refl
  value_kept v (text.parentheses at x) = rw (value_kept v x) refl
  value_kept v (text.cell n xs) = rw (values_kept v xs) refl
  value_kept v (text.width n) = refl
  value_kept v (text.height n) = refl
  value_kept v (text.signed at sign x) = rw (value_kept v x) refl
  value_kept v (text.chain level x rest) = rw (value_kept v x, operand_values_kept v rest) refl
  value_kept v (text.compare x relation y) = rw (value_kept v x, value_kept v y) refl

  values_kept : (v : Visible) (xs : ExprTrees) → exprs_of v (unplaced_exprs xs) ≡ unplaced_values (exprs_of v xs)
  values_kept v text.no_exprs = refl
  values_kept v (text.an_expr x rest) = rw (value_kept v x, values_kept v rest) refl

  operand_values_kept : (v : Visible) (xs : Operands) → operands_of v (unplaced_operands xs) ≡ unplaced_operand_values (operands_of v xs)
  operand_values_kept v text.no_operands = refl
  operand_values_kept v (text.an_operand o x rest) = rw (value_kept v x, operand_values_kept v rest) refl

mutual
  expr_kept : (v : Visible) (x : ExprTree) → expr_faults v (unplaced_expr x) ≡ map unplaced_fault (expr_faults v x)
  expr_kept v (text.number at n) = refl
  expr_kept v (text.name n) = use_kept v n
  expr_kept v (text.call n xs) = joined unplaced_fault _ _ (called_kept v n) (exprs_kept v xs)
  expr_kept v (text.parentheses at x) = expr_kept v x
  expr_kept v (text.cell n xs) = joined unplaced_fault _ _ (use_kept v n) (exprs_kept v xs)
  expr_kept v (text.width n) = use_kept v n
  expr_kept v (text.height n) = use_kept v n
  expr_kept v (text.signed at sign x) = expr_kept v x
  expr_kept v (text.chain level x rest) = joined unplaced_fault _ _ (expr_kept v x) (operands_kept v rest)
  expr_kept v (text.compare x relation y) = joined unplaced_fault _ _ (expr_kept v x) (expr_kept v y)

  exprs_kept : (v : Visible) (xs : ExprTrees) → exprs_faults v (unplaced_exprs xs) ≡ map unplaced_fault (exprs_faults v xs)
  exprs_kept v text.no_exprs = refl
  exprs_kept v (text.an_expr x rest) = joined unplaced_fault _ _ (expr_kept v x) (exprs_kept v rest)

  operands_kept : (v : Visible) (xs : Operands) → operands_faults v (unplaced_operands xs) ≡ map unplaced_fault (operands_faults v xs)
  operands_kept v text.no_operands = refl
  operands_kept v (text.an_operand o x rest) = joined unplaced_fault _ _ (expr_kept v x) (operands_kept v rest)

args_kept : (v : Visible) (xs : List ExprTree) → flat_map (expr_faults v) (map unplaced_expr xs) ≡ map unplaced_fault (flat_map (expr_faults v) xs)
args_kept v xs = flat_kept unplaced_expr unplaced_fault (expr_faults v) (expr_faults v) (expr_kept v) xs

arg_values_kept : (v : Visible) (xs : List ExprTree) → map (expr_of v) (map unplaced_expr xs) ≡ map unplaced_value (map (expr_of v) xs)
arg_values_kept v xs = made_kept unplaced_expr unplaced_value (expr_of v) (expr_of v) (value_kept v) xs

-- dimensions of local matrices
named_option : (v : Visible) (n : Option NameValue) → option_map (named v) (unplaced_option n) ≡ option_map unplaced_named (option_map (named v) n)
named_option v None = refl
named_option v (Some n) = refl

local_term_kept : (v : Visible) (t : TermText) → term_of v (unplaced_term t) ≡ unplaced_local_term (term_of v t)
local_term_kept v t = rw (named_option v t.name) refl

local_form_kept : (v : Visible) (f : FormValue) → local_form v (unplaced_form f) ≡ unplaced_local_form (local_form v f)
local_form_kept v f = rw (made_kept unplaced_term unplaced_local_term (term_of v) (term_of v) (local_term_kept v) f.terms) refl

term_kept : (v : Visible) (t : TermText) → term_faults v (unplaced_term t) ≡ map unplaced_fault (term_faults v t)
term_kept v t = optional_faults (use_faults v) (use_kept v) t.name

form_kept : (v : Visible) (f : FormValue) → form_faults v (unplaced_form f) ≡ map unplaced_fault (form_faults v f)
form_kept v f = flat_kept unplaced_term unplaced_fault (term_faults v) (term_faults v) (term_kept v) f.terms

-- statements
pub seen_kept : (v : Visible) (s : StmtTree) → after v (unplaced_stmt s) ≡ after v s
seen_kept v (text_stmt.let_number at n x) = refl
seen_kept v (text_stmt.let_matrix at n dims) = refl
seen_kept v (text_stmt.assign n x) = refl
seen_kept v (text_stmt.call_stmt ns n xs) = refl
seen_kept v (text_stmt.assign_cell n xs x) = refl
seen_kept v (text_stmt.if_stmt at x ss) = refl
seen_kept v (text_stmt.if_else at x ss others) = refl
seen_kept v (text_stmt.for_stmt at n x y ss) = refl

names_kept : (v : Visible) (ns : List NameValue) → map (named v) (map unplaced_name ns) ≡ map unplaced_named (map (named v) ns)
names_kept v ns = made_kept unplaced_name unplaced_named (named v) (named v) (λ n. refl) ns

mutual
  pub statement_kept : (v : Visible) (s : StmtTree) → stmt_of v (unplaced_stmt s) ≡ unplaced_statement (stmt_of v s)
  statement_kept v (text_stmt.let_number at n x) = rw (value_kept v x) refl
  statement_kept v (text_stmt.let_matrix at n dims) = rw (made_kept unplaced_form unplaced_local_form (local_form v) (local_form v) (local_form_kept v) dims) refl
  statement_kept v (text_stmt.assign n x) = rw (value_kept v x) refl
  statement_kept v (text_stmt.call_stmt ns n xs) = rw (names_kept v ns, arg_values_kept v xs) refl
  statement_kept v (text_stmt.assign_cell n xs x) = rw (arg_values_kept v xs, value_kept v x) refl
  statement_kept v (text_stmt.if_stmt at x ss) = rw (value_kept v x, statements_kept v ss) refl
  statement_kept v (text_stmt.if_else at x ss others) = rw (value_kept v x, statements_kept v ss, statements_kept v others) refl
  statement_kept v (text_stmt.for_stmt at n x y ss) = rw (value_kept v x, value_kept v y, statements_kept (declare v n meaning.Number) ss) refl

  statements_kept : (v : Visible) (ss : StmtTrees) → stmts_of v (unplaced_stmts ss) ≡ unplaced_statements (stmts_of v ss)
  statements_kept v text_stmt.no_stmts = refl
  statements_kept v (text_stmt.a_stmt s rest) = rw (statement_kept v s, seen_kept v s, statements_kept (after v s) rest) refl

mutual
  pub stmt_kept : (v : Visible) (s : StmtTree) → stmt_faults v (unplaced_stmt s) ≡ map unplaced_fault (stmt_faults v s)
  stmt_kept v (text_stmt.let_number at n x) = joined unplaced_fault _ _ (declared_kept v n) (expr_kept v x)
  stmt_kept v (text_stmt.let_matrix at n dims) = joined unplaced_fault _ _ (declared_kept v n) (flat_kept unplaced_form unplaced_fault (form_faults v) (form_faults v) (form_kept v) dims)
  stmt_kept v (text_stmt.assign n x) = joined unplaced_fault _ _ (use_kept v n) (expr_kept v x)
  stmt_kept v (text_stmt.call_stmt ns n xs) =
      joined unplaced_fault _ _ (flat_kept unplaced_name unplaced_fault (use_faults v) (use_faults v) (use_kept v) ns) (joined unplaced_fault _ _ (called_kept v n) (args_kept v xs))
  stmt_kept v (text_stmt.assign_cell n xs x) = joined unplaced_fault _ _ (use_kept v n) (joined unplaced_fault _ _ (args_kept v xs) (expr_kept v x))
  stmt_kept v (text_stmt.if_stmt at x ss) = joined unplaced_fault _ _ (expr_kept v x) (stmts_kept v ss)
  stmt_kept v (text_stmt.if_else at x ss others) = joined unplaced_fault _ _ (expr_kept v x) (joined unplaced_fault _ _ (stmts_kept v ss) (stmts_kept v others))
  stmt_kept v (text_stmt.for_stmt at n x y ss) =
      joined unplaced_fault _ _ (declared_kept v n) (joined unplaced_fault _ _ (expr_kept v x) (joined unplaced_fault _ _ (expr_kept v y) (stmts_kept (declare v n meaning.Number) ss)))

  stmts_kept : (v : Visible) (ss : StmtTrees) → stmts_faults v (unplaced_stmts ss) ≡ map unplaced_fault (stmts_faults v ss)
  stmts_kept v text_stmt.no_stmts = refl
  stmts_kept v (text_stmt.a_stmt s rest) = joined unplaced_fault _ _ (stmt_kept v s) (ap (λ w. stmts_faults w (unplaced_stmts rest)) (seen_kept v s) ∙ stmts_kept (after v s) rest)
