-- Want of memory is no fault of a tree.
use Rattle.std.proofs.Common.{ℕ, Bool, true, false, List, [], ◌∷◌, ◌++◌, Option, Some, None}
use Rattle.std.specs.List.{AllByRecursion, flat_map}
use Rattle.std.specs.Option.{option_map_or}
use Rattle.pb_values.specs.Name.{NameValue}
use Rattle.pb_syntax.specs.Exprs.{ExprTree, ExprTrees, Operands}
use Rattle.pb_syntax.specs.Exprs as text
use Rattle.pb_syntax.specs.Stmts.{StmtTree, StmtTrees}
use Rattle.pb_syntax.specs.Stmts as text_stmt
use Rattle.pb_syntax.specs.Forms.{FormValue, DeclValue as DeclText}
use Rattle.pb_syntax.specs.Trees.{RuleTree, TransformTree}
use Rattle.pb_syntax.specs.declared.refusal.Refusal.TheVariants as refusal
use Rattle.pb_syntax.specs.declared.tree.view.UseText.{UseText}
use Rattle.pb_program.specs.declared.meaning.Meaning.TheVariants as meaning
use Rattle.pb_names.specs.declared.fault.Fault.{Fault}
use Rattle.pb_names.specs.declared.fault.Fault.TheVariants.{Duplicate, Unknown, NotBound, BadOutput, Memory}
use Rattle.pb_names.specs.declared.matrices.Matrix.{Matrix}
use Rattle.pb_names.specs.Faults.{duplicate, unknown, not_bound, bad_output}
use Rattle.pb_names.specs.Turns.{turn_faults}
use Rattle.pb_names.specs.Bodies.{Visible, after, declare, expr_faults, exprs_faults, operands_faults, form_faults, term_faults, use_faults, stmt_faults, stmts_faults}
use Rattle.pb_names.specs.Views.{Matrices, Place, after_out, after_read, binders, cond_faults, coordinates_faults, forms_of, out_faults_at, read_faults_at, start, variables_faults, view_form_faults, view_term_faults}
use Rattle.pb_names.specs.Rules.{inner, is_single, rule_faults}
use Rattle.pb_names.specs.Transforms.{all_names, between, decls_faults, faults_of, given, header_form_faults, header_term_faults, matrices_of, matrix_faults, minimum_faults, named_faults, next_matrix, next_minimum, next_transform, seen, transform_faults, IsRefused, IsRefusedFor}

abbrev IsTold : Fault → Type 0
IsTold Memory = ⊥
IsTold other = Unit {0}

record AreTold (fs : List Fault) : Type 0 where
  told : AllByRecursion IsTold fs

none : AreTold []
none = record { told = tt }

both_are : (xs ys : List Fault) → AllByRecursion IsTold xs → AllByRecursion IsTold ys → AllByRecursion IsTold (xs ++ ys)
both_are [] ys a b = b
both_are (x ∷ xs) ys a b = (a.0, both_are xs ys a.1 b)

both : (xs ys : List Fault) → AreTold xs → AreTold ys → AreTold (xs ++ ys)
both xs ys a b = record { told = both_are xs ys a.told b.told }

each : {A : Type 0} (f : A → List Fault) → ((x : A) → AreTold (f x)) → (xs : List A) → AreTold (flat_map f xs)
each f h [] = none
each f h (x ∷ xs) = both (f x) (flat_map f xs) (h x) (each f h xs)

in_turn : {S A : Type 0} (next : S → A → S) (f : S → A → List Fault) → ((s : S) (x : A) → AreTold (f s x)) → (s : S) (xs : List A) → AreTold (turn_faults next f s xs)
in_turn next f h s [] = none
in_turn next f h s (x ∷ xs) = both (f s x) (turn_faults next f (next s x) xs) (h s x) (in_turn next f h (next s x) xs)

optional : (f : NameValue → List Fault) → ((n : NameValue) → AreTold (f n)) → (n : Option NameValue) → AreTold (option_map_or f n [])
optional f h None = none
optional f h (Some n) = h n

duplicate_told : (b : Bool) (n : NameValue) → AreTold (duplicate b n)
duplicate_told true n = record { told = (tt, tt) }
duplicate_told false n = none

unknown_told : (b : Bool) (n : NameValue) → AreTold (unknown b n)
unknown_told true n = record { told = (tt, tt) }
unknown_told false n = none

not_bound_told : (b : Bool) (n : NameValue) → AreTold (not_bound b n)
not_bound_told true n = record { told = (tt, tt) }
not_bound_told false n = none

bad_output_told : (b : Bool) (n : NameValue) → AreTold (bad_output b n)
bad_output_told true n = record { told = (tt, tt) }
bad_output_told false n = none

mutual
  expr_told : (v : Visible) (x : ExprTree) → AreTold (expr_faults v x)
  expr_told v (text.number at n) = none
  expr_told v (text.name n) = unknown_told _ n
  expr_told v (text.call n xs) = both _ _ (unknown_told _ n) (exprs_told v xs)
  expr_told v (text.parentheses at x) = expr_told v x
  expr_told v (text.cell n xs) = both _ _ (unknown_told _ n) (exprs_told v xs)
  expr_told v (text.width n) = unknown_told _ n
  expr_told v (text.height n) = unknown_told _ n
  expr_told v (text.signed at sign x) = expr_told v x
  expr_told v (text.chain level x rest) = both _ _ (expr_told v x) (operands_told v rest)
  expr_told v (text.compare x relation y) = both _ _ (expr_told v x) (expr_told v y)

  exprs_told : (v : Visible) (xs : ExprTrees) → AreTold (exprs_faults v xs)
  exprs_told v text.no_exprs = none
  exprs_told v (text.an_expr x rest) = both _ _ (expr_told v x) (exprs_told v rest)

  operands_told : (v : Visible) (xs : Operands) → AreTold (operands_faults v xs)
  operands_told v text.no_operands = none
  operands_told v (text.an_operand o x rest) = both _ _ (expr_told v x) (operands_told v rest)

form_told : (v : Visible) (f : FormValue) → AreTold (form_faults v f)
form_told v f = each (term_faults v) (λ t. optional (use_faults v) (λ n. unknown_told _ n) t.name) f.terms

args_told : (v : Visible) (xs : List ExprTree) → AreTold (flat_map (expr_faults v) xs)
args_told v xs = each (expr_faults v) (expr_told v) xs

mutual
  stmt_told : (v : Visible) (s : StmtTree) → AreTold (stmt_faults v s)
  stmt_told v (text_stmt.let_number at n x) = both _ _ (duplicate_told _ n) (expr_told v x)
  stmt_told v (text_stmt.let_matrix at n dims) = both _ _ (duplicate_told _ n) (each (form_faults v) (form_told v) dims)
  stmt_told v (text_stmt.assign n x) = both _ _ (unknown_told _ n) (expr_told v x)
  stmt_told v (text_stmt.call_stmt ns n xs) = both _ _ (each (use_faults v) (λ m. unknown_told _ m) ns) (both _ _ (unknown_told _ n) (args_told v xs))
  stmt_told v (text_stmt.assign_cell n xs x) = both _ _ (unknown_told _ n) (both _ _ (args_told v xs) (expr_told v x))
  stmt_told v (text_stmt.if_stmt at x ss) = both _ _ (expr_told v x) (stmts_told v ss)
  stmt_told v (text_stmt.if_else at x ss others) = both _ _ (expr_told v x) (both _ _ (stmts_told v ss) (stmts_told v others))
  stmt_told v (text_stmt.for_stmt at n x y ss) = both _ _ (duplicate_told _ n) (both _ _ (expr_told v x) (both _ _ (expr_told v y) (stmts_told (declare v n meaning.Number) ss)))

  stmts_told : (v : Visible) (ss : StmtTrees) → AreTold (stmts_faults v ss)
  stmts_told v text_stmt.no_stmts = none
  stmts_told v (text_stmt.a_stmt s rest) = both _ _ (stmt_told v s) (stmts_told (after v s) rest)

-- views
view_form_told : (v : Visible) (f : FormValue) → AreTold (view_form_faults v f)
view_form_told v f = each (view_term_faults v) (λ t. optional _ (λ n. unknown_told _ n) t.name) f.terms

variables_told : (ms : Matrices) (v : Visible) (ns : List NameValue) → AreTold (variables_faults ms v ns)
variables_told ms v [] = none
variables_told ms v (x ∷ []) = duplicate_told _ x
variables_told ms v (x ∷ y ∷ ns) = both _ _ (duplicate_told _ x) (duplicate_told _ y)

coordinates_told : (ms : Matrices) (v : Visible) (u : UseText) (ns : List NameValue) → AreTold (coordinates_faults ms v u ns)
coordinates_told ms v u [] = each (view_form_faults v) (view_form_told v) (forms_of u.view)
coordinates_told ms v u (n ∷ ns) = variables_told ms v (n ∷ ns)

out_told : (ms : Matrices) (single : Bool) (p : Place) (u : UseText) → AreTold (out_faults_at ms single p u)
out_told ms single p u =
    both _ _ (both _ _ (unknown_told _ u.matrix) (both _ _ (bad_output_told _ u.matrix) (coordinates_told ms p.visible u (binders p.visible u)))) (duplicate_told _ u.bound)

read_told : (ms : Matrices) (p : Place) (u : UseText) → AreTold (read_faults_at ms p u)
read_told ms p u = both _ _ (both _ _ (unknown_told _ u.matrix) (each (view_form_faults p.visible) (view_form_told p.visible) (forms_of u.view))) (duplicate_told _ u.bound)

rule_told : (ms : Matrices) (v : Visible) (r : RuleTree) → AreTold (rule_faults ms v r)
rule_told ms v r = both _ _ (in_turn after_out (out_faults_at ms (is_single r.outs)) (out_told ms (is_single r.outs)) (start v) r.outs)
    (both _ _ (in_turn after_read (read_faults_at ms) (read_told ms) _ r.reads)
    (both _ _ (each (cond_faults (inner v r)) (λ c. both _ _ (view_form_told (inner v r) c.left) (view_form_told (inner v r) c.right)) r.conds)
    (in_turn after stmt_faults stmt_told (inner v r) r.body)))

-- transforms
header_form_told : (v : Visible) (f : FormValue) → AreTold (header_form_faults v f)
header_form_told v f = each (header_term_faults v) (λ t. optional _ (λ n. not_bound_told _ n) t.name) f.terms

matrix_told : (v : Visible) (known : List (List ℕ × Matrix)) (d : DeclText) → AreTold (matrix_faults v known d)
matrix_told v known d = both _ _ (duplicate_told _ d.name) (each (header_form_faults v) (header_form_told v) d.dims)

decls_told : (v : Visible) (t : TransformTree) → AreTold (decls_faults v t)
decls_told v t = both _ _ (in_turn next_matrix (matrix_faults v) (matrix_told v) [] t.from)
    (both _ _ (in_turn next_matrix (matrix_faults v) (matrix_told v) (given t) t.through) (in_turn next_matrix (matrix_faults v) (matrix_told v) (between t) t.to))

transform_told : (all : List (List ℕ × ℕ)) (t : TransformTree) → AreTold (transform_faults all t)
transform_told all t = both _ _ (in_turn next_minimum (minimum_faults (seen all t)) (λ known m. both _ _ (duplicate_told _ m.0) (not_bound_told _ m.0)) [] t.minimums)
    (both _ _ (decls_told (seen all t) t) (each (rule_faults (matrices_of t) (seen all t)) (rule_told (matrices_of t) (seen all t)) t.rules))

all_told : (ts : List TransformTree) → AreTold (faults_of ts)
all_told ts = in_turn next_transform (named_faults (all_names ts)) (λ known t. both _ _ (duplicate_told _ t.name) (transform_told (all_names ts) t)) [] ts

no_memory : (fs : List Fault) → AllByRecursion IsTold fs → IsRefusedFor fs refusal.Memory → ⊥
no_memory [] told e = e
no_memory (Duplicate n ∷ fs) told e = cc
no_memory (Unknown n ∷ fs) told e = cc
no_memory (NotBound n ∷ fs) told e = cc
no_memory (BadOutput at ∷ fs) told e = cc
no_memory (Memory ∷ fs) told e = told.0

-- no tree is refused for want of memory
pub never_memory : (tree : List TransformTree) → IsRefused tree refusal.Memory → ⊥
never_memory tree h = no_memory (faults_of tree) (all_told tree).told h
