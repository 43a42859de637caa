-- What names are, and what is wrong with them, doesn't depend on the places of a tree: rules, transforms and programs.
use Rattle.std.proofs.Common.{◌≡◌, ℕ, ◌+◌, Bool, true, false, if◌then◌else◌, List, [], ◌∷◌, ◌++◌, map, Option, Some, None, is_some, filter, refl, sym, ap, ◌∙◌}
use Rattle.std.specs.Prelude.{slice_get}
use Rattle.std.proofs.lemmas.List.{map-append}
use Rattle.std.proofs.lemmas.Option.{slice_get-map}
use Rattle.std.specs.List.{list_any}
use Rattle.std.specs.Option.{option_map}
use Rattle.pb_values.specs.Name.{NameValue}
use Rattle.pb_syntax.specs.Limits.{alone}
use Rattle.pb_syntax.specs.Forms.{FormValue, DeclValue as DeclText}
use Rattle.pb_syntax.specs.Stmts.{StmtTree}
use Rattle.pb_syntax.specs.Stmts as text
use Rattle.pb_syntax.specs.Trees.{RuleTree, TransformTree}
use Rattle.pb_syntax.specs.declared.tree.form.TermText.{TermText}
use Rattle.pb_syntax.specs.declared.tree.view.UseText.{UseText}
use Rattle.pb_syntax.specs.Places.{unplaced, unplaced_name, unplaced_option, unplaced_minimum, unplaced_term, unplaced_form, unplaced_decl, unplaced_use, unplaced_cond, unplaced_stmt, unplaced_rule, unplaced_transform}
use Rattle.pb_program.specs.declared.meaning.Meaning.{Meaning}
use Rattle.pb_program.specs.Exprs.{ExprValue, ExprValues, OperandValues, number, name, call, parentheses, cell, width, height, signed, chain, compare, no_exprs, an_expr, no_operands, an_operand}
use Rattle.pb_program.specs.Stmts.{StmtValue, StmtValues, let_number, let_matrix, assign, call_stmt, assign_cell, if_stmt, if_else, for_stmt, no_stmts, a_stmt, stmts}
use Rattle.pb_program.specs.declared.meaning.Named.{Named}
use Rattle.pb_program.specs.Forms.{DeclValue}
use Rattle.pb_program.specs.Plans.{PlanCallValue, all_some, argument_slot, argument_slots, target_slots, slot_of, call_of, called_by, calls_of, is_call, items, transform_call}
use Rattle.pb_program.specs.Places.{unplaced_named, unplaced_value, unplaced_values, unplaced_operand_values, unplaced_statement, unplaced_statements, unplaced_matrix, unplaced_plan, unplaced_prog_rule, unplaced_prog_transform, unplaced_prog}
use Rattle.pb_names.specs.declared.matrices.Matrix.{Matrix}
use Rattle.pb_names.specs.Unplaced.{unplaced_fault}
use Rattle.pb_names.specs.Names.{look}
use Rattle.pb_names.specs.Turns.{after_turns, turns, turn_faults}
use Rattle.pb_names.specs.Kinds.{calls, some_calls, some_operand_calls, plans, some_plans}
use Rattle.pb_names.specs.Bodies.{Visible, after, stmt_of, stmt_faults}
use Rattle.pb_names.specs.Views.{Matrices, after_outs, binders, cond_of, cond_faults, has_names}
use Rattle.pb_names.specs.Rules.{body_of, decl_of, inner, is_cell, is_plan, is_single, local_of, locals_of, plan_by, rule_faults, rule_of}
use Rattle.pb_names.specs.Transforms.{Minimums, all_matrices, all_names, between, count_of, decls_faults, decls_of, entries, faults_of, first_names, given, header_faults, header_form_faults, header_term_faults, least_at, least_by, matrices_of, matrix_faults, matrix_of, minimum_faults, minimums_of, named_faults, next_matrix, next_minimum, next_transform, program_of, put_size, ranges_of, seen, sizes, sizes_in, sizes_of, transform_faults, transform_of}
use Rattle.pb_program.proofs.Kept.{joined, flat_kept, made_kept, same_kept, length_kept}
use Rattle.pb_program.proofs.UnplacedLists.{items_kept, listed_kept}
use Rattle.pb_names.proofs.UnplacedBodies.{after_kept, turns_kept, faults_kept, duplicate_kept, not_bound_kept, optional_faults, seen_kept, statement_kept, stmt_kept}
use Rattle.pb_names.proofs.UnplacedViews.{collected_kept, alone_is, binders_kept, has_kept, outs_kept, outs_faults_kept, seen_after_outs, reads_kept, reads_faults_kept, seen_after_reads, cond_kept, cond_faults_kept}

-- the kind of a rule
mutual
  calls_kept : (x : ExprValue) → calls (unplaced_value x) ≡ calls x
  calls_kept (number at n) = refl
  calls_kept (name n) = refl
  calls_kept (call c xs) = rw (some_calls_kept xs) refl
  calls_kept (parentheses at x) = calls_kept x
  calls_kept (cell v xs) = some_calls_kept xs
  calls_kept (width v) = refl
  calls_kept (height v) = refl
  calls_kept (signed at sign x) = calls_kept x
  calls_kept (chain level x rest) = rw (calls_kept x, operand_calls_kept rest) refl
  calls_kept (compare x relation y) = rw (calls_kept x, calls_kept y) refl

  some_calls_kept : (xs : ExprValues) → some_calls (unplaced_values xs) ≡ some_calls xs
  some_calls_kept no_exprs = refl
  some_calls_kept (an_expr x rest) = rw (calls_kept x, some_calls_kept rest) refl

  operand_calls_kept : (xs : OperandValues) → some_operand_calls (unplaced_operand_values xs) ≡ some_operand_calls xs
  operand_calls_kept no_operands = refl
  operand_calls_kept (an_operand o x rest) = rw (calls_kept x, operand_calls_kept rest) refl

any_calls_kept : (xs : List ExprValue) → list_any calls (map unplaced_value xs) ≡ list_any calls xs
any_calls_kept [] = refl
any_calls_kept (x ∷ xs) = rw (calls_kept x, any_calls_kept xs) refl

mutual
  plans_kept : (x : StmtValue) → plans (unplaced_statement x) ≡ plans x
  plans_kept (let_number at n x) = calls_kept x
  plans_kept (let_matrix at n dims) = refl
  plans_kept (assign n x) = calls_kept x
  plans_kept (call_stmt ns c xs) = rw (any_calls_kept xs) refl
  plans_kept (assign_cell n xs x) = rw (any_calls_kept xs, calls_kept x) refl
  plans_kept (if_stmt at x ss) = rw (calls_kept x, some_plans_kept ss) refl
  plans_kept (if_else at x ss others) = rw (calls_kept x, some_plans_kept ss, some_plans_kept others) refl
  plans_kept (for_stmt at n x y ss) = rw (calls_kept x, calls_kept y, some_plans_kept ss) refl

  some_plans_kept : (ss : StmtValues) → some_plans (unplaced_statements ss) ≡ some_plans ss
  some_plans_kept no_stmts = refl
  some_plans_kept (a_stmt x rest) = rw (plans_kept x, some_plans_kept rest) refl

body_plans_kept : (ss : List StmtValue) → some_plans (stmts (map unplaced_statement ss)) ≡ some_plans (stmts ss)
body_plans_kept ss = ap some_plans (listed_kept ss) ∙ some_plans_kept (stmts ss)

-- the calls of a plan
all_kept : {A B : Type 0} (u : A → A) (f : A → Option B) → ((x : A) → f (u x) ≡ f x) → (xs : List A) → all_some f (map u xs) ≡ all_some f xs
all_kept u f e [] = refl
all_kept u f e (x ∷ xs) = rw (e x, all_kept u f e xs) refl

targets_kept : (ns : List Named) → target_slots (map unplaced_named ns) ≡ target_slots ns
targets_kept ns = all_kept unplaced_named (λ n. slot_of n.what) (λ n. refl) ns

argument_kept : (x : ExprValue) → argument_slot (unplaced_value x) ≡ argument_slot x
argument_kept (number at n) = refl
argument_kept (name n) = refl
argument_kept (call c xs) = refl
argument_kept (parentheses at x) = refl
argument_kept (cell v xs) = refl
argument_kept (width v) = refl
argument_kept (height v) = refl
argument_kept (signed at sign x) = refl
argument_kept (chain level x rest) = refl
argument_kept (compare x relation y) = refl

arguments_kept : (xs : List ExprValue) → argument_slots (map unplaced_value xs) ≡ argument_slots xs
arguments_kept xs = all_kept unplaced_value argument_slot argument_kept xs

called_kept : (n : Named) (x : ExprValue) → called_by (unplaced_named n) (unplaced_value x) ≡ called_by n x
called_kept n (number at k) = refl
called_kept n (name m) = refl
called_kept n (call c xs) = ap (transform_call c.what (target_slots (n ∷ []))) (ap argument_slots (items_kept xs) ∙ arguments_kept (items xs))
called_kept n (parentheses at x) = refl
called_kept n (cell v xs) = refl
called_kept n (width v) = refl
called_kept n (height v) = refl
called_kept n (signed at sign x) = refl
called_kept n (chain level x rest) = refl
called_kept n (compare x relation y) = refl

call_kept : (s : StmtValue) → call_of (unplaced_statement s) ≡ call_of s
call_kept (let_number at n x) = refl
call_kept (let_matrix at n dims) = refl
call_kept (assign n x) = called_kept n x
call_kept (call_stmt ns c xs) = rw (targets_kept ns, arguments_kept xs) refl
call_kept (assign_cell n xs x) = refl
call_kept (if_stmt at x ss) = refl
call_kept (if_else at x ss others) = refl
call_kept (for_stmt at n x y ss) = refl

calls_among : (ss : List StmtValue) → filter is_call (map unplaced_statement ss) ≡ map unplaced_statement (filter is_call ss)
calls_among [] = refl
calls_among (let_number at n x ∷ ss) = rw (calls_among ss) refl
calls_among (let_matrix at n dims ∷ ss) = calls_among ss
calls_among (assign n x ∷ ss) = rw (calls_among ss) refl
calls_among (call_stmt ns c xs ∷ ss) = rw (calls_among ss) refl
calls_among (assign_cell n xs x ∷ ss) = rw (calls_among ss) refl
calls_among (if_stmt at x ss ∷ rest) = rw (calls_among rest) refl
calls_among (if_else at x ss others ∷ rest) = rw (calls_among rest) refl
calls_among (for_stmt at n x y ss ∷ rest) = rw (calls_among rest) refl

plan_calls_kept : (ss : List StmtValue) → calls_of (map unplaced_statement ss) ≡ calls_of ss
plan_calls_kept ss = ap (all_some call_of) (calls_among ss) ∙ all_kept unplaced_statement call_of call_kept (filter is_call ss)

-- matrices
decl_kept : (names : List (List ℕ × Meaning)) (n : NameValue) (dims : List FormValue) → decl_of names (unplaced_name n) (map unplaced_form dims) ≡ unplaced_matrix (decl_of names n dims)
decl_kept names n [] = refl
decl_kept names n (w ∷ []) = rw (collected_kept names w) refl
decl_kept names n (w ∷ h ∷ rest) = rw (collected_kept names w, collected_kept names h) refl

local_kept : (names : List (List ℕ × Meaning)) (s : StmtTree) → local_of names (unplaced_stmt s) ≡ map unplaced_matrix (local_of names s)
local_kept names (text.let_number at n x) = refl
local_kept names (text.let_matrix at n dims) = rw (decl_kept names n dims) refl
local_kept names (text.assign n x) = refl
local_kept names (text.call_stmt ns n xs) = refl
local_kept names (text.assign_cell n xs x) = refl
local_kept names (text.if_stmt at x ss) = refl
local_kept names (text.if_else at x ss others) = refl
local_kept names (text.for_stmt at n x y ss) = refl

-- rules
body_kept : (v : Visible) (ss : List StmtTree) → body_of v (map unplaced_stmt ss) ≡ map unplaced_statement (body_of v ss)
body_kept v ss = turns_kept unplaced_stmt after seen_kept unplaced_statement stmt_of statement_kept v ss

inner_kept : (v : Visible) (r : RuleTree) → inner v (unplaced_rule r) ≡ inner v r
inner_kept v r = rw (seen_after_outs v r.outs, seen_after_reads (after_outs v r.outs) r.reads) refl

cell_kept : (v : Visible) (us : List UseText) → is_cell v (map unplaced_use us) ≡ is_cell v us
cell_kept v [] = refl
cell_kept v (u ∷ []) = ap has_names (binders_kept v u) ∙ has_kept (binders v u)
cell_kept v (u ∷ w ∷ us) = refl

single_kept : (us : List UseText) → is_single (map unplaced_use us) ≡ is_single us
single_kept [] = refl
single_kept (u ∷ []) = refl
single_kept (u ∷ w ∷ us) = refl

plan_kept : (b : Bool) (locals : List DeclValue) (found : Option (List PlanCallValue)) → plan_by b (map unplaced_matrix locals) found ≡ option_map unplaced_plan (plan_by b locals found)
plan_kept true locals None = refl
plan_kept true locals (Some cs) = refl
plan_kept false locals found = refl

is_plan_kept : (v : Visible) (r : RuleTree) → is_plan v (unplaced_rule r) ≡ is_plan v r
is_plan_kept v r = rw (inner_kept v r, body_kept (inner v r) r.body) (body_plans_kept (body_of (inner v r) r.body))

plan_of_kept : (v : Visible) (r : RuleTree) → plan_by (is_plan v (unplaced_rule r)) (locals_of (inner v (unplaced_rule r)).names (map unplaced_stmt r.body)) (calls_of (body_of (inner v (unplaced_rule r)) (map unplaced_stmt r.body)))
    ≡ option_map unplaced_plan (plan_by (is_plan v r) (locals_of (inner v r).names r.body) (calls_of (body_of (inner v r) r.body)))
plan_of_kept v r = rw (
  is_plan_kept v r,
  inner_kept v r,
  body_kept (inner v r) r.body,
  plan_calls_kept (body_of (inner v r) r.body),
  flat_kept unplaced_stmt unplaced_matrix (local_of (inner v r).names) (local_of (inner v r).names) (local_kept (inner v r).names) r.body,
) (plan_kept (is_plan v r) (locals_of (inner v r).names r.body) (calls_of (body_of (inner v r) r.body)))

pub rule_kept : (ms : Matrices) (v : Visible) (r : RuleTree) → rule_of ms v (unplaced_rule r) ≡ unplaced_prog_rule (rule_of ms v r)
rule_kept ms v r = rw (
  plan_of_kept v r,
  is_plan_kept v r,
  inner_kept v r,
  cell_kept v r.outs,
  outs_kept ms v r.outs,
  made_kept unplaced_use unplaced_name (λ (u : UseText). u.bound) (λ (u : UseText). u.bound) (λ u. refl) r.outs,
  seen_after_outs v r.outs,
  reads_kept ms (after_outs v r.outs) r.reads,
  same_kept unplaced_cond (cond_of (inner v r)) (cond_kept (inner v r)) r.conds,
  body_kept (inner v r) r.body,
) refl

pub rule_faults_kept : (ms : Matrices) (v : Visible) (r : RuleTree) → rule_faults ms v (unplaced_rule r) ≡ map unplaced_fault (rule_faults ms v r)
rule_faults_kept ms v r = rw (single_kept r.outs, inner_kept v r, seen_after_outs v r.outs) (joined unplaced_fault _ _ (outs_faults_kept ms (is_single r.outs) v r.outs)
    (joined unplaced_fault _ _ (reads_faults_kept ms (after_outs v r.outs) r.reads)
    (joined unplaced_fault _ _ (flat_kept unplaced_cond unplaced_fault (cond_faults (inner v r)) (cond_faults (inner v r)) (cond_faults_kept (inner v r)) r.conds)
    (faults_kept unplaced_stmt after seen_kept stmt_faults stmt_kept (inner v r) r.body))))

-- the sizes of a transform
entries_kept : (k : ℕ) (ns : List NameValue) → entries k (map unplaced_name ns) ≡ entries k ns
entries_kept k [] = refl
entries_kept k (n ∷ ns) = rw (entries_kept (k + 1) ns) refl

known_or : (b : Bool) (known : List NameValue) (n : NameValue) → (if b then map unplaced_name known else map unplaced_name known ++ unplaced_name n ∷ []) ≡ map unplaced_name (if b then known else known ++ n ∷ [])
known_or true known n = refl
known_or false known n = sym (map-append unplaced_name known (n ∷ []))

put_kept : (known : List NameValue) (n : Option NameValue) → put_size (map unplaced_name known) (unplaced_option n) ≡ map unplaced_name (put_size known n)
put_kept known None = refl
put_kept known (Some n) = rw (entries_kept 0 known) (known_or (is_some (look n.bytes (entries 0 known))) known n)

sizes_in_kept : (known : List NameValue) (fs : List FormValue) → sizes_in (map unplaced_name known) (map unplaced_form fs) ≡ map unplaced_name (sizes_in known fs)
sizes_in_kept known [] = refl
sizes_in_kept known (f ∷ fs) =
    ap (λ l. sizes_in l (map unplaced_form fs)) (ap (put_size (map unplaced_name known)) (alone_is f) ∙ put_kept known (alone f)) ∙ sizes_in_kept (put_size known (alone f)) fs

sizes_of_kept : (known : List NameValue) (ds : List DeclText) → sizes_of (map unplaced_name known) (map unplaced_decl ds) ≡ map unplaced_name (sizes_of known ds)
sizes_of_kept known [] = refl
sizes_of_kept known (d ∷ ds) = ap (λ l. sizes_of l (map unplaced_decl ds)) (sizes_in_kept known d.dims) ∙ sizes_of_kept (sizes_in known d.dims) ds

sizes_kept : (t : TransformTree) → sizes (unplaced_transform t) ≡ map unplaced_name (sizes t)
sizes_kept t = sizes_of_kept [] t.from

seen_in : (all : List (List ℕ × ℕ)) (t : TransformTree) → seen all (unplaced_transform t) ≡ seen all t
seen_in all t = rw (sizes_kept t, entries_kept 0 (sizes t)) refl

-- the header
header_kept : (v : Visible) (n : NameValue) → header_faults v (unplaced_name n) ≡ map unplaced_fault (header_faults v n)
header_kept v n = not_bound_kept _ n

header_term_kept : (v : Visible) (t : TermText) → header_term_faults v (unplaced_term t) ≡ map unplaced_fault (header_term_faults v t)
header_term_kept v t = optional_faults (header_faults v) (header_kept v) t.name

header_form_kept : (v : Visible) (f : FormValue) → header_form_faults v (unplaced_form f) ≡ map unplaced_fault (header_form_faults v f)
header_form_kept v f = flat_kept unplaced_term unplaced_fault (header_term_faults v) (header_term_faults v) (header_term_kept v) f.terms

minimums_kept : (t : TransformTree) → minimums_of (unplaced_transform t) ≡ minimums_of t
minimums_kept t = after_kept unplaced_minimum next_minimum (λ known m. refl) [] t.minimums

minimum_faults_kept : (v : Visible) (ms : List (NameValue × ℕ)) → turn_faults next_minimum (minimum_faults v) [] (map unplaced_minimum ms) ≡ map unplaced_fault (turn_faults next_minimum (minimum_faults v) [] ms)
minimum_faults_kept v ms =
    faults_kept unplaced_minimum next_minimum (λ known m. refl) (minimum_faults v) (λ known m. joined unplaced_fault _ _ (duplicate_kept _ m.0) (header_kept v m.0)) [] ms

least_kept : (known : Minimums) (n : Option NameValue) → least_by known (option_map unplaced_name n) ≡ least_by known n
least_kept known None = refl
least_kept known (Some n) = refl

least_at_kept : (known : Minimums) (ns : List NameValue) (k : ℕ) → least_at known (map unplaced_name ns) k ≡ least_at known ns k
least_at_kept known ns k = ap (least_by known) (slice_get-map unplaced_name ns k) ∙ least_kept known (slice_get ns k)

ranges_kept : (known : Minimums) (ns : List NameValue) → ranges_of known (map unplaced_name ns) ≡ ranges_of known ns
ranges_kept known ns = rw (
  length_kept unplaced_name ns,
  least_at_kept known ns 0,
  least_at_kept known ns 1,
  least_at_kept known ns 2,
  least_at_kept known ns 3,
  least_at_kept known ns 4,
  least_at_kept known ns 5,
  least_at_kept known ns 6,
  least_at_kept known ns 7,
) refl

-- the matrices
count_kept : (fs : List FormValue) → count_of (map unplaced_form fs) ≡ count_of fs
count_kept [] = refl
count_kept (w ∷ []) = refl
count_kept (w ∷ h ∷ rest) = refl

next_matrix_kept : (known : List (List ℕ × Matrix)) (d : DeclText) → next_matrix known (unplaced_decl d) ≡ next_matrix known d
next_matrix_kept known d = rw (count_kept d.dims) refl

given_kept : (t : TransformTree) → given (unplaced_transform t) ≡ given t
given_kept t = after_kept unplaced_decl next_matrix next_matrix_kept [] t.from

between_by : (t : TransformTree) → after_turns next_matrix (given t) (map unplaced_decl t.through) ≡ between t
between_by t = after_kept unplaced_decl next_matrix next_matrix_kept (given t) t.through

all_by : (t : TransformTree) → all_matrices (unplaced_transform t) ≡ all_matrices t
all_by t = rw (given_kept t, between_by t) (after_kept unplaced_decl next_matrix next_matrix_kept (between t) t.to)

matrices_kept : (t : TransformTree) → matrices_of (unplaced_transform t) ≡ matrices_of t
matrices_kept t = rw (all_by t, length_kept unplaced_decl t.from) refl

matrix_kept : (v : Visible) (known : List (List ℕ × Matrix)) (d : DeclText) → matrix_of v known (unplaced_decl d) ≡ unplaced_matrix (matrix_of v known d)
matrix_kept v known d = decl_kept v.names d.name d.dims

matrix_faults_kept : (v : Visible) (known : List (List ℕ × Matrix)) (d : DeclText) → matrix_faults v known (unplaced_decl d) ≡ map unplaced_fault (matrix_faults v known d)
matrix_faults_kept v known d = joined unplaced_fault _ _ (duplicate_kept _ d.name) (flat_kept unplaced_form unplaced_fault (header_form_faults v) (header_form_faults v) (header_form_kept v) d.dims)

module _ (v : Visible) (known : List (List ℕ × Matrix)) (ds : List DeclText) where
  some_decls : turns next_matrix (matrix_of v) known (map unplaced_decl ds) ≡ map unplaced_matrix (turns next_matrix (matrix_of v) known ds)
  some_decls = turns_kept unplaced_decl next_matrix next_matrix_kept unplaced_matrix (matrix_of v) (matrix_kept v) known ds

  some_decl_faults : turn_faults next_matrix (matrix_faults v) known (map unplaced_decl ds) ≡ map unplaced_fault (turn_faults next_matrix (matrix_faults v) known ds)
  some_decl_faults = faults_kept unplaced_decl next_matrix next_matrix_kept (matrix_faults v) (matrix_faults_kept v) known ds

decls_kept : (v : Visible) (t : TransformTree) → decls_of v (unplaced_transform t) ≡ map unplaced_matrix (decls_of v t)
decls_kept v t = rw (given_kept t, between_by t)
    (joined unplaced_matrix _ _ (joined unplaced_matrix _ _ (some_decls v [] t.from) (some_decls v (given t) t.through)) (some_decls v (between t) t.to))

decls_faults_kept : (v : Visible) (t : TransformTree) → decls_faults v (unplaced_transform t) ≡ map unplaced_fault (decls_faults v t)
decls_faults_kept v t = rw (given_kept t, between_by t)
    (joined unplaced_fault _ _ (some_decl_faults v [] t.from) (joined unplaced_fault _ _ (some_decl_faults v (given t) t.through) (some_decl_faults v (between t) t.to)))

-- transforms
transform_kept : (all : List (List ℕ × ℕ)) (t : TransformTree) → transform_of all (unplaced_transform t) ≡ unplaced_prog_transform (transform_of all t)
transform_kept all t = rw (
  seen_in all t,
  minimums_kept t,
  sizes_kept t,
  ranges_kept (minimums_of t) (sizes t),
  decls_kept (seen all t) t,
  matrices_kept t,
  length_kept unplaced_decl t.from,
  length_kept unplaced_decl t.through,
  made_kept unplaced_rule unplaced_prog_rule (rule_of (matrices_of t) (seen all t)) (rule_of (matrices_of t) (seen all t)) (rule_kept (matrices_of t) (seen all t)) t.rules,
) refl

transform_faults_kept : (all : List (List ℕ × ℕ)) (t : TransformTree) → transform_faults all (unplaced_transform t) ≡ map unplaced_fault (transform_faults all t)
transform_faults_kept all t = rw (seen_in all t, matrices_kept t) (joined unplaced_fault _ _ (minimum_faults_kept (seen all t) t.minimums)
    (joined unplaced_fault _ _ (decls_faults_kept (seen all t) t)
    (flat_kept unplaced_rule unplaced_fault (rule_faults (matrices_of t) (seen all t)) (rule_faults (matrices_of t) (seen all t)) (rule_faults_kept (matrices_of t) (seen all t)) t.rules)))

-- programs
names_kept : (k : ℕ) (known : List (List ℕ × ℕ)) (ts : List TransformTree) → first_names k known (map unplaced_transform ts) ≡ first_names k known ts
names_kept k known [] = refl
names_kept k known (t ∷ ts) = names_kept (k + 1) _ ts

program_kept : (ts : List TransformTree) → program_of (unplaced ts) ≡ unplaced_prog (program_of ts)
program_kept ts = rw (names_kept 0 [] ts) (made_kept unplaced_transform unplaced_prog_transform (transform_of (all_names ts)) (transform_of (all_names ts)) (transform_kept (all_names ts)) ts)

all_faults_kept : (ts : List TransformTree) → faults_of (unplaced ts) ≡ map unplaced_fault (faults_of ts)
all_faults_kept ts = rw (names_kept 0 [] ts)
    (faults_kept unplaced_transform next_transform (λ known t. refl) (named_faults (all_names ts)) (λ known t. joined unplaced_fault _ _ (duplicate_kept _ t.name) (transform_faults_kept (all_names ts) t)) [] ts)

-- trees that differ in places alone are programs that differ in places alone, with the same faults, places aside
pub same_program : (y x : List TransformTree) → unplaced y ≡ unplaced x → unplaced_prog (program_of y) ≡ unplaced_prog (program_of x)
same_program y x e = sym (program_kept y) ∙ ap program_of e ∙ program_kept x

pub same_faults : (y x : List TransformTree) → unplaced y ≡ unplaced x → map unplaced_fault (faults_of y) ≡ map unplaced_fault (faults_of x)
same_faults y x e = sym (all_faults_kept y) ∙ ap faults_of e ∙ all_faults_kept x

none_mapped : {A B : Type 0} (f : A → B) (xs : List A) → map f xs ≡ [] → xs ≡ []
none_mapped f [] e = refl
none_mapped f (x ∷ xs) e = cc

pub faultless_again : (y x : List TransformTree) → unplaced y ≡ unplaced x → faults_of x ≡ [] → faults_of y ≡ []
faultless_again y x e none = none_mapped unplaced_fault (faults_of y) (same_faults y x e ∙ ap (map unplaced_fault) none)
