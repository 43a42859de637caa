-- What is wrong with types doesn't depend on the places of a program: views, expressions and statements.
use Rattle.std.proofs.Common.{◌≡◌, ℕ, ◌==◌, Bool, true, false, List, [], ◌∷◌, length, map, Option, Some, None, if◌then◌else◌, refl, ap, ◌∙◌}
use Rattle.std.specs.Prelude.{slice_get}
use Rattle.std.specs.Option.{option_map, option_map_or, option_and_then}
use Rattle.std.proofs.lemmas.Option.{slice_get-map}
use Rattle.pb_program.specs.declared.meaning.Meaning.{Meaning}
use Rattle.pb_program.specs.declared.meaning.Meaning.TheVariants as meaning
use Rattle.pb_program.specs.declared.meaning.Named.{Named}
use Rattle.pb_program.specs.declared.meaning.Callee.{Callee}
use Rattle.pb_program.specs.declared.meaning.Callee.TheVariants as callee
use Rattle.pb_program.specs.declared.meaning.Function.{Function}
use Rattle.pb_program.specs.declared.meaning.Function.TheVariants as function
use Rattle.pb_program.specs.declared.view.Read.{Read}
use Rattle.pb_program.specs.Forms.{DeclValue}
use Rattle.pb_program.specs.Exprs.{ExprValue, ExprValues, OperandValues, number, name, call, parentheses, cell, width, height, signed, chain, compare, no_exprs, an_expr, no_operands, an_operand}
use Rattle.pb_program.specs.Stmts.{StmtValue, StmtValues, let_number, let_matrix, assign, call_stmt, assign_cell, if_stmt, if_else, for_stmt, no_stmts, a_stmt}
use Rattle.pb_program.specs.Places.{unplaced_named, unplaced_value, unplaced_values, unplaced_operand_values, unplaced_statement, unplaced_statements, unplaced_matrix, unplaced_read}
use Rattle.pb_program.proofs.Kept.{joined, flat_kept, length_kept}
use Rattle.pb_types.specs.declared.sort.Sort.{Sort}
use Rattle.pb_types.specs.declared.sort.Sort.TheVariants.{Number, Truth}
use Rattle.pb_types.specs.Least.{unless}
use Rattle.pb_types.specs.Sorts.{is_sort, level_sort, lone_name, place_of, sign_sort, sort_of}
use Rattle.pb_types.specs.Views.{Bound, bound, cell_broken, dims_of, is_bound_cell, is_cell, is_number, matrix_broken, number_broken, view_broken, view_dims}
use Rattle.pb_types.specs.Numbers.{arguments_of, by_function, call_broken, expr_broken, how_many, matrix_argument, matrix_arguments, numbers_broken, operand_broken, operands_broken, sort_broken}
use Rattle.pb_types.specs.Bodies.{cell_target_broken, is_assigned, stmt_broken, stmts_broken, target_broken}

abbrev pub no_place : ℕ → ℕ
no_place at = 0

pub unless_kept : (b : Bool) (at : ℕ) → unless b 0 ≡ map no_place (unless b at)
unless_kept true at = refl
unless_kept false at = refl

module _ {A : Type 0} (u : A → A) where
  pub option_kept : {B : Type 0} (h : A → B) (d : B) → ((x : A) → h (u x) ≡ h x) → (o : Option A) → option_map_or h (option_map u o) d ≡ option_map_or h o d
  option_kept h d e None = refl
  option_kept h d e (Some x) = e x

  pub then_kept : {B : Type 0} (h : A → Option B) → ((x : A) → h (u x) ≡ h x) → (o : Option A) → option_and_then h (option_map u o) ≡ option_and_then h o
  then_kept h e None = refl
  then_kept h e (Some x) = e x

-- views
pub view_kept : (ms : List DeclValue) (r : Read) → view_broken (map unplaced_matrix ms) (unplaced_read r) ≡ map no_place (view_broken ms r)
unfolding view_broken
view_kept ms r =
    rw (slice_get-map unplaced_matrix ms r.matrix, option_kept unplaced_matrix (λ d. d.dims == r.dims) false (λ d. refl) (slice_get ms r.matrix)) (unless_kept _ r.at)

abbrev pub unplaced_bound : Bound → Bound
unplaced_bound b = record { outs = map unplaced_read b.outs; reads = map unplaced_read b.reads }

bound_kept : (b : Bound) (m : Meaning) → bound (unplaced_bound b) m ≡ option_map unplaced_read (bound b m)
bound_kept b (meaning.Size k) = refl
bound_kept b meaning.RuleX = refl
bound_kept b meaning.RuleY = refl
bound_kept b (meaning.Output k) = slice_get-map unplaced_read b.outs k
bound_kept b (meaning.Read k) = slice_get-map unplaced_read b.reads k
bound_kept b (meaning.Number k) = refl
bound_kept b (meaning.Matrix k) = refl

dims_kept : (b : Bound) (m : Meaning) → dims_of (unplaced_bound b) m ≡ dims_of b m
dims_kept b m = ap (option_and_then view_dims) (bound_kept b m) ∙ then_kept unplaced_read view_dims (λ r. refl) (bound b m)

cell_view_kept : (b : Bound) (m : Meaning) → is_bound_cell (unplaced_bound b) m ≡ is_bound_cell b m
cell_view_kept b m = ap (λ o. option_map_or (λ (r : Read). is_cell r.view) o false) (bound_kept b m) ∙ option_kept unplaced_read (λ r. is_cell r.view) false (λ r. refl) (bound b m)

number_kept : (b : Bound) (m : Meaning) → is_number (unplaced_bound b) m ≡ is_number b m
number_kept b (meaning.Size k) = refl
number_kept b meaning.RuleX = refl
number_kept b meaning.RuleY = refl
number_kept b (meaning.Output k) = cell_view_kept b (meaning.Output k)
number_kept b (meaning.Read k) = cell_view_kept b (meaning.Read k)
number_kept b (meaning.Number k) = refl
number_kept b (meaning.Matrix k) = cell_view_kept b (meaning.Matrix k)

name_kept : (b : Bound) (n : Named) → number_broken (unplaced_bound b) (unplaced_named n) ≡ map no_place (number_broken b n)
name_kept b n = rw (number_kept b n.what) (unless_kept _ n.at)

matrix_kept : (b : Bound) (n : Named) → matrix_broken (unplaced_bound b) (unplaced_named n) ≡ map no_place (matrix_broken b n)
matrix_kept b n = rw (dims_kept b n.what) (unless_kept _ n.at)

cell_kept : (b : Bound) (n : Named) (k : ℕ) → cell_broken (unplaced_bound b) (unplaced_named n) k ≡ map no_place (cell_broken b n k)
cell_kept b n k = rw (dims_kept b n.what) (unless_kept _ n.at)

-- expressions
sort_kept : (x : ExprValue) → sort_of (unplaced_value x) ≡ sort_of x
sort_kept (number at n) = refl
sort_kept (name n) = refl
sort_kept (call c xs) = refl
sort_kept (parentheses at x) = sort_kept x
sort_kept (cell v xs) = refl
sort_kept (width v) = refl
sort_kept (height v) = refl
sort_kept (signed at sign x) = refl
sort_kept (chain level x rest) = refl
sort_kept (compare x relation y) = refl

pub place_kept : (x : ExprValue) → place_of (unplaced_value x) ≡ 0
place_kept (number at n) = refl
place_kept (name n) = refl
place_kept (call c xs) = refl
place_kept (parentheses at x) = refl
place_kept (cell v xs) = refl
place_kept (width v) = refl
place_kept (height v) = refl
place_kept (signed at sign x) = refl
place_kept (chain level x rest) = place_kept x
place_kept (compare x relation y) = place_kept x

pub lone_kept : (x : ExprValue) → lone_name (unplaced_value x) ≡ option_map unplaced_named (lone_name x)
lone_kept (number at n) = refl
lone_kept (name n) = refl
lone_kept (call c xs) = refl
lone_kept (parentheses at x) = refl
lone_kept (cell v xs) = refl
lone_kept (width v) = refl
lone_kept (height v) = refl
lone_kept (signed at sign x) = refl
lone_kept (chain level x rest) = refl
lone_kept (compare x relation y) = refl

sort_broken_kept : (taken : Sort) (x : ExprValue) → sort_broken taken (unplaced_value x) ≡ map no_place (sort_broken taken x)
sort_broken_kept taken x = rw (sort_kept x, place_kept x) (unless_kept (is_sort taken (sort_of x)) (place_of x))

how_many_kept : (xs : ExprValues) → how_many (unplaced_values xs) ≡ how_many xs
how_many_kept no_exprs = refl
how_many_kept (an_expr x rest) = rw (how_many_kept rest) refl

by_kept : (f : Function) (ms ns : List ℕ) → by_function f (map no_place ms) (map no_place ns) ≡ map no_place (by_function f ms ns)
by_kept function.Sum ms ns = refl
by_kept function.Dot ms ns = refl
by_kept function.Min ms ns = refl
by_kept function.Max ms ns = refl
by_kept function.Abs ms ns = refl

when_right : (b : Bool) (at : ℕ) (places : List ℕ) → (if b then map no_place places else 0 ∷ []) ≡ map no_place (if b then places else at ∷ [])
when_right true at places = refl
when_right false at places = refl

call_kept : (c : Callee) (at n : ℕ) (ms ns : List ℕ) → call_broken c 0 n (map no_place ms) (map no_place ns) ≡ map no_place (call_broken c at n ms ns)
call_kept (callee.Function f) at n ms ns = rw (by_kept f ms ns) (when_right (n == arguments_of f) at (by_function f ms ns))
call_kept (callee.Transform t) at n ms ns = refl

module _ (b : Bound) where
  lone_broken : (n : Option Named) (at : ℕ) → option_map_or (matrix_broken (unplaced_bound b)) (option_map unplaced_named n) (0 ∷ []) ≡ map no_place (option_map_or (matrix_broken b) n (at ∷ []))
  lone_broken None at = refl
  lone_broken (Some n) at = matrix_kept b n

  argument_kept : (x : ExprValue) → matrix_argument (unplaced_bound b) (unplaced_value x) ≡ map no_place (matrix_argument b x)
  argument_kept x = rw (lone_kept x, place_kept x) (lone_broken (lone_name x) (place_of x))

  arguments_kept : (xs : ExprValues) → matrix_arguments (unplaced_bound b) (unplaced_values xs) ≡ map no_place (matrix_arguments b xs)
  arguments_kept no_exprs = refl
  arguments_kept (an_expr x rest) = joined no_place _ _ (argument_kept x) (arguments_kept rest)

  mutual
    expr_kept : (x : ExprValue) → expr_broken (unplaced_bound b) (unplaced_value x) ≡ map no_place (expr_broken b x)
    expr_kept (number at n) = refl
    expr_kept (name n) = name_kept b n
    expr_kept (call c xs) = rw (how_many_kept xs, arguments_kept xs, numbers_kept xs) (call_kept c.what c.at (how_many xs) (matrix_arguments b xs) (numbers_broken b xs))
    expr_kept (parentheses at x) = expr_kept x
    expr_kept (cell v xs) = rw (how_many_kept xs) (joined no_place _ _ (cell_kept b v (how_many xs)) (numbers_kept xs))
    expr_kept (width v) = matrix_kept b v
    expr_kept (height v) = matrix_kept b v
    expr_kept (signed at sign x) = joined no_place _ _ (sort_broken_kept (sign_sort sign) x) (expr_kept x)
    expr_kept (chain level x rest) = joined no_place _ _ (joined no_place _ _ (sort_broken_kept (level_sort level) x) (expr_kept x)) (operands_kept (level_sort level) rest)
    expr_kept (compare x relation y) =
        joined no_place _ _ (joined no_place _ _ (sort_broken_kept Number x) (expr_kept x)) (joined no_place _ _ (sort_broken_kept Number y) (expr_kept y))

    numbers_kept : (xs : ExprValues) → numbers_broken (unplaced_bound b) (unplaced_values xs) ≡ map no_place (numbers_broken b xs)
    numbers_kept no_exprs = refl
    numbers_kept (an_expr x rest) = joined no_place _ _ (joined no_place _ _ (sort_broken_kept Number x) (expr_kept x)) (numbers_kept rest)

    operands_kept : (taken : Sort) (xs : OperandValues) → operands_broken (unplaced_bound b) taken (unplaced_operand_values xs) ≡ map no_place (operands_broken b taken xs)
    operands_kept taken no_operands = refl
    operands_kept taken (an_operand o x rest) = joined no_place _ _ (joined no_place _ _ (sort_broken_kept taken x) (expr_kept x)) (operands_kept taken rest)

  operand_kept : (taken : Sort) (x : ExprValue) → operand_broken (unplaced_bound b) taken (unplaced_value x) ≡ map no_place (operand_broken b taken x)
  operand_kept taken x = joined no_place _ _ (sort_broken_kept taken x) (expr_kept x)

  -- statements
  assigned_kept : (loops : List Meaning) (m : Meaning) → is_assigned (unplaced_bound b) loops m ≡ is_assigned b loops m
  assigned_kept loops (meaning.Size k) = refl
  assigned_kept loops meaning.RuleX = refl
  assigned_kept loops meaning.RuleY = refl
  assigned_kept loops (meaning.Output k) = cell_view_kept b (meaning.Output k)
  assigned_kept loops (meaning.Read k) = refl
  assigned_kept loops (meaning.Number k) = refl
  assigned_kept loops (meaning.Matrix k) = refl

  target_kept : (loops : List Meaning) (n : Named) → target_broken (unplaced_bound b) loops (unplaced_named n) ≡ map no_place (target_broken b loops n)
  target_kept loops n = rw (assigned_kept loops n.what) (unless_kept _ n.at)

  cell_target_kept : (n : Named) (k : ℕ) → cell_target_broken (unplaced_bound b) (unplaced_named n) k ≡ map no_place (cell_target_broken b n k)
  cell_target_kept n k = rw (dims_kept b n.what) (unless_kept _ n.at)

  mutual
    stmt_kept : (loops : List Meaning) (s : StmtValue) → stmt_broken (unplaced_bound b) loops (unplaced_statement s) ≡ map no_place (stmt_broken b loops s)
    stmt_kept loops (let_number at n x) = operand_kept Number x
    stmt_kept loops (let_matrix at n dims) = refl
    stmt_kept loops (assign n x) = joined no_place _ _ (target_kept loops n) (operand_kept Number x)
    stmt_kept loops (call_stmt ns c xs) = refl
    stmt_kept loops (assign_cell n xs x) = rw (length_kept unplaced_value xs) (joined no_place _ _ (cell_target_kept n (length xs))
        (joined no_place _ _ (flat_kept unplaced_value no_place (operand_broken (unplaced_bound b) Number) (operand_broken b Number) (operand_kept Number) xs) (operand_kept Number x)))
    stmt_kept loops (if_stmt at x ss) = joined no_place _ _ (operand_kept Truth x) (stmts_kept loops ss)
    stmt_kept loops (if_else at x ss others) = joined no_place _ _ (joined no_place _ _ (operand_kept Truth x) (stmts_kept loops ss)) (stmts_kept loops others)
    stmt_kept loops (for_stmt at n x y ss) = joined no_place _ _ (joined no_place _ _ (operand_kept Number x) (operand_kept Number y)) (stmts_kept (n.what ∷ loops) ss)

    pub stmts_kept : (loops : List Meaning) (ss : StmtValues) → stmts_broken (unplaced_bound b) loops (unplaced_statements ss) ≡ map no_place (stmts_broken b loops ss)
    stmts_kept loops no_stmts = refl
    stmts_kept loops (a_stmt s rest) = joined no_place _ _ (stmt_kept loops s) (stmts_kept loops rest)
