-- Expressions and statements as they are held, and what they mean.
use Rattle.std.specs.Prelude.{ℕ, ℤ, pos, Option, Some, None, List, [], ◌∷◌, map, Result, Ok, Err}
use Rattle.pb_syntax.specs.declared.tree.expression.Operator.{Operator}
use Rattle.pb_values.specs.declared.outcome.Kind.{Kind}
use Rattle.pb_program.specs.declared.expression.Expr.{Expr}
use Rattle.pb_program.specs.declared.meaning.Callee.{Callee}
use Rattle.pb_program.specs.declared.meaning.Callee.TheVariants as callee
use Rattle.pb_program.specs.declared.meaning.Function.{Function}
use Rattle.pb_program.specs.declared.meaning.Meaning.{Meaning}
use Rattle.pb_program.specs.declared.meaning.Named.{Named}
use Rattle.pb_program.specs.Exprs.{ExprValue, bare, exprs, operands}
use Rattle.pb_program.specs.Exprs as e
use Rattle.pb_program.specs.declared.statement.Stmt.{Stmt}
use Rattle.pb_program.specs.Stmts.{bare_stmt, stmts}
use Rattle.pb_statements.specs.Rooms.{locals_among, locals_in}
use Rattle.pb_model.specs.Bodies.{Bindings, Store, after, after_all, assigned, assigned_cell, by_operator, called, cell_at, each_turn, if_ok, named_view, place_of, refused, turns, value, values}
use Rattle.pb_model.specs.Grids.{Grid}

-- the name that an expression is
abbrev pub lone_name : ExprValue → Option Named
lone_name (e.name n) = Some n
lone_name _ = None

unfoldable pub name_in : Expr → Option Named
name_in x = lone_name (bare x)

module _ (b : Bindings) (st : Store) where
  unfoldable pub value_in : Expr → Result ℤ Kind
  value_in x = value b st (bare x)

  unfoldable pub operand_in : ℤ → Operator → Expr → Result ℤ Kind
  operand_in a o x = by_operator o a (value_in x)

  unfoldable pub values_in : ℤ → List (Operator × Expr) → Result ℤ Kind
  values_in a rest = values b st a (operands (map (λ o. (o.0, bare o.1)) rest))

  unfoldable pub cell_in_list : Meaning → List Expr → Result ℤ Kind
  cell_in_list m xs = cell_at b st m (exprs (map bare xs))

  -- the view that an argument names, if it is a name
  unfoldable pub view_in : Expr → Grid ℤ
  view_in x = named_view b st (bare x)

  unfoldable pub called_in : Callee → List Expr → Result ℤ Kind
  called_in c xs = called b st c (exprs (map bare xs))

  unfoldable pub function_in : Function → List Expr → Result ℤ Kind
  function_in f xs = called_in (callee.Function f) xs

  -- the value of an expression that stands alone, and those of two
  unfoldable pub single_in : List Expr → Result ℤ Kind
  single_in (x ∷ []) = value_in x
  single_in _ = refused

  unfoldable pub pair_in : List Expr → Result (ℤ × ℤ) Kind
  pair_in (x ∷ y ∷ []) = if_ok (value_in x) (λ i. if_ok (value_in y) (λ j. Ok (i, j)))
  pair_in _ = refused

  -- the place that coordinates name
  unfoldable pub place_in : List Expr → Result (ℤ × ℤ) Kind
  place_in (x ∷ []) = if_ok (value_in x) (λ i. Ok (i, pos 0))
  place_in (x ∷ y ∷ []) = if_ok (value_in x) (λ i. if_ok (value_in y) (λ j. Ok (i, j)))
  place_in _ = refused

-- ---- statements
module _ (b : Bindings) where
  unfoldable pub stmt_in : Stmt → Store → Result Store Kind
  stmt_in s st = after b (bare_stmt s) st

  unfoldable pub stmts_in : List Stmt → Store → Result Store Kind
  stmts_in ss st = after_all b (stmts (map bare_stmt ss)) st

  -- a number is assigned to what a name names
  unfoldable pub assign_in : Meaning → Store → Result ℤ Kind → Result Store Kind
  assign_in m st r = if_ok r (assigned st (place_of b m))

  unfoldable pub assign_cell_in : Meaning → List Expr → Expr → Store → Result Store Kind
  assign_cell_in m xs x st = assigned_cell b st m (map bare xs) (bare x)

  -- a turn of a loop
  unfoldable pub turn_in : Meaning → List Stmt → ℤ → Store → Result Store Kind
  turn_in m ss i turn = if_ok (assigned turn (place_of b m) i) (stmts_in ss)

  -- the turns from a number on
  unfoldable pub repeated : Meaning → List Stmt → ℤ → ℕ → Store → Result Store Kind
  repeated m ss = each_turn (turn_in m ss)

  -- the lowest number of a loop, and how many there are
  unfoldable pub turns_in : Store → Expr → Expr → Result (ℤ × ℕ) Kind
  turns_in st x y = if_ok (value_in b st x) (λ low. if_ok (value_in b st y) (λ high. if_ok (turns low high) (λ k. Ok (low, k))))

-- what is left in a scratch
abbrev pub left_in : Result (Unit {0}) Kind → Store → Result Store Kind
left_in (Ok u) st = Ok st
left_in (Err k) st = Err k

unfoldable pub room_in : Stmt → ℕ
room_in s = locals_in (bare_stmt s)

unfoldable pub rooms_in : List Stmt → ℕ
rooms_in ss = locals_among (stmts (map bare_stmt ss))
