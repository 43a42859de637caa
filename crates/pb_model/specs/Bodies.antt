-- What a computing body means, statement by statement: over the numbers of its locals and of the places of its outputs.
use Rattle.std.specs.Prelude.{ℕ, zero, suc, ℤ, pos, ◌+ℤ◌, ◌-ℤ◌, ◌*ℤ◌, neg_ℤ, unsigned_abs, int_le, int_lt, nat_lt, ◌+◌, ◌++◌, Bool, true, false, not, ◌&&◌, ◌==◌, List, [], ◌∷◌, map, length, Option, Some, None, Result, Ok, Err, if◌then◌else◌, slice_index, slice_index_or}
use Rattle.std.specs.List.{flat_map, range_with_len}
use Rattle.std.specs.Option.{ok_or}
use Rattle.pb_syntax.specs.declared.tree.expression.Operator.{Operator}
use Rattle.pb_syntax.specs.declared.tree.expression.Operator.TheVariants as operator
use Rattle.pb_syntax.specs.declared.tree.expression.Relation.{Relation}
use Rattle.pb_syntax.specs.declared.tree.expression.Relation.TheVariants as relation
use Rattle.pb_syntax.specs.declared.tree.expression.UnarySign.{UnarySign}
use Rattle.pb_syntax.specs.declared.tree.expression.UnarySign.TheVariants as sign
use Rattle.pb_values.specs.declared.outcome.Kind.{Kind}
use Rattle.pb_values.specs.declared.outcome.Kind.TheVariants.{OutOfView, LoopLimit, BadShape}
use Rattle.pb_values.specs.Checked.{checked_result, quotient, remainder}
use Rattle.pb_program.specs.declared.meaning.Callee.{Callee}
use Rattle.pb_program.specs.declared.meaning.Callee.TheVariants as callee
use Rattle.pb_program.specs.declared.meaning.Function.TheVariants as function
use Rattle.pb_program.specs.declared.meaning.Meaning.{Meaning}
use Rattle.pb_program.specs.declared.meaning.Meaning.TheVariants as meaning
use Rattle.pb_program.specs.Exprs.{ExprValue, ExprValues, OperandValues, no_exprs, an_expr, no_operands, an_operand}
use Rattle.pb_program.specs.Exprs as e
use Rattle.pb_program.specs.Stmts.{StmtValue, StmtValues, no_stmts, a_stmt}
use Rattle.pb_program.specs.Stmts as s
use Rattle.pb_model.specs.Cells.{natural}
use Rattle.pb_model.specs.Grids.{Grid, no_grid, at_place}

-- ---- what a body works on
-- what can be assigned: a local, by its number, and a place of an output, by the output's number
pub data Place : Type 0 where
  local : ℕ → Place
  output : ℕ → ℕ → ℕ → Place

abbrev pub same_place : Place → Place → Bool
same_place (local j) (local k) = j == k
same_place (output i u v) (output k x y) = (i == k) && ((u == x) && (v == y))
same_place _ _ = false

-- the number in each place
abbrev pub Store : Type 0
Store = Place → ℤ

-- before the first statement each is 0
abbrev pub at_first : Store
at_first p = pos 0

-- with another number in a place
unfoldable pub with_number : Store → Place → ℤ → Store
with_number s p n q = if same_place q p then n else s q

-- what the other names of a body stand for: the sizes, the rule variables, what the reads show; and the sides of the outputs
pub record Bindings : Type 0 where
  pub sizes : List ℕ
  pub x : ℤ
  pub y : ℤ
  pub reads : List (Grid ℤ)
  pub outs : List (ℕ × ℕ)

-- the numbers of an output with these sides, row by row
abbrev pub output_cells : Store → ℕ → ℕ × ℕ → List ℤ
output_cells s k sides = flat_map (λ y. map (λ x. s (output k x y)) (range_with_len 0 sides.0)) (range_with_len 0 sides.1)

abbrev pub output_grid : Store → ℕ → ℕ × ℕ → Grid ℤ
output_grid s k sides = record { width = sides.0; height = sides.1; cells = output_cells s k sides }

-- the view that a name names: a read, or an output as it is now
unfoldable pub view_of : Bindings → Store → Meaning → Grid ℤ
view_of b s (meaning.Read k) = slice_index_or b.reads k no_grid
view_of b s (meaning.Output k) = output_grid s k (slice_index_or b.outs k (0, 0))
view_of b s _ = no_grid

-- the number that a name stands for: a view of one cell stands for that cell
unfoldable pub number_of : Bindings → Store → Meaning → ℤ
number_of b s (meaning.Size k) = pos (slice_index b.sizes k)
number_of b s meaning.RuleX = b.x
number_of b s meaning.RuleY = b.y
number_of b s (meaning.Number k) = s (local k)
number_of b s m = slice_index_or (view_of b s m).cells 0 (pos 0)

-- ---- expressions
-- the second, where the first gives no trap
abbrev pub if_ok : {A B : Type 0} → Result A Kind → (A → Result B Kind) → Result B Kind
if_ok (Ok a) f = f a
if_ok (Err k) f = Err k

-- what the phase of types refuses comes in no accepted program; here it is a trap
abbrev pub refused : {A : Type 0} → Result A Kind
refused = Err OutOfView

-- the number of a view at a place
abbrev pub cell_in : Grid ℤ → ℤ → ℤ → Result ℤ Kind
cell_in g (pos x) (pos y) = ok_or (at_place g x y) OutOfView
cell_in g x y = Err OutOfView

-- a truth as a number
abbrev pub truth : Bool → ℤ
truth true = pos 1
truth false = pos 0

abbrev pub is_zero : ℤ → Bool
is_zero (pos zero) = true
is_zero _ = false

-- the sum from left to right, each partial sum within 64 bits
unfoldable pub summed : ℤ → List ℤ → Result ℤ Kind
summed total [] = Ok total
summed total (v ∷ vs) = if_ok (checked_result (total +ℤ v)) (λ next. summed next vs)

-- the sum of the products, of two lists of one length
unfoldable pub products : ℤ → List ℤ → List ℤ → Result ℤ Kind
products total (v ∷ vs) (w ∷ ws) = if_ok (checked_result (v *ℤ w)) (λ p. if_ok (checked_result (total +ℤ p)) (λ next. products next vs ws))
products total _ _ = Ok total

-- views with different numbers of cells have no product
abbrev pub dot_product : List ℤ → List ℤ → Result ℤ Kind
dot_product vs ws = if length vs == length ws then products (pos 0) vs ws else Err BadShape

abbrev pub lesser : ℤ → ℤ → ℤ
lesser a b = if int_le a b then a else b

abbrev pub greater : ℤ → ℤ → ℤ
greater a b = if int_le a b then b else a

-- an operator of a product or a sum
abbrev pub operated : Operator → ℤ → ℤ → Result ℤ Kind
operated operator.Times a b = checked_result (a *ℤ b)
operated operator.Over a b = quotient a b
operated operator.Modulo a b = remainder a b
operated operator.Plus a b = checked_result (a +ℤ b)
operated operator.Minus a b = checked_result (a -ℤ b)
operated _ a b = Ok b

-- the right side of `&&` and `||` counts where the left doesn't decide
abbrev pub by_operator : Operator → ℤ → Result ℤ Kind → Result ℤ Kind
by_operator operator.And a right = if is_zero a then Ok (pos 0) else right
by_operator operator.Or a right = if is_zero a then right else Ok (pos 1)
by_operator o a right = if_ok right (operated o a)

abbrev pub related : ℤ → Relation → ℤ → Bool
related a relation.Less b = int_lt a b
related a relation.LessOrEqual b = int_le a b
related a relation.Greater b = int_lt b a
related a relation.GreaterOrEqual b = int_le b a
related a relation.Equal b = int_le a b && int_le b a
related a relation.Unequal b = not (int_le a b && int_le b a)

abbrev pub signed_by : UnarySign → ℤ → Result ℤ Kind
signed_by sign.Minus a = checked_result (neg_ℤ a)
signed_by sign.Not a = Ok (truth (is_zero a))

-- the view that an argument names, if it is a name
abbrev pub named_view : Bindings → Store → ExprValue → Grid ℤ
named_view b st (e.name n) = view_of b st n.what
named_view b st _ = no_grid

module _ (b : Bindings) (st : Store) where
  unfoldable mutual
    -- the value of an expression; a truth is 1 or 0
    pub value : ExprValue → Result ℤ Kind
    value (e.number at n) = checked_result (pos n)
    value (e.name n) = Ok (number_of b st n.what)
    value (e.call c xs) = called c.what xs
    value (e.parentheses at x) = value x
    value (e.cell v xs) = cell_at v.what xs
    value (e.width v) = Ok (pos (view_of b st v.what).width)
    value (e.height v) = Ok (pos (view_of b st v.what).height)
    value (e.signed at sign x) = if_ok (value x) (signed_by sign)
    value (e.chain level x rest) = if_ok (value x) (λ a. values a rest)
    value (e.compare x relation y) = if_ok (value x) (λ l. if_ok (value y) (λ r. Ok (truth (related l relation r))))

    -- operands, from left to right, after a value
    pub values : ℤ → OperandValues → Result ℤ Kind
    values a no_operands = Ok a
    values a (an_operand o x rest) = if_ok (by_operator o a (value x)) (λ next. values next rest)

    -- a cell of a view, at one or two coordinates
    pub cell_at : Meaning → ExprValues → Result ℤ Kind
    cell_at v (an_expr x no_exprs) = if_ok (value x) (λ i. cell_in (view_of b st v) i (pos 0))
    cell_at v (an_expr x (an_expr y no_exprs)) = if_ok (value x) (λ i. if_ok (value y) (λ j. cell_in (view_of b st v) i j))
    cell_at v _ = refused

    -- a call of a function
    pub called : Callee → ExprValues → Result ℤ Kind
    called (callee.Function function.Sum) (an_expr v no_exprs) = summed (pos 0) (named_view b st v).cells
    called (callee.Function function.Dot) (an_expr v (an_expr w no_exprs)) = dot_product (named_view b st v).cells (named_view b st w).cells
    called (callee.Function function.Min) (an_expr x (an_expr y no_exprs)) = if_ok (value x) (λ i. if_ok (value y) (λ j. Ok (lesser i j)))
    called (callee.Function function.Max) (an_expr x (an_expr y no_exprs)) = if_ok (value x) (λ i. if_ok (value y) (λ j. Ok (greater i j)))
    called (callee.Function function.Abs) (an_expr x no_exprs) = if_ok (value x) (λ i. checked_result (pos (unsigned_abs i)))
    called _ _ = refused

-- ---- statements
-- the one place of an output with these sides, if it has just one
abbrev pub only_place : ℕ → ℕ × ℕ → Option Place
only_place k sides = if (sides.0 == 1) && (sides.1 == 1) then Some (output k 0 0) else None

-- what may be assigned by its name alone: a local number, or an output of one cell
abbrev pub place_of : Bindings → Meaning → Option Place
place_of b (meaning.Number k) = Some (local k)
place_of b (meaning.Output k) = only_place k (slice_index_or b.outs k (0, 0))
place_of b _ = None

abbrev pub assigned : Store → Option Place → ℤ → Result Store Kind
assigned st (Some p) n = Ok (with_number st p n)
assigned st None n = refused

-- a number is put in a place of an output with these sides
abbrev pub put_inside : Store → ℕ → ℕ × ℕ → ℤ → ℤ → ℤ → Result Store Kind
put_inside st k sides (pos x) (pos y) n = if nat_lt x sides.0 && nat_lt y sides.1 then Ok (with_number st (output k x y) n) else Err OutOfView
put_inside st k sides x y n = Err OutOfView

abbrev pub put_at : Bindings → Store → Meaning → ℤ → ℤ → ℤ → Result Store Kind
put_at b st (meaning.Output k) x y n = put_inside st k (slice_index_or b.outs k (0, 0)) x y n
put_at b st _ x y n = refused

-- the most turns of a loop
abbrev pub LOOP_LIMIT : ℕ
LOOP_LIMIT = 1048576

-- how often a loop from one number to before another turns
unfoldable pub turns : ℤ → ℤ → Result ℕ Kind
turns low high = if int_lt (pos LOOP_LIMIT) (high -ℤ low) then Err LoopLimit else Ok (natural (high -ℤ low))

-- a loop over so many numbers from the first on
unfoldable pub each_turn : (ℤ → Store → Result Store Kind) → ℤ → ℕ → Store → Result Store Kind
each_turn f low zero st = Ok st
each_turn f low (suc n) st = if_ok (f low st) (each_turn f (low +ℤ pos 1) n)

-- whether a test is true
abbrev pub tested : Bindings → Store → ExprValue → Result Bool Kind
tested b st x = if_ok (value b st x) (λ v. Ok (not (is_zero v)))

module _ (b : Bindings) where
  -- an assignment to a cell of an output: the coordinates, the right side, and then whether the place is inside
  abbrev pub assigned_cell : Store → Meaning → List ExprValue → ExprValue → Result Store Kind
  assigned_cell st m (x ∷ []) v = if_ok (value b st x) (λ i. if_ok (value b st v) (λ n. put_at b st m i (pos 0) n))
  assigned_cell st m (x ∷ y ∷ []) v = if_ok (value b st x) (λ i. if_ok (value b st y) (λ j. if_ok (value b st v) (λ n. put_at b st m i j n)))
  assigned_cell st m _ v = refused

  unfoldable mutual
    -- the numbers after a statement
    pub after : StmtValue → Store → Result Store Kind
    after (s.let_number at n x) st = if_ok (value b st x) (assigned st (place_of b n.what))
    after (s.let_matrix at n dims) st = refused
    after (s.assign n x) st = if_ok (value b st x) (assigned st (place_of b n.what))
    after (s.call_stmt ns c xs) st = refused
    after (s.assign_cell n xs x) st = assigned_cell st n.what xs x
    after (s.if_stmt at x ss) st = if_ok (tested b st x) (λ t. if t then after_all ss st else Ok st)
    after (s.if_else at x ss others) st = if_ok (tested b st x) (λ t. if t then after_all ss st else after_all others st)
    after (s.for_stmt at n x y ss) st =
        if_ok (value b st x) (λ low. if_ok (value b st y) (λ high. if_ok (turns low high) (λ k.
        each_turn (λ i turn. if_ok (assigned turn (place_of b n.what) i) (after_all ss)) low k st)))

    -- after one statement after another
    pub after_all : StmtValues → Store → Result Store Kind
    after_all no_stmts st = Ok st
    after_all (a_stmt x rest) st = if_ok (after x st) (after_all rest)

-- the numbers that a body leaves, from 0 in every place
abbrev pub left_by : Bindings → StmtValues → Result Store Kind
left_by b ss = after_all b ss at_first

-- those of the outputs, output by output, each row by row
abbrev pub outputs_from : ℕ → Store → List (ℕ × ℕ) → List ℤ
outputs_from k st [] = []
outputs_from k st (sides ∷ rest) = output_cells st k sides ++ outputs_from (k + 1) st rest
