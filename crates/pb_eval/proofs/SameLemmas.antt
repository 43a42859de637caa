-- A body that names no rule variable means the same at all of their values.
use Rattle.std.proofs.Common.{◌≡◌, ◌∙◌, refl, ap, ℕ, zero, suc, ◌+◌, ℤ, pos, ◌+ℤ◌, Bool, true, false, not, List, [], ◌∷◌, Ok, Err, Result, arith}
use Rattle.std.specs.Prelude.{if◌then◌else◌, unsigned_abs}
use Rattle.std.specs.List.{AllByRecursion}
use Rattle.pb_values.specs.declared.outcome.Kind.{Kind}
use Rattle.pb_values.specs.Checked.{checked_result}
use Rattle.pb_program.specs.declared.meaning.Callee.{Callee}
use Rattle.pb_program.specs.declared.meaning.Callee.TheVariants as callee
use Rattle.pb_program.specs.declared.meaning.Function.TheVariants as function
use Rattle.pb_program.specs.declared.meaning.Meaning.{Meaning}
use Rattle.pb_program.specs.declared.meaning.Meaning.TheVariants as meaning
use Rattle.pb_program.specs.Exprs.{ExprValue, ExprValues, OperandValues, no_exprs, an_expr, no_operands, an_operand}
use Rattle.pb_program.specs.Exprs as e
use Rattle.pb_program.specs.Stmts.{StmtValue, StmtValues, no_stmts, a_stmt}
use Rattle.pb_program.specs.Stmts as s
use Rattle.pb_program.specs.WellFormed.{Around, AreExprs, AreOperands, AreStmts, IsExpr, IsStmt, IsThere, after as visible}
use Rattle.pb_model.specs.Bodies.{Bindings, Store, after, after_all, assigned, assigned_cell, at_first, by_operator, called, cell_at, cell_in, dot_product, each_turn, greater, if_ok, is_zero, left_by, lesser, named_view, number_of, place_of, put_at, related, signed_by, summed, tested, truth, turns, value, values, view_of}
use Rattle.pb_model.specs.Grids.{Grid}

then_same : {A B : Type 0} (r q : Result A Kind) (f g : A → Result B Kind) → r ≡ q → ((a : A) → f a ≡ g a) → if_ok r f ≡ if_ok q g
then_same r q f g h k = by r ∙ ap (λ z. if_ok z g) h
  where
    by : (z : Result _ Kind) → if_ok z f ≡ if_ok z g
    by (Ok a) = k a
    by (Err t) = refl

turns_same : (f g : ℤ → Store → Result Store Kind) → ((i : ℤ) (st : Store) → f i st ≡ g i st) → (n : ℕ) (low : ℤ) (st : Store) → each_turn f low n st ≡ each_turn g low n st
unfolding each_turn
turns_same f g h zero low st = refl
turns_same f g h (suc n) low st = then_same (f low st) (g low st) (each_turn f (low +ℤ pos 1) n) (each_turn g (low +ℤ pos 1) n) (h low st) (λ next. turns_same f g h n (low +ℤ pos 1) next)

-- the bindings with other values of the rule variables
abbrev elsewhere : Bindings → ℤ → ℤ → Bindings
elsewhere b x y = record { sizes = b.sizes; x = x; y = y; reads = b.reads; outs = b.outs }

module _ (b : Bindings) (x' y' : ℤ) (a : Around) (none : a.variables ≡ 0) where
  view_same : (st : Store) (m : Meaning) → view_of b st m ≡ view_of (elsewhere b x' y') st m
  unfolding view_of
  view_same st (meaning.Read k) = refl
  view_same st (meaning.Output k) = refl
  view_same st (meaning.Size k) = refl
  view_same st meaning.RuleX = refl
  view_same st meaning.RuleY = refl
  view_same st (meaning.Number k) = refl
  view_same st (meaning.Matrix k) = refl

  place_same : (m : Meaning) → place_of b m ≡ place_of (elsewhere b x' y') m
  place_same (meaning.Read k) = refl
  place_same (meaning.Output k) = refl
  place_same (meaning.Size k) = refl
  place_same meaning.RuleX = refl
  place_same meaning.RuleY = refl
  place_same (meaning.Number k) = refl
  place_same (meaning.Matrix k) = refl

  put_same : (st : Store) (m : Meaning) (x y n : ℤ) → put_at b st m x y n ≡ put_at (elsewhere b x' y') st m x y n
  put_same st (meaning.Read k) x y n = refl
  put_same st (meaning.Output k) x y n = refl
  put_same st (meaning.Size k) x y n = refl
  put_same st meaning.RuleX x y n = refl
  put_same st meaning.RuleY x y n = refl
  put_same st (meaning.Number k) x y n = refl
  put_same st (meaning.Matrix k) x y n = refl

  number_same : (st : Store) (l : ℕ) (m : Meaning) → IsThere a l m → number_of b st m ≡ number_of (elsewhere b x' y') st m
  unfolding number_of view_of
  number_same st l (meaning.Size k) h = refl
  number_same st l meaning.RuleX h = absurd (omega (arith, none, h))
  number_same st l meaning.RuleY h = absurd (omega (arith, none, h))
  number_same st l (meaning.Number k) h = refl
  number_same st l (meaning.Read k) h = refl
  number_same st l (meaning.Output k) h = refl
  number_same st l (meaning.Matrix k) h = refl

  named_same : (st : Store) (x : ExprValue) → named_view b st x ≡ named_view (elsewhere b x' y') st x
  named_same st (e.name n) = view_same st n.what
  named_same st (e.number at n) = refl
  named_same st (e.call c xs) = refl
  named_same st (e.parentheses at x) = refl
  named_same st (e.cell v xs) = refl
  named_same st (e.width v) = refl
  named_same st (e.height v) = refl
  named_same st (e.signed at sign x) = refl
  named_same st (e.chain level x rest) = refl
  named_same st (e.compare x relation y) = refl

  module _ (st : Store) (l : ℕ) where
    mutual
      unfolding value values cell_at called

      pub value_same : (x : ExprValue) → IsExpr a l x → value b st x ≡ value (elsewhere b x' y') st x
      value_same (e.number at n) h = refl
      value_same (e.name n) h = ap (λ z. Ok z) (number_same st l n.what h)
      value_same (e.call c xs) h = called_same c.what xs h.1
      value_same (e.parentheses at x) h = value_same x h
      value_same (e.cell v xs) h = cell_same v.what xs h.1
      value_same (e.width v) h = ap (λ (g : Grid ℤ). Ok (pos g.width)) (view_same st v.what)
      value_same (e.height v) h = ap (λ (g : Grid ℤ). Ok (pos g.height)) (view_same st v.what)
      value_same (e.signed at sign x) h = ap (λ r. if_ok r (signed_by sign)) (value_same x h)
      value_same (e.chain level x rest) h = then_same (value b st x) (value (elsewhere b x' y') st x) (λ n. values b st n rest) (λ n. values (elsewhere b x' y') st n rest) (value_same x h.0) (λ n. values_same n rest h.1)
      value_same (e.compare x relation y) h =
          then_same (value b st x) (value (elsewhere b x' y') st x) (λ i. if_ok (value b st y) (λ j. Ok (truth (related i relation j)))) (λ i. if_ok (value (elsewhere b x' y') st y) (λ j. Ok (truth (related i relation j)))) (value_same x h.0)
          (λ i. ap (λ r. if_ok r (λ j. Ok (truth (related i relation j)))) (value_same y h.1))

      values_same : (n : ℤ) (rest : OperandValues) → AreOperands a l rest → values b st n rest ≡ values (elsewhere b x' y') st n rest
      values_same n no_operands h = refl
      values_same n (an_operand o x rest) h =
          then_same (by_operator o n (value b st x)) (by_operator o n (value (elsewhere b x' y') st x)) (λ m. values b st m rest) (λ m. values (elsewhere b x' y') st m rest) (ap (by_operator o n) (value_same x h.0)) (λ m. values_same m rest h.1)

      cell_same : (v : Meaning) (xs : ExprValues) → AreExprs a l xs → cell_at b st v xs ≡ cell_at (elsewhere b x' y') st v xs
      cell_same v no_exprs h = refl
      cell_same v (an_expr x no_exprs) h =
          then_same (value b st x) (value (elsewhere b x' y') st x) (λ i. cell_in (view_of b st v) i (pos 0)) (λ i. cell_in (view_of (elsewhere b x' y') st v) i (pos 0)) (value_same x h.0) (λ i. ap (λ g. cell_in g i (pos 0)) (view_same st v))
      cell_same v (an_expr x (an_expr y no_exprs)) h =
          then_same (value b st x) (value (elsewhere b x' y') st x) (λ i. if_ok (value b st y) (λ j. cell_in (view_of b st v) i j)) (λ i. if_ok (value (elsewhere b x' y') st y) (λ j. cell_in (view_of (elsewhere b x' y') st v) i j)) (value_same x h.0) (λ i.
          then_same (value b st y) (value (elsewhere b x' y') st y) (λ j. cell_in (view_of b st v) i j) (λ j. cell_in (view_of (elsewhere b x' y') st v) i j) (value_same y h.1.0) (λ j. ap (λ g. cell_in g i j) (view_same st v)))
      cell_same v (an_expr x (an_expr y (an_expr z rest))) h = refl

      called_same : (c : Callee) (xs : ExprValues) → AreExprs a l xs → called b st c xs ≡ called (elsewhere b x' y') st c xs
      called_same (callee.Transform t) xs h = refl
      called_same (callee.Function function.Sum) no_exprs h = refl
      called_same (callee.Function function.Sum) (an_expr v no_exprs) h = ap (λ (g : Grid ℤ). summed (pos 0) g.cells) (named_same st v)
      called_same (callee.Function function.Sum) (an_expr v (an_expr w rest)) h = refl
      called_same (callee.Function function.Dot) no_exprs h = refl
      called_same (callee.Function function.Dot) (an_expr v no_exprs) h = refl
      called_same (callee.Function function.Dot) (an_expr v (an_expr w no_exprs)) h =
          ap (λ (g : Grid ℤ). dot_product g.cells (named_view b st w).cells) (named_same st v) ∙ ap (λ (g : Grid ℤ). dot_product (named_view (elsewhere b x' y') st v).cells g.cells) (named_same st w)
      called_same (callee.Function function.Dot) (an_expr v (an_expr w (an_expr z rest))) h = refl
      called_same (callee.Function function.Min) no_exprs h = refl
      called_same (callee.Function function.Min) (an_expr x no_exprs) h = refl
      called_same (callee.Function function.Min) (an_expr x (an_expr y no_exprs)) h =
          then_same (value b st x) (value (elsewhere b x' y') st x) (λ i. if_ok (value b st y) (λ j. Ok (lesser i j))) (λ i. if_ok (value (elsewhere b x' y') st y) (λ j. Ok (lesser i j))) (value_same x h.0)
          (λ i. ap (λ r. if_ok r (λ j. Ok (lesser i j))) (value_same y h.1.0))
      called_same (callee.Function function.Min) (an_expr x (an_expr y (an_expr z rest))) h = refl
      called_same (callee.Function function.Max) no_exprs h = refl
      called_same (callee.Function function.Max) (an_expr x no_exprs) h = refl
      called_same (callee.Function function.Max) (an_expr x (an_expr y no_exprs)) h =
          then_same (value b st x) (value (elsewhere b x' y') st x) (λ i. if_ok (value b st y) (λ j. Ok (greater i j))) (λ i. if_ok (value (elsewhere b x' y') st y) (λ j. Ok (greater i j))) (value_same x h.0)
          (λ i. ap (λ r. if_ok r (λ j. Ok (greater i j))) (value_same y h.1.0))
      called_same (callee.Function function.Max) (an_expr x (an_expr y (an_expr z rest))) h = refl
      called_same (callee.Function function.Abs) no_exprs h = refl
      called_same (callee.Function function.Abs) (an_expr x no_exprs) h = ap (λ r. if_ok r (λ i. checked_result (pos (unsigned_abs i)))) (value_same x h.0)
      called_same (callee.Function function.Abs) (an_expr x (an_expr y rest)) h = refl

  -- ---- statements
  assigned_same : (st : Store) (m : Meaning) → (v : ℤ) → assigned st (place_of b m) v ≡ assigned st (place_of (elsewhere b x' y') m) v
  assigned_same st m v = ap (λ p. assigned st p v) (place_same m)

  cell_assigned_same : (st : Store) (l : ℕ) (m : Meaning) (xs : List ExprValue) (v : ExprValue) → AllByRecursion (IsExpr a l) xs → IsExpr a l v → assigned_cell b st m xs v ≡ assigned_cell (elsewhere b x' y') st m xs v
  cell_assigned_same st l m [] v h k = refl
  cell_assigned_same st l m (x ∷ []) v h k =
      then_same (value b st x) (value (elsewhere b x' y') st x) (λ i. if_ok (value b st v) (λ n. put_at b st m i (pos 0) n)) (λ i. if_ok (value (elsewhere b x' y') st v) (λ n. put_at (elsewhere b x' y') st m i (pos 0) n)) (value_same st l x h.0) (λ i.
      then_same (value b st v) (value (elsewhere b x' y') st v) (λ n. put_at b st m i (pos 0) n) (λ n. put_at (elsewhere b x' y') st m i (pos 0) n) (value_same st l v k) (λ n. put_same st m i (pos 0) n))
  cell_assigned_same st l m (x ∷ y ∷ []) v h k =
      then_same (value b st x) (value (elsewhere b x' y') st x) (λ i. if_ok (value b st y) (λ j. if_ok (value b st v) (λ n. put_at b st m i j n))) (λ i. if_ok (value (elsewhere b x' y') st y) (λ j. if_ok (value (elsewhere b x' y') st v) (λ n. put_at (elsewhere b x' y') st m i j n))) (value_same st l x h.0) (λ i.
      then_same (value b st y) (value (elsewhere b x' y') st y) (λ j. if_ok (value b st v) (λ n. put_at b st m i j n)) (λ j. if_ok (value (elsewhere b x' y') st v) (λ n. put_at (elsewhere b x' y') st m i j n)) (value_same st l y h.1.0) (λ j.
      then_same (value b st v) (value (elsewhere b x' y') st v) (λ n. put_at b st m i j n) (λ n. put_at (elsewhere b x' y') st m i j n) (value_same st l v k) (λ n. put_same st m i j n)))
  cell_assigned_same st l m (x ∷ y ∷ z ∷ xs) v h k = refl

  test_same : (st : Store) (l : ℕ) (x : ExprValue) → IsExpr a l x → tested b st x ≡ tested (elsewhere b x' y') st x
  test_same st l x h = ap (λ r. if_ok r (λ v. Ok (not (is_zero v)))) (value_same st l x h)

  which : (t : Bool) (r q f g : Result Store Kind) → r ≡ f → q ≡ g → (if t then r else q) ≡ (if t then f else g)
  which true r q f g h k = h
  which false r q f g h k = k

  mutual
    unfolding after after_all

    after_same : (l : ℕ) (x : StmtValue) → IsStmt a l x → (st : Store) → after b x st ≡ after (elsewhere b x' y') x st
    after_same l (s.let_number at n x) h st = then_same (value b st x) (value (elsewhere b x' y') st x) (assigned st (place_of b n.what)) (assigned st (place_of (elsewhere b x' y') n.what)) (value_same st l x h.1) (assigned_same st n.what)
    after_same l (s.let_matrix at n dims) h st = refl
    after_same l (s.assign n x) h st = then_same (value b st x) (value (elsewhere b x' y') st x) (assigned st (place_of b n.what)) (assigned st (place_of (elsewhere b x' y') n.what)) (value_same st l x h.1) (assigned_same st n.what)
    after_same l (s.call_stmt ns c xs) h st = refl
    after_same l (s.assign_cell n xs x) h st = cell_assigned_same st l n.what xs x h.1 h.2
    after_same l (s.if_stmt at x ss) h st =
        then_same (tested b st x) (tested (elsewhere b x' y') st x) (λ t. if t then after_all b ss st else Ok st) (λ t. if t then after_all (elsewhere b x' y') ss st else Ok st) (test_same st l x h.0)
        (λ t. which t (after_all b ss st) (Ok st) (after_all (elsewhere b x' y') ss st) (Ok st) (all_same l ss h.1 st) refl)
    after_same l (s.if_else at x ss others) h st =
        then_same (tested b st x) (tested (elsewhere b x' y') st x) (λ t. if t then after_all b ss st else after_all b others st) (λ t. if t then after_all (elsewhere b x' y') ss st else after_all (elsewhere b x' y') others st) (test_same st l x h.0)
        (λ t. which t (after_all b ss st) (after_all b others st) (after_all (elsewhere b x' y') ss st) (after_all (elsewhere b x' y') others st) (all_same l ss h.1 st) (all_same l others h.2 st))
    after_same l (s.for_stmt at n x y ss) h st =
        then_same (value b st x) (value (elsewhere b x' y') st x)
        (λ low. if_ok (value b st y) (λ high. if_ok (turns low high) (λ k. each_turn (λ i turn. if_ok (assigned turn (place_of b n.what) i) (after_all b ss)) low k st)))
        (λ low. if_ok (value (elsewhere b x' y') st y) (λ high. if_ok (turns low high) (λ k. each_turn (λ i turn. if_ok (assigned turn (place_of (elsewhere b x' y') n.what) i) (after_all (elsewhere b x' y') ss)) low k st)))
        (value_same st l x h.1) (λ low.
        then_same (value b st y) (value (elsewhere b x' y') st y)
        (λ high. if_ok (turns low high) (λ k. each_turn (λ i turn. if_ok (assigned turn (place_of b n.what) i) (after_all b ss)) low k st))
        (λ high. if_ok (turns low high) (λ k. each_turn (λ i turn. if_ok (assigned turn (place_of (elsewhere b x' y') n.what) i) (after_all (elsewhere b x' y') ss)) low k st))
        (value_same st l y h.2) (λ high.
        then_same (turns low high) (turns low high)
        (λ k. each_turn (λ i turn. if_ok (assigned turn (place_of b n.what) i) (after_all b ss)) low k st)
        (λ k. each_turn (λ i turn. if_ok (assigned turn (place_of (elsewhere b x' y') n.what) i) (after_all (elsewhere b x' y') ss)) low k st)
        refl (λ k. turns_same (λ i turn. if_ok (assigned turn (place_of b n.what) i) (after_all b ss)) (λ i turn. if_ok (assigned turn (place_of (elsewhere b x' y') n.what) i) (after_all (elsewhere b x' y') ss))
        (λ i turn. then_same (assigned turn (place_of b n.what) i) (assigned turn (place_of (elsewhere b x' y') n.what) i) (after_all b ss) (after_all (elsewhere b x' y') ss) (assigned_same turn n.what i) (λ next. all_same (l + 1) ss h.3 next)) k low st)))

    all_same : (l : ℕ) (ss : StmtValues) → AreStmts a l ss → (st : Store) → after_all b ss st ≡ after_all (elsewhere b x' y') ss st
    all_same l no_stmts h st = refl
    all_same l (a_stmt x rest) h st = then_same (after b x st) (after (elsewhere b x' y') x st) (after_all b rest) (after_all (elsewhere b x' y') rest) (after_same l x h.0 st) (λ next. all_same (visible a l x) rest h.1 next)

  pub left_same : (ss : StmtValues) → AreStmts a 0 ss → left_by b ss ≡ left_by (elsewhere b x' y') ss
  left_same ss h = all_same 0 ss h at_first
