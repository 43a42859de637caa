-- What bodies make of numbers of 64 bits are numbers of 64 bits.
use Rattle.std.proofs.Common.{◌≡◌, refl, sym, subst, inl, inr, ◌⊎◌, ℕ, zero, suc, ◌+◌, ◌*◌, ◌^◌, ◌<◌, ℤ, pos, negsuc, ◌+ℤ◌, ◌-ℤ◌, ◌*ℤ◌, Bool, true, false, ◌&&◌, List, [], ◌∷◌, ◌++◌, length, map, take, drop, Option, Some, None, slice_get, arith}
use Rattle.std.specs.Prelude.{◌==◌, IfOk, Result, Ok, Err, int_div, int_rem, int_le, int_lt, nat_lt, neg_ℤ, slice_index, slice_index_or, unsigned_abs}
use Rattle.std.specs.List.{AllByRecursion, flat_map, range_with_len}
use Rattle.std.specs.Option.{ok_or}
use Rattle.std.proofs.Math.Bool.{cond}
use Rattle.std.proofs.lemmas.Bool.Decides.{nat_tests}
use Rattle.std.proofs.lemmas.Int.{ints, rem_below}
use Rattle.pb_syntax.specs.declared.tree.expression.Operator.{Operator}
use Rattle.pb_syntax.specs.declared.tree.expression.Operator.TheVariants as operator
use Rattle.pb_syntax.specs.declared.tree.expression.UnarySign.{UnarySign}
use Rattle.pb_syntax.specs.declared.tree.expression.UnarySign.TheVariants as sign
use Rattle.pb_values.specs.declared.outcome.Kind.{Kind}
use Rattle.pb_values.specs.declared.outcome.Kind.TheVariants.{OutOfView, BadShape, LoopLimit}
use Rattle.pb_values.specs.declared.outcome.Outcome.{Outcome}
use Rattle.pb_values.specs.declared.outcome.Trap.{Trap}
use Rattle.pb_values.specs.Checked.{checked_result, fits_i64, quotient, remainder}
use Rattle.pb_program.specs.declared.meaning.Callee.{Callee}
use Rattle.pb_program.specs.declared.meaning.Callee.TheVariants as callee
use Rattle.pb_program.specs.declared.meaning.Function.TheVariants as function
use Rattle.pb_program.specs.declared.meaning.Meaning.{Meaning}
use Rattle.pb_program.specs.declared.meaning.Meaning.TheVariants as meaning
use Rattle.pb_program.specs.Exprs.{ExprValue, ExprValues, OperandValues, no_exprs, an_expr, no_operands, an_operand}
use Rattle.pb_program.specs.Exprs as e
use Rattle.pb_program.specs.Forms.{DeclValue}
use Rattle.pb_program.specs.Stmts.{StmtValue, StmtValues, no_stmts, a_stmt, stmts}
use Rattle.pb_program.specs.Trees.{ProgRule}
use Rattle.pb_program.specs.Stmts as s
use Rattle.pb_model.specs.Bodies.{Bindings, Place, Store, after, after_all, assigned, assigned_cell, at_first, by_operator, called, cell_at, cell_in, dot_product, LOOP_LIMIT, each_turn, greater, if_ok, is_zero, left_by, lesser, named_view, number_of, operated, output, output_cells, outputs_from, place_of, products, put_at, put_inside, refused, related, signed_by, summed, tested, truth, turns, value, values, view_of, with_number}
use Rattle.pb_model.specs.Cells.{Cell, natural}
use Rattle.pb_model.specs.Equations.{after_body, bindings, cut_up, first_trap, number_in, rule_gives, trap_of, unless_trapped, view_sides}
use Rattle.pb_model.specs.Grids.{Grid, no_grid}

abbrev pub Fits : ℤ → Type 0
Fits z = fits_i64 z ≡ true

small_fits : (n : ℕ) → n < 2 ^ 63 → Fits (pos n)
small_fits n h = grind (arith, nat_tests, h)

zero_fits : Fits (pos 0)
zero_fits = small_fits 0 (omega arith)

one_fits : Fits (pos 1)
one_fits = small_fits 1 (omega arith)

truth_fits : (b : Bool) → Fits (truth b)
truth_fits true = one_fits
truth_fits false = zero_fits

-- ---- results
then_fits : {A B : Type 0} (P : A → Type 0) (Q : B → Type 0) (r : Result A Kind) (f : A → Result B Kind) → IfOk r P → ((a : A) → P a → IfOk (f a) Q) → IfOk (if_ok r f) Q
then_fits P Q (Ok a) f h k = k a h
then_fits P Q (Err x) f h k = tt

checked_fits : (z : ℤ) → IfOk (checked_result z) Fits
checked_fits z = by (fits_i64 z) refl
  where
    by : (b : Bool) → fits_i64 z ≡ b → IfOk (cond b (Ok z) (Err Rattle.pb_values.specs.declared.outcome.Kind.TheVariants.Overflow)) Fits
    by true e = e
    by false e = tt

-- ---- views
index_fits : (vs : List ℤ) (k : ℕ) → AllByRecursion Fits vs → Fits (slice_index_or vs k (pos 0))
index_fits [] k h = zero_fits
index_fits (v ∷ vs) zero h = h.0
index_fits (v ∷ vs) (suc k) h = index_fits vs k h.1

-- ---- operators
abs_fits : (z : ℤ) → unsigned_abs z < 2 ^ 63 → Fits z
abs_fits (pos n) h = small_fits n h
abs_fits (negsuc n) h = grind (arith, nat_tests, h)

fits_abs : (z : ℤ) → Fits z → unsigned_abs z < 2 ^ 63 + 1
fits_abs (pos n) h = grind (arith, nat_tests, h)
fits_abs (negsuc n) h = grind (arith, nat_tests, h)

where_ok : {A : Type 0} (b : Bool) (x : A) (k : Kind) (P : A → Type 0) → (b ≡ true → P x) → IfOk (cond b (Ok x) (Err k)) P
where_ok true x k P h = h refl
where_ok false x k P h = tt

quotient_fits : (a b : ℤ) → IfOk (quotient a b) Fits
quotient_fits a (pos zero) = tt
quotient_fits a (pos (suc n)) = where_ok (fits_i64 (int_div a (pos (suc n)))) (int_div a (pos (suc n))) _ Fits (λ e. e)
quotient_fits a (negsuc n) = where_ok (fits_i64 (int_div a (negsuc n))) (int_div a (negsuc n)) _ Fits (λ e. e)

remainder_fits : (a b : ℤ) → Fits b → IfOk (remainder a b) Fits
remainder_fits a (pos zero) h = tt
remainder_fits a (pos (suc n)) h =
    where_ok (fits_i64 (int_div a (pos (suc n)))) (int_rem a (pos (suc n))) _ Fits (λ e. abs_fits (int_rem a (pos (suc n))) (omega (arith, rem_below a (pos (suc n)) (omega arith), fits_abs (pos (suc n)) h)))
remainder_fits a (negsuc n) h =
    where_ok (fits_i64 (int_div a (negsuc n))) (int_rem a (negsuc n)) _ Fits (λ e. abs_fits (int_rem a (negsuc n)) (omega (arith, rem_below a (negsuc n) (omega arith), fits_abs (negsuc n) h)))

operated_fits : (o : Operator) (a b : ℤ) → Fits b → IfOk (operated o a b) Fits
operated_fits operator.Times a b h = checked_fits (a *ℤ b)
operated_fits operator.Over a b h = quotient_fits a b
operated_fits operator.Modulo a b h = remainder_fits a b h
operated_fits operator.Plus a b h = checked_fits (a +ℤ b)
operated_fits operator.Minus a b h = checked_fits (a -ℤ b)
operated_fits operator.And a b h = h
operated_fits operator.Or a b h = h

cond_ok : {A : Type 0} (b : Bool) (r q : Result A Kind) (P : A → Type 0) → IfOk r P → IfOk q P → IfOk (cond b r q) P
cond_ok true r q P h k = h
cond_ok false r q P h k = k

operator_fits : (o : Operator) (a : ℤ) (right : Result ℤ Kind) → IfOk right Fits → IfOk (by_operator o a right) Fits
operator_fits operator.Times a right h = then_fits Fits Fits right (operated operator.Times a) h (λ b f. operated_fits operator.Times a b f)
operator_fits operator.Over a right h = then_fits Fits Fits right (operated operator.Over a) h (λ b f. operated_fits operator.Over a b f)
operator_fits operator.Modulo a right h = then_fits Fits Fits right (operated operator.Modulo a) h (λ b f. operated_fits operator.Modulo a b f)
operator_fits operator.Plus a right h = then_fits Fits Fits right (operated operator.Plus a) h (λ b f. operated_fits operator.Plus a b f)
operator_fits operator.Minus a right h = then_fits Fits Fits right (operated operator.Minus a) h (λ b f. operated_fits operator.Minus a b f)
operator_fits operator.And a right h = cond_ok (is_zero a) (Ok (pos 0)) right Fits zero_fits h
operator_fits operator.Or a right h = cond_ok (is_zero a) right (Ok (pos 1)) Fits h one_fits

either_fits : (b : Bool) (x y : ℤ) → Fits x → Fits y → Fits (cond b x y)
either_fits true x y h k = h
either_fits false x y h k = k

sign_fits : (g : UnarySign) (a : ℤ) → IfOk (signed_by g a) Fits
sign_fits sign.Minus a = checked_fits (neg_ℤ a)
sign_fits sign.Not a = truth_fits (is_zero a)

-- ---- sums
sum_fits : (total : ℤ) (vs : List ℤ) → Fits total → IfOk (summed total vs) Fits
unfolding summed
sum_fits total [] h = h
sum_fits total (v ∷ vs) h = then_fits Fits Fits (checked_result (total +ℤ v)) (λ next. summed next vs) (checked_fits (total +ℤ v)) (λ next f. sum_fits next vs f)

products_fit : (total : ℤ) (vs ws : List ℤ) → Fits total → IfOk (products total vs ws) Fits
unfolding products
products_fit total [] ws h = h
products_fit total (v ∷ vs) [] h = h
products_fit total (v ∷ vs) (w ∷ ws) h =
    then_fits Fits Fits (checked_result (v *ℤ w)) (λ p. if_ok (checked_result (total +ℤ p)) (λ next. products next vs ws)) (checked_fits (v *ℤ w)) (λ p f.
    then_fits Fits Fits (checked_result (total +ℤ p)) (λ next. products next vs ws) (checked_fits (total +ℤ p)) (λ next g. products_fit next vs ws g))

dot_fits : (vs ws : List ℤ) → IfOk (dot_product vs ws) Fits
dot_fits vs ws = cond_ok (length vs == length ws) (products (pos 0) vs ws) (Err BadShape) Fits (products_fit (pos 0) vs ws zero_fits) tt

-- ---- what names stand for
pub record IsSeen (g : Grid ℤ) : Type 0 where
  pub cells : AllByRecursion Fits g.cells
  pub width : g.width < 2 ^ 63
  pub height : g.height < 2 ^ 63

pub record AreBound (b : Bindings) : Type 0 where
  pub sizes : AllByRecursion (λ n. n < 2 ^ 63) b.sizes
  pub x : Fits b.x
  pub y : Fits b.y
  pub reads : AllByRecursion IsSeen b.reads
  pub outs : AllByRecursion (λ (s : ℕ × ℕ). (s.0 < 2 ^ 63) × (s.1 < 2 ^ 63)) b.outs

abbrev pub IsStored : Store → Type 0
IsStored st = (p : Place) → Fits (st p)

append_fits : (xs ys : List ℤ) → AllByRecursion Fits xs → AllByRecursion Fits ys → AllByRecursion Fits (xs ++ ys)
append_fits [] ys h k = k
append_fits (x ∷ xs) ys h k = (h.0, append_fits xs ys h.1 k)

map_fits : {A : Type 0} (f : A → ℤ) (xs : List A) → ((x : A) → Fits (f x)) → AllByRecursion Fits (map f xs)
map_fits f [] each = tt
map_fits f (x ∷ xs) each = (each x, map_fits f xs each)

flat_fits : {A : Type 0} (f : A → List ℤ) (xs : List A) → ((x : A) → AllByRecursion Fits (f x)) → AllByRecursion Fits (flat_map f xs)
flat_fits f [] each = tt
flat_fits f (x ∷ xs) each = append_fits (f x) (flat_map f xs) (each x) (flat_fits f xs each)

pub output_fits : (st : Store) (k : ℕ) (sides : ℕ × ℕ) → IsStored st → AllByRecursion Fits (output_cells st k sides)
output_fits st k sides h = flat_fits (λ y. map (λ x. st (output k x y)) (range_with_len 0 sides.0)) (range_with_len 0 sides.1) (λ y. map_fits (λ x. st (output k x y)) (range_with_len 0 sides.0) (λ x. h (output k x y)))

grid_at : (gs : List (Grid ℤ)) (k : ℕ) → AllByRecursion IsSeen gs → IsSeen (slice_index_or gs k no_grid)
grid_at [] k h = record { cells = tt; width = omega arith; height = omega arith }
grid_at (g ∷ gs) zero h = h.0
grid_at (g ∷ gs) (suc k) h = grid_at gs k h.1

sides_at : (ss : List (ℕ × ℕ)) (k : ℕ) → AllByRecursion (λ (s : ℕ × ℕ). (s.0 < 2 ^ 63) × (s.1 < 2 ^ 63)) ss → ((slice_index_or ss k (0, 0)).0 < 2 ^ 63) × ((slice_index_or ss k (0, 0)).1 < 2 ^ 63)
sides_at [] k h = (omega arith, omega arith)
sides_at (s ∷ ss) zero h = h.0
sides_at (s ∷ ss) (suc k) h = sides_at ss k h.1

size_at : (sizes : List ℕ) (k : ℕ) → AllByRecursion (λ n. n < 2 ^ 63) sizes → slice_index sizes k < 2 ^ 63
size_at [] k h = omega arith
size_at (n ∷ sizes) zero h = h.0
size_at (n ∷ sizes) (suc k) h = size_at sizes k h.1

module _ (b : Bindings) (bound : AreBound b) (st : Store) (stored : IsStored st) where
  nothing_seen : IsSeen no_grid
  nothing_seen = record { cells = tt; width = omega arith; height = omega arith }

  seen_fits : (m : Meaning) → IsSeen (view_of b st m)
  unfolding view_of
  seen_fits (meaning.Read k) = grid_at b.reads k bound.reads
  seen_fits (meaning.Output k) = let sides = sides_at b.outs k bound.outs in record { cells = output_fits st k (slice_index_or b.outs k (0, 0)) stored; width = sides.0; height = sides.1 }
  seen_fits (meaning.Size k) = nothing_seen
  seen_fits meaning.RuleX = nothing_seen
  seen_fits meaning.RuleY = nothing_seen
  seen_fits (meaning.Number k) = nothing_seen
  seen_fits (meaning.Matrix k) = nothing_seen

  view_fits : (m : Meaning) → AllByRecursion Fits (view_of b st m).cells
  view_fits m = (seen_fits m).cells

  name_fits : (m : Meaning) → Fits (number_of b st m)
  unfolding number_of
  name_fits (meaning.Size k) = small_fits (slice_index b.sizes k) (size_at b.sizes k bound.sizes)
  name_fits meaning.RuleX = bound.x
  name_fits meaning.RuleY = bound.y
  name_fits (meaning.Number k) = stored (Rattle.pb_model.specs.Bodies.local k)
  name_fits (meaning.Read k) = index_fits (view_of b st (meaning.Read k)).cells 0 (view_fits (meaning.Read k))
  name_fits (meaning.Output k) = index_fits (view_of b st (meaning.Output k)).cells 0 (view_fits (meaning.Output k))
  name_fits (meaning.Matrix k) = index_fits (view_of b st (meaning.Matrix k)).cells 0 (view_fits (meaning.Matrix k))

  got_fits : (vs : List ℤ) (k : ℕ) → AllByRecursion Fits vs → IfOk (ok_or (slice_get vs k) OutOfView) Fits
  got_fits [] k h = tt
  got_fits (v ∷ vs) zero h = h.0
  got_fits (v ∷ vs) (suc k) h = got_fits vs k h.1

  none_ok : (inside : Bool) (g : Grid ℤ) (k : ℕ) → AllByRecursion Fits g.cells → IfOk (ok_or (cond inside (slice_get g.cells k) None) OutOfView) Fits
  none_ok true g k h = got_fits g.cells k h
  none_ok false g k h = tt

  cell_fits : (g : Grid ℤ) (x y : ℤ) → AllByRecursion Fits g.cells → IfOk (cell_in g x y) Fits
  cell_fits g (pos x) (pos y) h = none_ok (nat_lt x g.width && nat_lt y g.height) g (y * g.width + x) h
  cell_fits g (pos x) (negsuc y) h = tt
  cell_fits g (negsuc x) y h = tt

  mutual
    unfolding value values cell_at called

    pub value_fits : (x : ExprValue) → IfOk (value b st x) Fits
    value_fits (e.number at n) = checked_fits (pos n)
    value_fits (e.name n) = name_fits n.what
    value_fits (e.call c xs) = called_fits c.what xs
    value_fits (e.parentheses at x) = value_fits x
    value_fits (e.cell v xs) = cell_at_fits v.what xs
    value_fits (e.width v) = small_fits (view_of b st v.what).width (seen_fits v.what).width
    value_fits (e.height v) = small_fits (view_of b st v.what).height (seen_fits v.what).height
    value_fits (e.signed at sign x) = then_fits Fits Fits (value b st x) (signed_by sign) (value_fits x) (λ a f. sign_fits sign a)
    value_fits (e.chain level x rest) = then_fits Fits Fits (value b st x) (λ a. values b st a rest) (value_fits x) (λ a f. values_fit a f rest)
    value_fits (e.compare x relation y) =
        then_fits Fits Fits (value b st x) (λ l. if_ok (value b st y) (λ r. Ok (truth (related l relation r)))) (value_fits x) (λ l f.
        then_fits Fits Fits (value b st y) (λ r. Ok (truth (related l relation r))) (value_fits y) (λ r g. truth_fits (related l relation r)))

    values_fit : (a : ℤ) → Fits a → (rest : OperandValues) → IfOk (values b st a rest) Fits
    values_fit a f no_operands = f
    values_fit a f (an_operand o x rest) = then_fits Fits Fits (by_operator o a (value b st x)) (λ next. values b st next rest) (operator_fits o a (value b st x) (value_fits x)) (λ next g. values_fit next g rest)

    cell_at_fits : (v : Meaning) (xs : ExprValues) → IfOk (cell_at b st v xs) Fits
    cell_at_fits v no_exprs = tt
    cell_at_fits v (an_expr x no_exprs) = then_fits Fits Fits (value b st x) (λ i. cell_in (view_of b st v) i (pos 0)) (value_fits x) (λ i f. cell_fits (view_of b st v) i (pos 0) (view_fits v))
    cell_at_fits v (an_expr x (an_expr y no_exprs)) =
        then_fits Fits Fits (value b st x) (λ i. if_ok (value b st y) (λ j. cell_in (view_of b st v) i j)) (value_fits x) (λ i f.
        then_fits Fits Fits (value b st y) (λ j. cell_in (view_of b st v) i j) (value_fits y) (λ j g. cell_fits (view_of b st v) i j (view_fits v)))
    cell_at_fits v (an_expr x (an_expr y (an_expr z rest))) = tt

    called_fits : (c : Callee) (xs : ExprValues) → IfOk (called b st c xs) Fits
    called_fits (callee.Transform t) xs = tt
    called_fits (callee.Function function.Sum) no_exprs = tt
    called_fits (callee.Function function.Sum) (an_expr v no_exprs) = sum_fits (pos 0) (named_view b st v).cells zero_fits
    called_fits (callee.Function function.Sum) (an_expr v (an_expr w rest)) = tt
    called_fits (callee.Function function.Dot) no_exprs = tt
    called_fits (callee.Function function.Dot) (an_expr v no_exprs) = tt
    called_fits (callee.Function function.Dot) (an_expr v (an_expr w no_exprs)) = dot_fits (named_view b st v).cells (named_view b st w).cells
    called_fits (callee.Function function.Dot) (an_expr v (an_expr w (an_expr z rest))) = tt
    called_fits (callee.Function function.Min) no_exprs = tt
    called_fits (callee.Function function.Min) (an_expr x no_exprs) = tt
    called_fits (callee.Function function.Min) (an_expr x (an_expr y no_exprs)) =
        then_fits Fits Fits (value b st x) (λ i. if_ok (value b st y) (λ j. Ok (lesser i j))) (value_fits x) (λ i f.
        then_fits Fits Fits (value b st y) (λ j. Ok (lesser i j)) (value_fits y) (λ j g. either_fits (int_le i j) i j f g))
    called_fits (callee.Function function.Min) (an_expr x (an_expr y (an_expr z rest))) = tt
    called_fits (callee.Function function.Max) no_exprs = tt
    called_fits (callee.Function function.Max) (an_expr x no_exprs) = tt
    called_fits (callee.Function function.Max) (an_expr x (an_expr y no_exprs)) =
        then_fits Fits Fits (value b st x) (λ i. if_ok (value b st y) (λ j. Ok (greater i j))) (value_fits x) (λ i f.
        then_fits Fits Fits (value b st y) (λ j. Ok (greater i j)) (value_fits y) (λ j g. either_fits (int_le i j) j i g f))
    called_fits (callee.Function function.Max) (an_expr x (an_expr y (an_expr z rest))) = tt
    called_fits (callee.Function function.Abs) no_exprs = tt
    called_fits (callee.Function function.Abs) (an_expr x no_exprs) = then_fits Fits Fits (value b st x) (λ i. checked_result (pos (unsigned_abs i))) (value_fits x) (λ i f. checked_fits (pos (unsigned_abs i)))
    called_fits (callee.Function function.Abs) (an_expr x (an_expr y rest)) = tt

-- ---- statements
put_fits : (st : Store) (p : Place) (n : ℤ) → IsStored st → Fits n → IsStored (with_number st p n)
unfolding with_number
put_fits st p n stored f q = either_fits (Rattle.pb_model.specs.Bodies.same_place q p) n (st q) f (stored q)

assigned_fits : (st : Store) (p : Option Place) (n : ℤ) → IsStored st → Fits n → IfOk (assigned st p n) IsStored
assigned_fits st (Some p) n stored f = put_fits st p n stored f
assigned_fits st None n stored f = tt

inside_fits : (st : Store) (k : ℕ) (sides : ℕ × ℕ) (x y n : ℤ) → IsStored st → Fits n → IfOk (put_inside st k sides x y n) IsStored
inside_fits st k sides (pos x) (pos y) n stored f = where_ok (nat_lt x sides.0 && nat_lt y sides.1) (with_number st (output k x y) n) OutOfView IsStored (λ e. put_fits st (output k x y) n stored f)
inside_fits st k sides (pos x) (negsuc y) n stored f = tt
inside_fits st k sides (negsuc x) y n stored f = tt

put_at_fits : (b : Bindings) (st : Store) (m : Meaning) (x y n : ℤ) → IsStored st → Fits n → IfOk (put_at b st m x y n) IsStored
put_at_fits b st (meaning.Output k) x y n stored f = inside_fits st k (slice_index_or b.outs k (0, 0)) x y n stored f
put_at_fits b st (meaning.Read k) x y n stored f = tt
put_at_fits b st (meaning.Size k) x y n stored f = tt
put_at_fits b st meaning.RuleX x y n stored f = tt
put_at_fits b st meaning.RuleY x y n stored f = tt
put_at_fits b st (meaning.Number k) x y n stored f = tt
put_at_fits b st (meaning.Matrix k) x y n stored f = tt

-- the turns of a loop have numbers of 64 bits, where its ends are
turn_fits : (f : ℤ → Store → Result Store Kind) → ((i : ℤ) (st : Store) → Fits i → IsStored st → IfOk (f i st) IsStored) → (n : ℕ) (low : ℤ) (st : Store) → (n ≡ 0) ⊎ (Fits low × Fits (low +ℤ pos n)) → IsStored st → IfOk (each_turn f low n st) IsStored
unfolding each_turn
turn_fits f each zero low st within stored = stored
turn_fits f each (suc n) low st (inl none) stored = absurd (omega (arith, none))
turn_fits f each (suc n) low st (inr within) stored =
    then_fits IsStored IsStored (f low st) (each_turn f (low +ℤ pos 1) n) (each low st within.0 stored) (λ next h. turn_fits f each n (low +ℤ pos 1) next (between n low within.0 within.1) h)
  where
    between : (n : ℕ) (low : ℤ) → Fits low → Fits (low +ℤ pos (suc n)) → (n ≡ 0) ⊎ (Fits (low +ℤ pos 1) × Fits ((low +ℤ pos 1) +ℤ pos n))
    between n low f g = inr (grind (arith, ints, nat_tests, f, g), grind (arith, ints, nat_tests, f, g))

turns_are : (low high : ℤ) → Fits low → Fits high → IfOk (turns low high) (λ n. (n ≡ 0) ⊎ (Fits low × Fits (low +ℤ pos n)))
unfolding turns
turns_are low high f g =
    cond_ok (int_lt (pos LOOP_LIMIT) (high -ℤ low)) (Err LoopLimit) (Ok (natural (high -ℤ low))) (λ n. (n ≡ 0) ⊎ (Fits low × Fits (low +ℤ pos n))) tt (by (high -ℤ low) refl)
  where
    by : (z : ℤ) → high -ℤ low ≡ z → (natural z ≡ 0) ⊎ (Fits low × Fits (low +ℤ pos (natural z)))
    by (pos n) e = let here : low +ℤ pos n ≡ high = omega (arith, ints, e) in inr (f, subst Fits (sym here) g)
    by (negsuc n) e = inl refl

module _ (b : Bindings) (bound : AreBound b) where
  tested_then : (st : Store) (x : ExprValue) (f : Bool → Result Store Kind) → ((t : Bool) → IfOk (f t) IsStored) → IfOk (if_ok (tested b st x) f) IsStored
  tested_then st x f each = by (tested b st x)
    where
      by : (r : Result Bool Kind) → IfOk (if_ok r f) IsStored
      by (Ok t) = each t
      by (Err k) = tt

  cell_assigned : (st : Store) (m : Meaning) (xs : List ExprValue) (v : ExprValue) → IsStored st → IfOk (assigned_cell b st m xs v) IsStored
  cell_assigned st m [] v stored = tt
  cell_assigned st m (x ∷ []) v stored =
      then_fits Fits IsStored (value b st x) _ (value_fits b bound st stored x) (λ i f. then_fits Fits IsStored (value b st v) _ (value_fits b bound st stored v) (λ n g. put_at_fits b st m i (pos 0) n stored g))
  cell_assigned st m (x ∷ y ∷ []) v stored =
      then_fits Fits IsStored (value b st x) _ (value_fits b bound st stored x) (λ i f. then_fits Fits IsStored (value b st y) _ (value_fits b bound st stored y) (λ j h.
      then_fits Fits IsStored (value b st v) _ (value_fits b bound st stored v) (λ n g. put_at_fits b st m i j n stored g)))
  cell_assigned st m (x ∷ y ∷ z ∷ rest) v stored = tt

  if_fits : (t : Bool) (r q : Result Store Kind) → IfOk r IsStored → IfOk q IsStored → IfOk (cond t r q) IsStored
  if_fits true r q h k = h
  if_fits false r q h k = k

  mutual
    unfolding after after_all

    after_fits : (x : StmtValue) (st : Store) → IsStored st → IfOk (after b x st) IsStored
    after_fits (s.let_number at n x) st stored = then_fits Fits IsStored (value b st x) (assigned st (place_of b n.what)) (value_fits b bound st stored x) (λ v f. assigned_fits st (place_of b n.what) v stored f)
    after_fits (s.let_matrix at n dims) st stored = tt
    after_fits (s.assign n x) st stored = then_fits Fits IsStored (value b st x) (assigned st (place_of b n.what)) (value_fits b bound st stored x) (λ v f. assigned_fits st (place_of b n.what) v stored f)
    after_fits (s.call_stmt ns c xs) st stored = tt
    after_fits (s.assign_cell n xs x) st stored = cell_assigned st n.what xs x stored
    after_fits (s.if_stmt at x ss) st stored = tested_then st x _ (λ t. if_fits t (after_all b ss st) (Ok st) (all_fit ss st stored) stored)
    after_fits (s.if_else at x ss others) st stored = tested_then st x _ (λ t. if_fits t (after_all b ss st) (after_all b others st) (all_fit ss st stored) (all_fit others st stored))
    after_fits (s.for_stmt at n x y ss) st stored =
        then_fits Fits IsStored (value b st x) _ (value_fits b bound st stored x) (λ low f.
        then_fits Fits IsStored (value b st y) _ (value_fits b bound st stored y) (λ high g.
        then_fits (λ k. (k ≡ 0) ⊎ (Fits low × Fits (low +ℤ pos k))) IsStored (turns low high) _ (turns_are low high f g) (λ k within.
        turn_fits (λ i turn. if_ok (assigned turn (place_of b n.what) i) (after_all b ss))
        (λ i turn h held. then_fits IsStored IsStored (assigned turn (place_of b n.what) i) (after_all b ss) (assigned_fits turn (place_of b n.what) i held h) (λ next kept. all_fit ss next kept)) k low st within stored)))

    all_fit : (ss : StmtValues) (st : Store) → IsStored st → IfOk (after_all b ss st) IsStored
    all_fit no_stmts st stored = stored
    all_fit (a_stmt x rest) st stored = then_fits IsStored IsStored (after b x st) (after_all b rest) (after_fits x st stored) (λ next h. all_fit rest next h)

  pub body_fits : (ss : StmtValues) → IfOk (left_by b ss) IsStored
  body_fits ss = all_fit ss at_first (λ p. zero_fits)

-- the numbers of all outputs
pub outputs_fit : (k : ℕ) (st : Store) (ss : List (ℕ × ℕ)) → IsStored st → AllByRecursion Fits (outputs_from k st ss)
outputs_fit k st [] stored = tt
outputs_fit k st (sides ∷ rest) stored = append_fits (output_cells st k sides) (outputs_from (k + 1) st rest) (output_fits st k sides stored) (outputs_fit (k + 1) st rest stored)

-- ---- what a rule gives
taken_fit : (n : ℕ) (vs : List ℤ) → AllByRecursion Fits vs → AllByRecursion Fits (take n vs)
taken_fit zero vs h = tt
taken_fit (suc n) [] h = tt
taken_fit (suc n) (v ∷ vs) h = (h.0, taken_fit n vs h.1)

dropped_fit : (n : ℕ) (vs : List ℤ) → AllByRecursion Fits vs → AllByRecursion Fits (drop n vs)
dropped_fit zero vs h = h
dropped_fit (suc n) [] h = tt
dropped_fit (suc n) (v ∷ vs) h = dropped_fit n vs h.1

abbrev pub IsSmallSide : ℕ × ℕ → Type 0
IsSmallSide s = (s.0 < 2 ^ 63) × (s.1 < 2 ^ 63)

cut_fit : (ss : List (ℕ × ℕ)) (vs : List ℤ) → AllByRecursion IsSmallSide ss → AllByRecursion Fits vs → AllByRecursion IsSeen (cut_up ss vs)
cut_fit [] vs h k = tt
cut_fit (s ∷ ss) vs h k = (record { cells = taken_fit (s.0 * s.1) vs k; width = h.0.0; height = h.0.1 }, cut_fit ss (drop (s.0 * s.1) vs) h.1 (dropped_fit (s.0 * s.1) vs k))

abbrev pub HasNumber : Outcome → Type 0
HasNumber o = Fits (number_in o)

seen_numbers : (os : List Outcome) → AllByRecursion HasNumber os → AllByRecursion Fits (map number_in os)
seen_numbers [] h = tt
seen_numbers (o ∷ os) h = (h.0, seen_numbers os h.1)

module _ (matrices : List DeclValue) (sizes : List ℕ) (c : Cell) (transform rule : ℕ) (r : ProgRule) (seen : List Outcome)
    (few : AllByRecursion (λ n. n < 2 ^ 63) sizes) (x : c.x < 2 ^ 63) (y : c.y < 2 ^ 63) (reads : AllByRecursion IsSmallSide (map (view_sides matrices sizes c) r.reads)) (outs : AllByRecursion IsSmallSide (map (view_sides matrices sizes c) r.outs))
    (fit : AllByRecursion HasNumber seen) where
  bound : AreBound (bindings matrices sizes c r (map number_in seen))
  bound = record { sizes = few; x = small_fits c.x x; y = small_fits c.y y; reads = cut_fit (map (view_sides matrices sizes c) r.reads) (map number_in seen) reads (seen_numbers seen fit); outs = outs }

  numbers_by : (t : Option Trap) (made : Result Store Kind) → IfOk made IsStored → IfOk (unless_trapped t (after_body made (λ st. outputs_from 0 st (map (view_sides matrices sizes c) r.outs)) (trap_of matrices sizes c transform rule r))) (AllByRecursion Fits)
  numbers_by (Some t) made h = tt
  numbers_by None (Ok st) h = outputs_fit 0 st (map (view_sides matrices sizes c) r.outs) h
  numbers_by None (Err k) h = tt

  pub gives_fit : IfOk (rule_gives matrices sizes c transform rule r seen) (AllByRecursion Fits)
  unfolding rule_gives
  gives_fit = numbers_by (first_trap seen) (left_by (bindings matrices sizes c r (map number_in seen)) (stmts r.body)) (body_fits (bindings matrices sizes c r (map number_in seen)) bound (stmts r.body))
