-- Arguments and coordinates as they are held.
use Rattle.std.proofs.Common.{◌≡◌, ◌∙◌, refl, sym, ap, ◌<◌, ◌≤◌, ℤ, pos, List, [], ◌∷◌, length, get_or, Bool, true, false, Some, None, Ok, Err, Result, arith}
use Rattle.std.specs.Prelude.{unsigned_abs, if◌then◌else◌}
use Rattle.pb_values.specs.Checked.{checked_result}
use Rattle.pb_values.specs.declared.outcome.Kind.{Kind}
use Rattle.pb_values.specs.declared.outcome.Kind.TheVariants.{OutOfView}
use Rattle.pb_program.specs.declared.expression.Expr.{Expr}
use Rattle.pb_program.specs.declared.meaning.Function.TheVariants as function
use Rattle.pb_program.specs.declared.meaning.Meaning.{Meaning}
use Rattle.pb_program.specs.declared.meaning.Meaning.TheVariants.{RuleX}
use Rattle.pb_program.specs.declared.meaning.Named.{Named}
use Rattle.pb_program.specs.Exprs.{bare}
use Rattle.pb_program.specs.Exprs as e
use Rattle.pb_model.specs.Bodies.{Bindings, Store, by_operator, called, cell_at, cell_in, dot_product, greater, if_ok, is_zero, lesser, named_view, operated, put_at, summed, view_of}
use Rattle.pb_model.specs.Grids.{no_grid}
use Rattle.pb_syntax.specs.declared.tree.expression.Operator.{Operator}
use Rattle.pb_syntax.specs.declared.tree.expression.Operator.TheVariants as operator
use Rattle.pb_numbers.specs.Deciding.{decided}
use Rattle.pb_statements.specs.Working.{assign_cell_in, called_in, lone_name, operand_in, cell_in_list, function_in, pair_in, place_in, single_in, value_in, view_in}

one_item : (xs : List Expr) (x : Expr) → 1 ≤ length xs → length xs < 2 → x ≡ get_or xs 0 x → xs ≡ x ∷ []
one_item [] x some few is = absurd (omega arith)
one_item (y ∷ []) x some few is = ap (λ z. z ∷ []) (sym is)
one_item (y ∷ z ∷ l) x some few is = absurd (omega arith)

pub two_items : (xs : List Expr) (x y : Expr) → 2 ≤ length xs → length xs < 3 → x ≡ get_or xs 0 x → y ≡ get_or xs 1 y → xs ≡ x ∷ y ∷ []
two_items [] x y some few ix iy = absurd (omega arith)
two_items (a ∷ []) x y some few ix iy = absurd (omega arith)
two_items (a ∷ b ∷ []) x y some few ix iy = ap (λ z. z ∷ b ∷ []) (sym ix) ∙ ap (λ z. x ∷ z ∷ []) (sym iy)
two_items (a ∷ b ∷ c ∷ l) x y some few ix iy = absurd (omega arith)

kept : (r : Result ℤ Kind) → r ≡ if_ok r (λ a. Ok a)
kept (Ok a) = refl
kept (Err k) = refl

-- ---- where the left side decides, and where it doesn't
pub by_decided : (o : Operator) (a n : ℤ) (r : Result ℤ Kind) → decided o a ≡ Some n → Ok n ≡ by_operator o a r
by_decided operator.And a n r h = by (is_zero a) h
  where
    by : (z : Bool) → (if z then Some (pos 0) else None) ≡ Some n → Ok n ≡ (if z then Ok (pos 0) else r)
    by true h = cc
    by false h = absurd (cc)
by_decided operator.Or a n r h = by (is_zero a) h
  where
    by : (z : Bool) → (if z then None else Some (pos 1)) ≡ Some n → Ok n ≡ (if z then r else Ok (pos 1))
    by true h = absurd (cc)
    by false h = cc
by_decided operator.Times a n r h = absurd (cc)
by_decided operator.Over a n r h = absurd (cc)
by_decided operator.Modulo a n r h = absurd (cc)
by_decided operator.Plus a n r h = absurd (cc)
by_decided operator.Minus a n r h = absurd (cc)

pub by_open : (o : Operator) (a : ℤ) (r : Result ℤ Kind) → decided o a ≡ None → by_operator o a r ≡ if_ok r (operated o a)
by_open operator.And a r h = by (is_zero a) h
  where
    by : (z : Bool) → (if z then Some (pos 0) else None) ≡ None → (if z then Ok (pos 0) else r) ≡ if_ok r (λ v. Ok v)
    by true h = absurd (cc)
    by false h = kept r
by_open operator.Or a r h = by (is_zero a) h
  where
    by : (z : Bool) → (if z then None else Some (pos 1)) ≡ None → (if z then r else Ok (pos 1)) ≡ if_ok r (λ v. Ok v)
    by true h = kept r
    by false h = absurd (cc)
by_open operator.Times a r h = refl
by_open operator.Over a r h = refl
by_open operator.Modulo a r h = refl
by_open operator.Plus a r h = refl
by_open operator.Minus a r h = refl

module _ (b : Bindings) (st : Store) where
  pub single_there : (xs : List Expr) (x : Expr) → 1 ≤ length xs → length xs < 2 → x ≡ get_or xs 0 x → value_in b st x ≡ single_in b st xs
  unfolding single_in
  single_there xs x some few is = sym (ap (single_in b st) (one_item xs x some few is))

  pub single_none : (xs : List Expr) → length xs < 1 → Err OutOfView ≡ single_in b st xs
  unfolding single_in
  single_none [] h = refl
  single_none (x ∷ xs) h = absurd (omega arith)

  pub single_more : (xs : List Expr) → 2 ≤ length xs → Err OutOfView ≡ single_in b st xs
  unfolding single_in
  single_more [] h = absurd (omega arith)
  single_more (x ∷ []) h = absurd (omega arith)
  single_more (x ∷ y ∷ xs) h = refl

  pub pair_there : (xs : List Expr) (x y : Expr) → 2 ≤ length xs → length xs < 3 → x ≡ get_or xs 0 x → y ≡ get_or xs 1 y → if_ok (value_in b st x) (λ i. if_ok (value_in b st y) (λ j. Ok (i, j))) ≡ pair_in b st xs
  unfolding pair_in
  pair_there xs x y some few ix iy = sym (ap (pair_in b st) (two_items xs x y some few ix iy))

  pub pair_first : (xs : List Expr) (x y : Expr) (k : Kind) → 2 ≤ length xs → length xs < 3 → x ≡ get_or xs 0 x → y ≡ get_or xs 1 y → value_in b st x ≡ Err k → Err k ≡ pair_in b st xs
  pair_first xs x y k some few ix iy e = ap (λ r. if_ok {A = ℤ} {B = ℤ × ℤ} r (λ i. if_ok {A = ℤ} {B = ℤ × ℤ} (value_in b st y) (λ j. Ok (i, j)))) (sym e) ∙ pair_there xs x y some few ix iy

  pub pair_second : (xs : List Expr) (x y : Expr) (i : ℤ) (k : Kind) → 2 ≤ length xs → length xs < 3 → x ≡ get_or xs 0 x → y ≡ get_or xs 1 y → value_in b st x ≡ Ok i → value_in b st y ≡ Err k → Err k ≡ pair_in b st xs
  pair_second xs x y i k some few ix iy d e =
      ap (λ r. if_ok {A = ℤ} {B = ℤ × ℤ} r (λ j. Ok (i, j))) (sym e) ∙ ap (λ r. if_ok {A = ℤ} {B = ℤ × ℤ} r (λ n. if_ok {A = ℤ} {B = ℤ × ℤ} (value_in b st y) (λ j. Ok (n, j)))) (sym d)
      ∙ pair_there xs x y some few ix iy

  pub pair_both : (xs : List Expr) (x y : Expr) (i j n m : ℤ) → 2 ≤ length xs → length xs < 3 → x ≡ get_or xs 0 x → y ≡ get_or xs 1 y → value_in b st x ≡ Ok i → value_in b st y ≡ Ok j → n ≡ i → m ≡ j
      → ◌≡◌ {A = Result (ℤ × ℤ) Kind} (Ok (n, m)) (pair_in b st xs)
  pair_both xs x y i j n m some few ix iy d e p q =
      (λ k. Ok (p k, q k)) ∙ ap (λ r. if_ok {A = ℤ} {B = ℤ × ℤ} r (λ j. Ok (i, j))) (sym e) ∙ ap (λ r. if_ok {A = ℤ} {B = ℤ × ℤ} r (λ n. if_ok {A = ℤ} {B = ℤ × ℤ} (value_in b st y) (λ j. Ok (n, j)))) (sym d)
      ∙ pair_there xs x y some few ix iy

  pub pair_none : (xs : List Expr) → length xs < 2 → Err OutOfView ≡ pair_in b st xs
  unfolding pair_in
  pair_none [] h = refl
  pair_none (x ∷ []) h = refl
  pair_none (x ∷ y ∷ xs) h = absurd (omega arith)

  pub pair_more : (xs : List Expr) → 3 ≤ length xs → Err OutOfView ≡ pair_in b st xs
  unfolding pair_in
  pair_more [] h = absurd (omega arith)
  pair_more (x ∷ []) h = absurd (omega arith)
  pair_more (x ∷ y ∷ []) h = absurd (omega arith)
  pair_more (x ∷ y ∷ z ∷ xs) h = refl

  pub place_single : (xs : List Expr) → length xs ≡ 1 → place_in b st xs ≡ if_ok {A = ℤ} {B = ℤ × ℤ} (single_in b st xs) (λ i. Ok (i, pos 0))
  unfolding place_in single_in
  place_single [] h = absurd (omega arith)
  place_single (x ∷ []) h = refl
  place_single (x ∷ y ∷ xs) h = absurd (omega arith)

  pub place_pair : (xs : List Expr) → (length xs ≡ 1 → ⊥) → pair_in b st xs ≡ place_in b st xs
  unfolding place_in pair_in
  place_pair [] h = refl
  place_pair (x ∷ []) h = absurd (h refl)
  place_pair (x ∷ y ∷ []) h = refl
  place_pair (x ∷ y ∷ z ∷ xs) h = refl

  pairs : {A : Type 0} (r s : Result ℤ Kind) (f : ℤ → ℤ → Result A Kind)
      → if_ok r (λ i. if_ok s (f i)) ≡ if_ok {A = ℤ × ℤ} {B = A} (if_ok {A = ℤ} {B = ℤ × ℤ} r (λ i. if_ok {A = ℤ} {B = ℤ × ℤ} s (λ j. Ok (i, j)))) (λ p. f p.0 p.1)
  pairs (Ok i) (Ok j) f = refl
  pairs (Ok i) (Err k) f = refl
  pairs (Err k) s f = refl

  alone : {A : Type 0} (r : Result ℤ Kind) (f : ℤ → ℤ → Result A Kind) → if_ok r (λ i. f i (pos 0)) ≡ if_ok {A = ℤ × ℤ} {B = A} (if_ok {A = ℤ} {B = ℤ × ℤ} r (λ i. Ok (i, pos 0))) (λ p. f p.0 p.1)
  alone (Ok i) f = refl
  alone (Err k) f = refl

  pub cell_placed : (m : Meaning) (xs : List Expr) → cell_in_list b st m xs ≡ if_ok (place_in b st xs) (λ p. cell_in (view_of b st m) p.0 p.1)
  unfolding cell_in_list place_in value_in cell_at
  cell_placed m [] = refl
  cell_placed m (x ∷ []) = alone (value_in b st x) (cell_in (view_of b st m))
  cell_placed m (x ∷ y ∷ []) = pairs (value_in b st x) (value_in b st y) (cell_in (view_of b st m))
  cell_placed m (x ∷ y ∷ z ∷ xs) = refl

  pub cell_found : (m : Meaning) (xs : List Expr) (r : Result ℤ Kind) (i j u v : ℤ) → place_in b st xs ≡ Ok (i, j) → u ≡ i → v ≡ j → r ≡ cell_in (view_of b st m) u v → r ≡ cell_in_list b st m xs
  cell_found m xs r i j u v there same_i same_j is = is ∙ ap (λ n. cell_in (view_of b st m) n v) same_i ∙ ap (λ n. cell_in (view_of b st m) i n) same_j
      ∙ sym (cell_placed m xs ∙ ap (λ p. if_ok p (λ q. cell_in (view_of b st m) q.0 q.1)) there)

  thrice : {A : Type 0} (r s t : Result ℤ Kind) (f : ℤ → ℤ → ℤ → Result A Kind)
      → if_ok r (λ i. if_ok s (λ j. if_ok t (f i j))) ≡ if_ok {A = ℤ × ℤ} {B = A} (if_ok {A = ℤ} {B = ℤ × ℤ} r (λ i. if_ok {A = ℤ} {B = ℤ × ℤ} s (λ j. Ok (i, j)))) (λ p. if_ok t (f p.0 p.1))
  thrice (Ok i) (Ok j) t f = refl
  thrice (Ok i) (Err k) t f = refl
  thrice (Err k) s t f = refl

  pub assign_placed : (m : Meaning) (xs : List Expr) (x : Expr) → assign_cell_in b m xs x st ≡ if_ok (place_in b st xs) (λ p. if_ok (value_in b st x) (put_at b st m p.0 p.1))
  unfolding assign_cell_in place_in value_in
  assign_placed m [] x = refl
  assign_placed m (a ∷ []) x = alone (value_in b st a) (λ i j. if_ok (value_in b st x) (put_at b st m i j))
  assign_placed m (a ∷ c ∷ []) x = thrice (value_in b st a) (value_in b st c) (value_in b st x) (put_at b st m)
  assign_placed m (a ∷ c ∷ d ∷ xs) x = refl

  pub min_in : (xs : List Expr) → function_in b st function.Min xs ≡ if_ok (pair_in b st xs) (λ p. Ok (lesser p.0 p.1))
  unfolding function_in called_in pair_in value_in called
  min_in [] = refl
  min_in (x ∷ []) = refl
  min_in (x ∷ y ∷ []) = pairs (value_in b st x) (value_in b st y) (λ i j. Ok (lesser i j))
  min_in (x ∷ y ∷ z ∷ xs) = refl

  pub max_in : (xs : List Expr) → function_in b st function.Max xs ≡ if_ok (pair_in b st xs) (λ p. Ok (greater p.0 p.1))
  unfolding function_in called_in pair_in value_in called
  max_in [] = refl
  max_in (x ∷ []) = refl
  max_in (x ∷ y ∷ []) = pairs (value_in b st x) (value_in b st y) (λ i j. Ok (greater i j))
  max_in (x ∷ y ∷ z ∷ xs) = refl

  pub abs_in : (xs : List Expr) → function_in b st function.Abs xs ≡ if_ok (single_in b st xs) (λ i. checked_result (pos (unsigned_abs i)))
  unfolding function_in called_in single_in value_in called
  abs_in [] = refl
  abs_in (x ∷ []) = refl
  abs_in (x ∷ y ∷ xs) = refl

  pub sum_there : (xs : List Expr) (x : Expr) → 1 ≤ length xs → length xs < 2 → x ≡ get_or xs 0 x → summed (pos 0) (view_in b st x).cells ≡ function_in b st function.Sum xs
  unfolding function_in called_in view_in called
  sum_there xs x some few is = sym (ap (function_in b st function.Sum) (one_item xs x some few is))

  pub sum_none : (xs : List Expr) → length xs < 1 → Err OutOfView ≡ function_in b st function.Sum xs
  unfolding function_in called_in called
  sum_none [] h = refl
  sum_none (x ∷ xs) h = absurd (omega arith)

  pub sum_more : (xs : List Expr) → 2 ≤ length xs → Err OutOfView ≡ function_in b st function.Sum xs
  unfolding function_in called_in called
  sum_more [] h = absurd (omega arith)
  sum_more (x ∷ []) h = absurd (omega arith)
  sum_more (x ∷ y ∷ xs) h = refl

  pub dot_there : (xs : List Expr) (x y : Expr) → 2 ≤ length xs → length xs < 3 → x ≡ get_or xs 0 x → y ≡ get_or xs 1 y → dot_product (view_in b st x).cells (view_in b st y).cells ≡ function_in b st function.Dot xs
  unfolding function_in called_in view_in called
  dot_there xs x y some few ix iy = sym (ap (function_in b st function.Dot) (two_items xs x y some few ix iy))

  pub dot_none : (xs : List Expr) → length xs < 2 → Err OutOfView ≡ function_in b st function.Dot xs
  unfolding function_in called_in called
  dot_none [] h = refl
  dot_none (x ∷ []) h = refl
  dot_none (x ∷ y ∷ xs) h = absurd (omega arith)

  pub dot_more : (xs : List Expr) → 3 ≤ length xs → Err OutOfView ≡ function_in b st function.Dot xs
  unfolding function_in called_in called
  dot_more [] h = absurd (omega arith)
  dot_more (x ∷ []) h = absurd (omega arith)
  dot_more (x ∷ y ∷ []) h = absurd (omega arith)
  dot_more (x ∷ y ∷ z ∷ xs) h = refl

  pub operand_decided : (o : Operator) (a n : ℤ) (x : Expr) → decided o a ≡ Some n → Ok n ≡ operand_in b st a o x
  unfolding operand_in
  operand_decided o a n x = by_decided o a n (value_in b st x)

  pub operand_open : (o : Operator) (a : ℤ) (x : Expr) → decided o a ≡ None → operand_in b st a o x ≡ if_ok (value_in b st x) (operated o a)
  unfolding operand_in
  operand_open o a x = by_open o a (value_in b st x)

  pub named_is : (x : Expr) (n : Named) → lone_name (bare x) ≡ Some n → view_of b st n.what ≡ view_in b st x
  unfolding view_in
  named_is x n h = by (bare x) h
    where
      by : (v : e.ExprValue) → lone_name v ≡ Some n → view_of b st n.what ≡ named_view b st v
      by (e.name m) h = let k : n ≡ m = cc in ap (λ (q : Named). view_of b st q.what) k
      by (e.number at n) h = absurd (cc)
      by (e.call c xs) h = absurd (cc)
      by (e.parentheses at y) h = absurd (cc)
      by (e.cell v xs) h = absurd (cc)
      by (e.width v) h = absurd (cc)
      by (e.height v) h = absurd (cc)
      by (e.signed at s y) h = absurd (cc)
      by (e.chain l y rest) h = absurd (cc)
      by (e.compare y r z) h = absurd (cc)

  pub no_name : (x : Expr) → lone_name (bare x) ≡ None → view_of b st RuleX ≡ view_in b st x
  unfolding view_in view_of
  no_name x h = by (bare x) h
    where
      by : (v : e.ExprValue) → lone_name v ≡ None → no_grid ≡ named_view b st v
      by (e.name n) h = absurd (cc)
      by (e.number at n) h = refl
      by (e.call c xs) h = refl
      by (e.parentheses at y) h = refl
      by (e.cell v xs) h = refl
      by (e.width v) h = refl
      by (e.height v) h = refl
      by (e.signed at s y) h = refl
      by (e.chain l y rest) h = refl
      by (e.compare y r z) h = refl
