-- A cell of the product by its rule for single cells, at sizes (n, h, n): the dot product of a row and a column is a number.
use Rattle.std.proofs.Common.{◌≡◌, ◌∙◌, refl, sym, ap, ap₂, subst, ℕ, ◌+◌, ◌-◌, ◌*◌, ◌≤◌, true, List, [], ◌∷◌, ◌++◌, length, map, take, drop, Option, Result, Ok, ℤ, pos, ◌+ℤ◌, ◌-ℤ◌, ◌*ℤ◌, unsigned_abs, arith}
use Rattle.std.specs.List.{AllByRecursion}
use Rattle.std.proofs.Math.Nat.{mul-le-mul}
use Rattle.std.proofs.lemmas.Int.{ints, unsigned_abs-mul}
use Rattle.std.proofs.lemmas.Bool.Decides.{nat_tests}
use Rattle.std.specs.Prelude.{◌==◌}
use Rattle.std.proofs.lemmas.List.{append-nil, length-append, length-drop, length-map, length-take-le}
use Rattle.pb_linear.specs.Numbers.{value_before}
use Rattle.pb_values.specs.Checked.{checked_result}
use Rattle.pb_values.specs.declared.outcome.Kind.{Kind}
use Rattle.pb_values.specs.declared.outcome.Outcome.{Outcome}
use Rattle.pb_values.specs.declared.outcome.Trap.{Trap}
use Rattle.pb_program.specs.Areas.{Area}
use Rattle.pb_program.specs.Stmts.{stmts}
use Rattle.pb_model.specs.Bodies.{Bindings, Store, after, after_all, at_first, called, dot_product, if_ok, left_by, number_of, output, outputs_from, products, value, view_of, with_number}
use Rattle.pb_model.specs.Cells.{Cell, cells_of, natural, numbers_of, reads}
use Rattle.pb_model.specs.Equations.{after_body, bindings, cut_up, extent, number_in, own_outcome, rule_gives, shown_area, trap_of, unless_trapped, view_sides}
use Rattle.pb_views.proofs.CellLemmas.{numbers_are}
use Rattle.pb_grammar.specs.Want.{after_mark, expression, conjunction, compared, total, product, name_token, dimensions}
use Rattle.pb_demo.proofs.Product.{written}
use Rattle.pb_demo_runs.proofs.Halves.{dotting}
use Rattle.pb_demo_runs.proofs.Lists.{each_dropped, each_taken, pairs_count}
use Rattle.pb_demo_runs.proofs.Nines.{IsNine, IsNumber, no_trap_among, numbers_nine}
use Rattle.pb_demo_runs.proofs.Settled.{length_range}
use Rattle.pb_demo_runs.proofs.Roll.{checked_small, nth_out, nth_read, place_extent}

abbrev AreSmall : List ℤ → Type 0
AreSmall vs = AllByRecursion (λ z. unsigned_abs z ≤ 9) vs

-- ---- the sum of products of small numbers
product_small : (v w : ℤ) → unsigned_abs v ≤ 9 → unsigned_abs w ≤ 9 → unsigned_abs (v *ℤ w) ≤ 81
product_small v w a b = let most : unsigned_abs v * unsigned_abs w ≤ 9 * 9 = mul-le-mul a b in omega (arith, unsigned_abs-mul v w, most)

sum_small : (a b : ℤ) (m n : ℕ) → unsigned_abs a ≤ m → unsigned_abs b ≤ n → unsigned_abs (a +ℤ b) ≤ m + n
sum_small a b m n p q = omega (arith, ints, p, q)

all_products : (vs ws : List ℤ) (t : ℤ) (k : ℕ) → AreSmall vs → AreSmall ws → unsigned_abs t ≤ 81 * k → k + length vs ≤ 256 → (s : ℤ) × (products t vs ws ≡ Ok s)
unfolding products
all_products [] ws t k a b low few = (t, refl)
all_products (v ∷ vs) [] t k a b low few = (t, refl)
all_products (v ∷ vs) (w ∷ ws) t k a b low few =
    let p = product_small v w a.0 b.0 in
    let next : unsigned_abs (t +ℤ v *ℤ w) ≤ 81 * (k + 1) = omega (arith, sum_small t (v *ℤ w) (81 * k) 81 low p) in
    let rest = all_products vs ws (t +ℤ v *ℤ w) (k + 1) a.1 b.1 next (omega (arith, few)) in (
      rest.0,
      ap (λ (r : Result ℤ Kind). if_ok r (λ p. if_ok (checked_result (t +ℤ p)) (λ next. products next vs ws))) (checked_small (v *ℤ w) (omega (arith, p)))
          ∙ ap (λ (r : Result ℤ Kind). if_ok r (λ next. products next vs ws)) (checked_small (t +ℤ v *ℤ w) (omega (arith, next, few))) ∙ rest.1,
    )

dotted : (vs ws : List ℤ) → AreSmall vs → AreSmall ws → length vs ≡ length ws → length vs ≤ 256 → (s : ℤ) × (dot_product vs ws ≡ Ok s)
dotted vs ws a b same few =
    let it = all_products vs ws (pos 0) 0 a b (omega arith) (omega (arith, few)) in
    let e : (length vs == length ws) ≡ true = grind (arith, nat_tests, same) in
    (it.0, rw e it.1)

-- ---- how many cells an area has
swap : (a b : ℕ) → a * b ≡ b * a
swap a b = grind arith

pub area_count : (m : ℕ) (a : Area) (x0 x1 y0 y1 : ℕ) → pos x0 ≡ a.x.low → pos x1 ≡ a.x.high → pos y0 ≡ a.y.low → pos y1 ≡ a.y.high → x0 ≤ x1 → y0 ≤ y1 → length (cells_of m a) ≡ (x1 - x0) * (y1 - y0)
unfolding cells_of
area_count m a x0 x1 y0 y1 left right low high across down =
    let xs = numbers_are a.x x0 x1 left right across in
    let ys = numbers_are a.y y0 y1 low high down in
    pairs_count (λ y x. (let c : Cell = record { matrix = m; x = x; y = y } in c)) (numbers_of a.x) (numbers_of a.y) ∙ swap (length (numbers_of a.y)) (length (numbers_of a.x))
    ∙ ap₂ (λ (u v : ℕ). u * v) (ap length xs ∙ length_range x0 (x1 - x0)) (ap length ys ∙ length_range y0 (y1 - y0))

-- ---- the rule
pub pair_of : {a b c d : ℕ} → a ≡ c → b ≡ d → (let p : ℕ × ℕ = (a, b) in p) ≡ (let p : ℕ × ℕ = (c, d) in p)
pair_of e f = cc

long_extent : (low high : ℤ) (k : ℕ) → high -ℤ low ≡ pos k → extent (record { low = low; high = high }) ≡ k
long_extent low high k e = ap natural e

-- what the body leaves
module _ (sizes : List ℕ) (x y s : ℤ) (k : ℕ) (vs : List ℤ) (sums : dot_product (take (k * 1) vs) (take (k * 1) (drop (k * 1) vs)) ≡ Ok s) where
  abbrev row_and_column : Bindings
  row_and_column = record { sizes = sizes; x = x; y = y; reads = cut_up ((k, 1) ∷ (k, 1) ∷ []) vs; outs = (1, 1) ∷ [] }

  leaves : left_by row_and_column (stmts dotting.body) ≡ Ok (with_number at_first (output 0 0 0) s)
  unfolding after_mark expression conjunction compared total product name_token dimensions after_all after value called number_of view_of
  leaves = ap (λ (r : Result ℤ Kind). if_ok (if_ok r (λ v. Ok (with_number at_first (output 0 0 0) v))) (λ st. Ok st)) sums

module _ (n h x y : ℕ) (few : n ≤ 256) where
  abbrev sizes : List ℕ
  sizes = n ∷ h ∷ n ∷ []

  abbrev cell : Cell
  cell = record { matrix = 2; x = x; y = y }

  abbrev shown : ℕ → Area
  shown k = shown_area written.matrices sizes cell (nth_read k dotting)

  abbrev shown_out : Area
  shown_out = shown_area written.matrices sizes cell (nth_out 0 dotting)

  sides_are : map (view_sides written.matrices sizes cell) dotting.reads ≡ (n, 1) ∷ (n, 1) ∷ []
  unfolding value_before
  sides_are =
      ap₂ (λ (p q : ℕ × ℕ). p ∷ q ∷ []) (pair_of (long_extent (shown 0).x.low (shown 0).x.high n (omega (arith, ints))) (place_extent (shown 0).y.low))
      (pair_of (long_extent (shown 1).y.low (shown 1).y.high n (omega (arith, ints))) refl)

  outs_are : map (view_sides written.matrices sizes cell) dotting.outs ≡ (1, 1) ∷ []
  outs_are = ap (λ (p : ℕ × ℕ). p ∷ []) (pair_of (place_extent shown_out.x.low) (place_extent shown_out.y.low))

  pub reads_count : length (reads written.matrices sizes cell dotting) ≡ n + n
  unfolding reads value_before
  reads_count =
      let row = area_count 0 (shown 0) 0 n y (y + 1) (omega (arith, ints)) (omega (arith, ints)) (omega (arith, ints)) (omega (arith, ints)) (omega arith) (omega arith) in
      let column = area_count 1 (shown 1) x (x + 1) 0 n (omega (arith, ints)) (omega (arith, ints)) (omega (arith, ints)) (omega (arith, ints)) (omega arith) (omega arith) in
      let first : (n - 0) * (y + 1 - y) ≡ n = ap₂ (λ (u v : ℕ). u * v) (let e : n - 0 ≡ n = omega arith in e) (let e : y + 1 - y ≡ 1 = omega arith in e) ∙ omega arith in
      let second : (x + 1 - x) * (n - 0) ≡ n = ap₂ (λ (u v : ℕ). u * v) (let e : x + 1 - x ≡ 1 = omega arith in e) (let e : n - 0 ≡ n = omega arith in e) ∙ omega arith in
      length-append (cells_of 0 (shown 0)) (cells_of 1 (shown 1) ++ []) ∙ ap₂ (λ (u v : ℕ). u + v) (row ∙ first) (ap length (append-nil (cells_of 1 (shown 1))) ∙ column ∙ second)

  module _ (seen : List Outcome) (nine : AllByRecursion IsNine seen) (count : length seen ≡ n + n) where
    abbrev numbers : List ℤ
    numbers = map number_in seen

    abbrev row_numbers : List ℤ
    row_numbers = take (n * 1) numbers

    abbrev column_numbers : List ℤ
    column_numbers = take (n * 1) (drop (n * 1) numbers)

    long : length numbers ≡ n + n
    long = length-map seen number_in ∙ count

    row_long : length row_numbers ≡ n
    row_long = length-take-le (n * 1) numbers (omega (arith, long)) ∙ omega arith

    column_long : length column_numbers ≡ n
    column_long = length-take-le (n * 1) (drop (n * 1) numbers) (omega (arith, length-drop (n * 1) numbers, long)) ∙ omega arith

    sum : (s : ℤ) × (dot_product row_numbers column_numbers ≡ Ok s)
    sum =
        dotted row_numbers column_numbers (each_taken (λ z. unsigned_abs z ≤ 9) (n * 1) numbers (numbers_nine seen nine))
        (each_taken (λ z. unsigned_abs z ≤ 9) (n * 1) (drop (n * 1) numbers) (each_dropped (λ z. unsigned_abs z ≤ 9) (n * 1) numbers (numbers_nine seen nine))) (row_long ∙ sym column_long) (omega (arith, row_long, few))

    abbrev finish : Option Trap → Result Store Kind → Outcome
    finish trap st = own_outcome written.matrices sizes cell dotting (unless_trapped trap (after_body st (λ q. outputs_from 0 q (map (view_sides written.matrices sizes cell) dotting.outs)) (trap_of written.matrices sizes cell 1 0 dotting)))

    body_leaves : left_by (bindings written.matrices sizes cell dotting numbers) (stmts dotting.body) ≡ Ok (with_number at_first (output 0 0 0) sum.0)
    body_leaves =
        ap₂ (λ (r o : List (ℕ × ℕ)). left_by (record { sizes = sizes; x = pos x; y = pos y; reads = cut_up r numbers; outs = o }) (stmts dotting.body)) sides_are outs_are
        ∙ leaves sizes (pos x) (pos y) sum.0 n numbers sum.1

    pub is_number : IsNumber (own_outcome written.matrices sizes cell dotting (rule_gives written.matrices sizes cell 1 0 dotting seen))
    unfolding rule_gives
    is_number = subst IsNumber (sym (ap₂ finish (no_trap_among seen nine) body_leaves)) tt
