-- The cells of a view, by its places and by an area of the matrix that it is of.
use Rattle.std.proofs.Common.{◌≡◌, ◌∙◌, refl, sym, ap, subst, ℕ, zero, suc, ◌+◌, ◌-◌, ◌<◌, ◌≤◌, ℤ, pos, negsuc, ◌-ℤ◌, true, false, List, [], ◌∷◌, ◌++◌, map, arith}
use Rattle.std.specs.Prelude.{filter, int_le}
use Rattle.std.specs.List.{flat_map, range_with_len}
use Rattle.std.proofs.lemmas.Int.{ints}
use Rattle.std.proofs.lemmas.List.Elements.{filter-append}
use Rattle.pb_values.specs.Views.{FitsInto, Shows, cell_of, view_cells}
use Rattle.pb_values.specs.declared.rect.Rect.{Rect}
use Rattle.pb_values.specs.declared.shape.Shape.{Shape}
use Rattle.pb_values.specs.declared.view.View.{View}
use Rattle.pb_program.specs.Areas.{Area, Span, from_start, one_place}
use Rattle.pb_model.specs.Cells.{natural, numbers_of}
use Rattle.pb_program.specs.declared.view.ReadView.{ReadView}
use Rattle.pb_program.specs.declared.view.ReadView.TheVariants as view
use Rattle.pb_region.specs.Within.{IsWithin}
use Rattle.pb_model.specs.Equations.{extent, sides_by}
use Rattle.pb_views.specs.Windows.{IsRect, IsShown, area_cells}

-- ---- ranges
range_split : (k m n : ℕ) → range_with_len k (m + n) ≡ range_with_len k m ++ range_with_len (k + m) n
range_split k zero n = let e : 0 + n ≡ n = omega arith in let f : k + 0 ≡ k = omega arith in rw (e, f) refl
range_split k (suc m) n = let e : suc m + n ≡ suc (m + n) = omega arith in let f : k + 1 + m ≡ k + suc m = omega arith in rw e (ap (λ l. k ∷ l) (range_split (k + 1) m n ∙ ap (λ i. range_with_len (k + 1) m ++ range_with_len i n) f))

none_kept : (a k n : ℕ) → k + n ≤ a → filter (λ i. int_le (pos a) (pos i)) (range_with_len k n) ≡ []
none_kept a k zero h = refl
none_kept a k (suc n) h = let test : int_le (pos a) (pos k) ≡ false = grind (arith, ints, h) in rw test (none_kept a (k + 1) n (omega (arith, h)))

all_kept : (a k n : ℕ) → a ≤ k → filter (λ i. int_le (pos a) (pos i)) (range_with_len k n) ≡ range_with_len k n
all_kept a k zero h = refl
all_kept a k (suc n) h = let test : int_le (pos a) (pos k) ≡ true = grind (arith, ints, h) in rw test (ap (λ l. k ∷ l) (all_kept a (k + 1) n (omega (arith, h))))

numbers_from : (a b : ℕ) → a ≤ b → filter (λ i. int_le (pos a) (pos i)) (range_with_len 0 b) ≡ range_with_len a (b - a)
numbers_from a b h =
    let e : a + (b - a) ≡ b = omega (arith, h) in
    let f : 0 + a ≡ a = omega arith in
    ap (λ n. filter (λ i. int_le (pos a) (pos i)) (range_with_len 0 n)) (sym e) ∙ ap (filter (λ i. int_le (pos a) (pos i))) (range_split 0 a (b - a) ∙ ap (λ i. range_with_len 0 a ++ range_with_len i (b - a)) f)
    ∙ filter-append (λ i. int_le (pos a) (pos i)) (range_with_len 0 a) (range_with_len a (b - a)) ∙ rw (none_kept a 0 a (omega arith), all_kept a a (b - a) (omega arith)) refl

pub numbers_are : (s : Span) (a b : ℕ) → pos a ≡ s.low → pos b ≡ s.high → a ≤ b → numbers_of s ≡ range_with_len a (b - a)
numbers_are s a b low high h = rw (← low, ← high) (numbers_from a b h)

-- ---- what is made of ranges
map_from : {A : Type 0} (f : ℕ → A) (a k n : ℕ) → map f (range_with_len (a + k) n) ≡ map (λ i. f (a + i)) (range_with_len k n)
map_from f a k zero = refl
map_from f a k (suc n) = let e : a + k + 1 ≡ a + (k + 1) = omega arith in rw e (ap (λ l. f (a + k) ∷ l) (map_from f a (k + 1) n))

flat_from : {A : Type 0} (f : ℕ → List A) (a k n : ℕ) → flat_map f (range_with_len (a + k) n) ≡ flat_map (λ i. f (a + i)) (range_with_len k n)
flat_from f a k zero = refl
flat_from f a k (suc n) = let e : a + k + 1 ≡ a + (k + 1) = omega arith in rw e (ap (λ l. f (a + k) ++ l) (flat_from f a (k + 1) n))

map_like : {A : Type 0} (f g : ℕ → A) (k n : ℕ) → ((i : ℕ) → i < k + n → f i ≡ g i) → map f (range_with_len k n) ≡ map g (range_with_len k n)
map_like f g k zero same = refl
map_like f g k (suc n) same = rw (same k (omega arith), map_like f g (k + 1) n (λ i h. same i (omega (arith, h)))) refl

flat_like : {A : Type 0} (f g : ℕ → List A) (k n : ℕ) → ((i : ℕ) → i < k + n → f i ≡ g i) → flat_map f (range_with_len k n) ≡ flat_map g (range_with_len k n)
flat_like f g k zero same = refl
flat_like f g k (suc n) same = rw (same k (omega arith), flat_like f g (k + 1) n (λ i h. same i (omega (arith, h)))) refl

-- ---- a rectangle of a matrix
module _ (m v : View) (a : Area) (x0 y0 w h : ℕ) (xs : numbers_of a.x ≡ range_with_len x0 w) (ys : numbers_of a.y ≡ range_with_len y0 h) where
  rows_are : area_cells m a ≡ flat_map (λ j. map (λ i. cell_of m (x0 + i) (y0 + j)) (range_with_len 0 w)) (range_with_len 0 h)
  rows_are =
      let ex : x0 + 0 ≡ x0 = omega arith in
      let ey : y0 + 0 ≡ y0 = omega arith in
      rw (xs, ys) (ap (λ k. flat_map (λ y. map (λ x. cell_of m x y) (range_with_len x0 w)) (range_with_len k h)) (sym ey) ∙ flat_from (λ y. map (λ x. cell_of m x y) (range_with_len x0 w)) y0 0 h
      ∙ flat_like _ _ 0 h (λ j _. ap (λ k. map (λ x. cell_of m x (y0 + j)) (range_with_len k w)) (sym ex) ∙ map_from (λ x. cell_of m x (y0 + j)) x0 0 w))

  pub region_is : (d : ℕ) → Shows v (record { dims = d; w = w; h = h }) (λ i j. cell_of m (x0 + i) (y0 + j)) → view_cells v ≡ area_cells m a
  region_is d shows =
      let wide : v.shape.w ≡ w = ap (λ (s : Shape). s.w) shows.shape in
      let high : v.shape.h ≡ h = ap (λ (s : Shape). s.h) shows.shape in
      ap (λ n. flat_map (λ j. map (λ i. cell_of v i j) (range_with_len 0 n)) (range_with_len 0 v.shape.h)) wide ∙ ap (λ n. flat_map (λ j. map (λ i. cell_of v i j) (range_with_len 0 w)) (range_with_len 0 n)) high
      ∙ flat_like _ _ 0 h (λ j below. map_like _ _ 0 w (λ i inside. shows.cells i j (omega (arith, inside)) (omega (arith, below)))) ∙ sym rows_are

-- a column, as a view of one dimension
pub column_is : (m v : View) (a : Area) (x h : ℕ) → numbers_of a.x ≡ range_with_len x 1 → numbers_of a.y ≡ range_with_len 0 h → Shows v (record { dims = 1; w = h; h = 1 }) (λ j z. cell_of m (x + z) j) → view_cells v ≡ area_cells m a
column_is m v a x h xs ys shows =
    let wide : v.shape.w ≡ h = ap (λ (s : Shape). s.w) shows.shape in
    let high : v.shape.h ≡ 1 = ap (λ (s : Shape). s.h) shows.shape in
    let e : x + 0 ≡ x = omega arith in
    ap (λ n. flat_map (λ j. map (λ i. cell_of v i j) (range_with_len 0 n)) (range_with_len 0 v.shape.h)) wide ∙ ap (λ n. flat_map (λ j. map (λ i. cell_of v i j) (range_with_len 0 h)) (range_with_len 0 n)) high
    ∙ append_none (map (λ j. cell_of v j 0) (range_with_len 0 h)) ∙ map_like _ _ 0 h (λ j below. shows.cells j 0 (omega (arith, below)) (omega arith) ∙ ap (λ i. cell_of m i j) e) ∙ singles (λ j. cell_of m x j) 0 h
    ∙ sym (ap (λ l. flat_map (λ y. map (λ x. cell_of m x y) l) (numbers_of a.y)) xs ∙ ap (flat_map (λ y. map (λ x. cell_of m x y) (range_with_len x 1))) ys)
  where
    append_none : (l : List ℕ) → l ++ [] ≡ l
    append_none [] = refl
    append_none (k ∷ l) = ap (λ t. k ∷ t) (append_none l)

    singles : (f : ℕ → ℕ) (k n : ℕ) → map f (range_with_len k n) ≡ flat_map (λ j. f j ∷ []) (range_with_len k n)
    singles f k zero = refl
    singles f k (suc n) = ap (λ l. f k ∷ l) (singles f (k + 1) n)

-- ---- views within their matrix
natural_less : (a b : ℕ) → a ≤ b → natural (pos b -ℤ pos a) ≡ b - a
natural_less a b h = by (pos b -ℤ pos a) refl
  where
    by : (z : ℤ) → pos b -ℤ pos a ≡ z → natural z ≡ b - a
    by (pos n) e = omega (arith, ints, e, h)
    by (negsuc n) e = absurd (omega (arith, ints, e, h))

pair_is : (a b c d : ℕ) → a ≡ c → b ≡ d → ◌≡◌ {A = ℕ × ℕ} (a, b) (c, d)
pair_is a b c d e f = λ i. (e i, f i)

module _ (m v : View) (a : Area) (within : IsWithin a (pos m.shape.w) (pos m.shape.h)) where
  -- a rectangle fits into its matrix
  pub rect_fits : (r : Rect) → IsRect a r → FitsInto m.shape r
  rect_fits r is = record {
    across = omega (arith, ints, is.left, is.right, within.x.order);
    down = omega (arith, ints, is.low, is.high, within.y.order);
    wide = omega (arith, ints, is.right, within.x.end);
    tall = omega (arith, ints, is.high, within.y.end);
  }

  pub rect_shown : (by : ReadView) (d : ℕ) (r : Rect) → ◌≡◌ {A = ℕ × ℕ} (sides_by by a) (extent a.x, extent a.y) → IsRect a r → Shows v (record { dims = d; w = r.x1 - r.x0; h = r.y1 - r.y0 }) (λ i j. cell_of m (r.x0 + i) (r.y0 + j)) → IsShown m by a v
  rect_shown by d r plain is shows =
      let fits = rect_fits r is in
      let lx : pos r.x1 -ℤ pos r.x0 ≡ a.x.high -ℤ a.x.low = omega (arith, ints, is.left, is.right) in
      let ly : pos r.y1 -ℤ pos r.y0 ≡ a.y.high -ℤ a.y.low = omega (arith, ints, is.low, is.high) in
      let wide : v.shape.w ≡ extent a.x = ap (λ (s : Shape). s.w) shows.shape ∙ sym (natural_less r.x0 r.x1 fits.across) ∙ ap natural lx in
      let high : v.shape.h ≡ extent a.y = ap (λ (s : Shape). s.h) shows.shape ∙ sym (natural_less r.y0 r.y1 fits.down) ∙ ap natural ly in
      record {
        sides = pair_is v.shape.w v.shape.h (extent a.x) (extent a.y) wide high ∙ sym plain;
        cells = region_is m v a r.x0 r.y0 (r.x1 - r.x0) (r.y1 - r.y0) (numbers_are a.x r.x0 r.x1 is.left is.right fits.across) (numbers_are a.y r.y0 r.y1 is.low is.high fits.down) d shows;
      }

from_zero : (m v : View) (s : Shape) (y0 : ℕ) → Shows v s (λ i j. cell_of m i (y0 + j)) → Shows v s (λ i j. cell_of m (0 + i) (y0 + j))
from_zero m v s y0 h = record { shape = h.shape; cells = λ i j inside below. let e : 0 + i ≡ i = omega arith in h.cells i j inside below ∙ ap (λ k. cell_of m k (y0 + j)) (sym e) }

-- ---- whole rows, whole columns, whole matrices
pub row_shown : (m v : View) (low : ℤ) (y0 : ℕ) → pos y0 ≡ low → IsWithin (record { x = from_start (pos m.shape.w); y = one_place low }) (pos m.shape.w) (pos m.shape.h) → Shows v (record { dims = 1; w = m.shape.w; h = 1 }) (λ i j. cell_of m i (y0 + j))
    → IsShown m view.Row (record { x = from_start (pos m.shape.w); y = one_place low }) v
row_shown m v low y0 at within shows =
    let ew : m.shape.w - 0 ≡ m.shape.w = omega arith in
    let eh : y0 + 1 - y0 ≡ 1 = omega arith in
    let same : record { dims = 1; w = m.shape.w - 0; h = y0 + 1 - y0 } ≡ record { dims = 1; w = m.shape.w; h = 1 } = λ i. record { dims = 1; w = ew i; h = eh i } in
    rect_shown m v (record { x = from_start (pos m.shape.w); y = one_place low }) within view.Row 1 (record { x0 = 0; y0 = y0; x1 = m.shape.w; y1 = y0 + 1 }) refl
    (record { left = refl; right = refl; low = at; high = omega (arith, ints, at) })
    (subst (λ (s : Shape). Shows v s (λ i j. cell_of m (0 + i) (y0 + j))) (sym same) (from_zero m v (record { dims = 1; w = m.shape.w; h = 1 }) y0 shows))

pub whole_shown : (m : View) → IsWithin (record { x = from_start (pos m.shape.w); y = from_start (pos m.shape.h) }) (pos m.shape.w) (pos m.shape.h) → IsShown m view.Whole (record { x = from_start (pos m.shape.w); y = from_start (pos m.shape.h) }) m
whole_shown m within =
    let ew : m.shape.w - 0 ≡ m.shape.w = omega arith in
    let eh : m.shape.h - 0 ≡ m.shape.h = omega arith in
    rect_shown m m (record { x = from_start (pos m.shape.w); y = from_start (pos m.shape.h) }) within view.Whole m.shape.dims (record { x0 = 0; y0 = 0; x1 = m.shape.w; y1 = m.shape.h }) refl
    (record { left = refl; right = refl; low = refl; high = refl })
    (record { shape = λ i. record { dims = m.shape.dims; w = sym ew i; h = sym eh i }; cells = λ i j _ _. let e : 0 + i ≡ i = omega arith in let f : 0 + j ≡ j = omega arith in rw (e, f) refl })

pub column_shown : (m v : View) (left : ℤ) (x0 : ℕ) → pos x0 ≡ left → Shows v (record { dims = 1; w = m.shape.h; h = 1 }) (λ j z. cell_of m (x0 + z) j) → IsShown m view.Column (record { x = one_place left; y = from_start (pos m.shape.h) }) v
column_shown m v left x0 at shows =
    let a : Area = record { x = one_place left; y = from_start (pos m.shape.h) } in
    let e : x0 + 1 - x0 ≡ 1 = omega arith in
    let f : m.shape.h - 0 ≡ m.shape.h = omega arith in
    let xs : numbers_of a.x ≡ range_with_len x0 1 = numbers_are a.x x0 (x0 + 1) at (omega (arith, ints, at)) (omega arith) ∙ ap (range_with_len x0) e in
    let ys : numbers_of a.y ≡ range_with_len 0 m.shape.h = numbers_are a.y 0 m.shape.h refl refl (omega arith) ∙ ap (range_with_len 0) f in
    let high : extent a.y ≡ m.shape.h = natural_less 0 m.shape.h (omega arith) ∙ f in
    record {
      sides = pair_is v.shape.w v.shape.h (extent a.y) 1 (ap (λ (s : Shape). s.w) shows.shape ∙ sym high) (ap (λ (s : Shape). s.h) shows.shape);
      cells = column_is m v a x0 m.shape.h xs ys shows;
    }
