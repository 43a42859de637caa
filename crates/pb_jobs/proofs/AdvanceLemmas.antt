-- What a window shows moves along a line by the same each time.
use Rattle.std.proofs.Common.{◌≡◌, ◌∙◌, refl, sym, ap, subst, ◌⊎◌, ⊎_elim, inl, inr, ℕ, zero, suc, ◌+◌, ◌-◌, ◌*◌, ◌<◌, ◌≤◌, ◌^◌, Bool, true, false, if◌then◌else◌, ℤ, pos, negsuc, ◌+ℤ◌, ◌-ℤ◌, ◌*ℤ◌, ◌≤ℤ◌, List, [], ◌∷◌, ◌++◌, get_or, length, length-set, set, Option, None, Some, slice_get, mul-le-mul_right, arith}
use Rattle.std.specs.Prelude.{IfSome, map}
use Rattle.std.specs.List.{flat_map, range_with_len}
use Rattle.std.proofs.Math.IntN.{pos-*ℤ-pos}
use Rattle.std.proofs.lemmas.Bool.{cases_lt}
use Rattle.std.proofs.lemmas.Int.{ints}
use Rattle.std.proofs.lemmas.Option.{slice_get-get_or, slice_get_within}
use Rattle.pb_linear.specs.declared.boxes.Sign.{Sign}
use Rattle.pb_linear.specs.declared.boxes.Sign.TheVariants.{Plus, Minus}
use Rattle.pb_linear.proofs.Integers.{add-mul, mul-add}
use Rattle.pb_values.specs.Views.{cell_of, view_cells}
use Rattle.pb_values.specs.declared.rect.Rect.{Rect}
use Rattle.pb_values.specs.declared.shape.Shape.{Shape}
use Rattle.pb_values.specs.declared.view.View.{View}
use Rattle.pb_program.specs.Areas.{Area, Span, from_start, one_place}
use Rattle.pb_program.specs.declared.view.Read.{Read}
use Rattle.pb_program.specs.declared.view.ReadView.{ReadView}
use Rattle.pb_program.specs.declared.view.ReadView.TheVariants as view
use Rattle.pb_region.specs.Within.{IsWithin}
use Rattle.pb_model.specs.Cells.{natural, numbers_of}
use Rattle.pb_model.specs.Equations.{extent, sides_by}
use Rattle.pb_views.specs.declared.line.Line.{Line}
use Rattle.pb_views.specs.declared.window.Window.{Window}
use Rattle.pb_views.specs.Lines.{line_at}
use Rattle.pb_views.specs.Windows.{IsRect, IsShown, area_cells, shown_by}
use Rattle.pb_views.proofs.CellLemmas.{numbers_are, rect_shown}
use Rattle.pb_walk.specs.Axes.{AreThere, moved}
use Rattle.pb_walk.specs.Stretches.{column_in, place_on, row_in}
use Rattle.pb_walk.specs.declared.stretch.Stretch.{Stretch}
use Rattle.pb_jobs.specs.Advances.{AreAdvances, AreShaped, AreWithinAlong, IsAdvance, IsShownAt, IsFurther, IsWindowOn, area_on, corner_cell}
use Rattle.pb_jobs.specs.Distances.{CanMove, IsBetween, IsFromTo, IsMoved, IsShaped}
use Rattle.pb_jobs.specs.Shown.{AreShown, IsShownFor, LiesWithin}
use Rattle.pb_jobs.specs.declared.advance.Advance.{Advance}
use Rattle.pb_jobs.specs.declared.advance.Distance.{Distance}
use Rattle.pb_jobs.specs.declared.advance.Distance.TheVariants.{Up, Down}
use Rattle.pb_jobs.proofs.ListLemmas.{some_at, some_same}
use Rattle.pb_jobs.proofs.ShownLemmas.{last_of, left_of, lies_within}

-- ---- along a line
abbrev unit : Sign → ℤ
unit Plus = pos 1
unit Minus = negsuc 0

further : (sign : Sign) (i a count : ℕ) → i + 1 < count → AreThere sign a count → pos (moved sign (i + 1) a) ≡ pos (moved sign i a) +ℤ unit sign
further Plus i a count below there = omega (arith, ints)
further Minus i a count below there = omega (arith, ints, below, there.down refl)

across_next : (l : Line) (x z y d : ℤ) → z ≡ x +ℤ d → line_at l z y ≡ line_at l x y +ℤ l.x *ℤ d
across_next l x z y d e = ap (λ u. line_at l u y) e ∙ omega (arith, ints, mul-add l.x x d)

down_next : (l : Line) (x y z d : ℤ) → z ≡ y +ℤ d → line_at l x z ≡ line_at l x y +ℤ l.y *ℤ d
down_next l x y z d e = ap (λ u. line_at l x u) e ∙ omega (arith, ints, mul-add l.y y d)

abbrev along : Bool → Line → ℤ
along down l = if down then l.y else l.x

line_next : (down : Bool) (l : Line) (across a b : ℕ) (d : ℤ) → pos b ≡ pos a +ℤ d
    → line_at l (pos (column_in down across b)) (pos (row_in down across b)) ≡ line_at l (pos (column_in down across a)) (pos (row_in down across a)) +ℤ along down l *ℤ d
line_next true l across a b d e = down_next l (pos across) (pos a) (pos b) d e
line_next false l across a b d e = across_next l (pos a) (pos b) (pos across) d e

corner_next : (m : View) (a b : Area) (e f : ℤ) → b.x.low ≡ a.x.low +ℤ e → b.y.low ≡ a.y.low +ℤ f → corner_cell m b ≡ corner_cell m a +ℤ (e *ℤ pos m.step_x +ℤ f *ℤ pos m.step_y)
corner_next m a b e f x y =
    (λ i. pos m.first +ℤ (x i *ℤ pos m.step_x +ℤ y i *ℤ pos m.step_y)) ∙ omega (arith, ints, add-mul a.x.low e (pos m.step_x), add-mul a.y.low f (pos m.step_y))

-- the cell at the low corner of a rectangle
place_is : (m : View) (a : Area) (r : Rect) → IsRect a r → pos (cell_of m r.x0 r.y0) ≡ corner_cell m a
place_is m a r is =
    (let x = pos-*ℤ-pos r.x0 m.step_x in let y = pos-*ℤ-pos r.y0 m.step_y in omega (arith, ints, x, y))
    ∙ (λ i. pos m.first +ℤ (is.left i *ℤ pos m.step_x +ℤ is.low i *ℤ pos m.step_y))

-- ---- a number that grows by the same from each place of a line to the next
record Grows (s : Stretch) (f : ℕ → ℤ) : Type 0 where
  pub by : ℤ
  pub each : (i : ℕ) → i + 1 < s.count → f (i + 1) ≡ f i +ℤ by

record SpanGrows (s : Stretch) (f : ℕ → Span) : Type 0 where
  pub low : Grows s (λ i. (f i).low)
  pub high : Grows s (λ i. (f i).high)

from_first : (s : Stretch) (f : ℕ → ℤ) (grows : Grows s f) → 1 < s.count → grows.by ≡ f 1 -ℤ f 0
from_first s f grows some = omega (arith, ints, grows.each 0 (omega (arith, some)))

-- two numbers that are so far from each other at the first two places are so at each
as_far : (s : Stretch) (f g : ℕ → ℤ) → Grows s f → Grows s g → 1 < s.count → (n : ℕ) → f 0 +ℤ pos n ≡ g 0 → f 1 +ℤ pos n ≡ g 1 → (i : ℕ) → i < s.count → f i +ℤ pos n ≡ g i
as_far s f g fs gs some n first second zero below = first
as_far s f g fs gs some n first second (suc i) below =
    let e : i + 1 ≡ suc i = omega arith in
    let before : f i +ℤ pos n ≡ g i = as_far s f g fs gs some n first second i (omega (arith, below)) in
    let by : fs.by ≡ gs.by = omega (arith, ints, from_first s f fs some, from_first s g gs some, first, second) in
    let one : f (i + 1) ≡ f i +ℤ fs.by = fs.each i (omega (arith, below)) in
    let other : g (i + 1) ≡ g i +ℤ gs.by = gs.each i (omega (arith, below)) in
    subst (λ j. f j +ℤ pos n ≡ g j) e (omega (arith, ints, before, by, one, other))

module _ (s : Stretch) where
  still : (z : ℤ) → Grows s (λ i. z)
  still z = record { by = pos 0; each = λ i below. omega (arith, ints) }

  one_more : (f : ℕ → ℤ) → Grows s f → Grows s (λ i. f i +ℤ pos 1)
  one_more f grows = record { by = grows.by; each = λ i below. let e = grows.each i below in omega (arith, ints, e) }

  line_grows : (l : Line) → Grows s (λ i. line_at l (pos (place_on s i).x) (pos (place_on s i).y))
  line_grows l = record {
    by = along s.down l *ℤ unit s.sign;
    each = λ i below. line_next s.down l s.across (moved s.sign i s.at) (moved s.sign (i + 1) s.at) (unit s.sign) (further s.sign i s.at s.count below s.there);
  }

  start_grows : (z : ℤ) → SpanGrows s (λ i. from_start z)
  start_grows z = record { low = still (pos 0); high = still z }

  one_grows : (l : Line) → SpanGrows s (λ i. one_place (line_at l (pos (place_on s i).x) (pos (place_on s i).y)))
  one_grows l = record { low = line_grows l; high = one_more (λ i. line_at l (pos (place_on s i).x) (pos (place_on s i).y)) (line_grows l) }

  flat_grows : (flat : Bool) (f : ℕ → Span) → SpanGrows s f → SpanGrows s (λ i. if flat then one_place (pos 0) else f i)
  flat_grows true f grows = record { low = still (pos 0); high = still (pos 0 +ℤ pos 1) }
  flat_grows false f grows = grows

  module _ (w : Window) (m : View) where
    abbrev seen : ReadView → ℕ → Area
    seen b i = shown_by w m (place_on s i).x (place_on s i).y b

    x_grows : (b : ReadView) → SpanGrows s (λ i. (seen b i).x)
    x_grows view.Cell = one_grows w.x0
    x_grows view.Row = start_grows (pos m.shape.w)
    x_grows view.Column = one_grows w.x0
    x_grows view.Region = record { low = line_grows w.x0; high = line_grows w.x1 }
    x_grows view.Whole = start_grows (pos m.shape.w)

    y_grows : (b : ReadView) → SpanGrows s (λ i. (seen b i).y)
    y_grows view.Cell = flat_grows w.flat (λ i. one_place (line_at w.y0 (pos (place_on s i).x) (pos (place_on s i).y))) (one_grows w.y0)
    y_grows view.Row = one_grows w.y0
    y_grows view.Column = start_grows (pos m.shape.h)
    y_grows view.Region = flat_grows w.flat (λ i. record { low = line_at w.y0 (pos (place_on s i).x) (pos (place_on s i).y); high = line_at w.y1 (pos (place_on s i).x) (pos (place_on s i).y) }) (record { low = line_grows w.y0; high = line_grows w.y1 })
    y_grows view.Whole = start_grows (pos m.shape.h)

    corner_grows : Grows s (λ i. corner_cell m (area_on w m s i))
    corner_grows =
        let xs = (x_grows w.view).low in
        let ys = (y_grows w.view).low in
        record {
          by = xs.by *ℤ pos m.step_x +ℤ ys.by *ℤ pos m.step_y;
          each = λ i below. corner_next m (area_on w m s i) (area_on w m s (i + 1)) xs.by ys.by (xs.each i below) (ys.each i below);
        }

    -- by as much as from the first place to the second
    far_along : (far : Distance) (first second : ℕ) → 1 < s.count → pos first ≡ corner_cell m (area_on w m s 0) → pos second ≡ corner_cell m (area_on w m s 1) → IsFromTo first second far
        → (i : ℕ) → i + 1 < s.count → IsFurther (corner_cell m (area_on w m s i)) (corner_cell m (area_on w m s (i + 1))) far
    far_along (Up by) first second some from to is i below = let start = from_first s (λ j. corner_cell m (area_on w m s j)) corner_grows some in let here = corner_grows.each i below in omega (arith, ints, here, start, from, to, is)
    far_along (Down by) first second some from to is i below = let start = from_first s (λ j. corner_cell m (area_on w m s j)) corner_grows some in let here = corner_grows.each i below in omega (arith, ints, here, start, from, to, is)

    advances : 1 < s.count → (w.view ≡ view.Column → ⊥) → (here next : Rect) → IsRect (area_on w m s 0) here → IsRect (area_on w m s 1) next → (a : Advance) → IsBetween m here next a → IsAdvance w m s a
    advances some upright here next first second a is = record {
      upright = upright;
      step_x = is.step_x;
      step_y = is.step_y;
      wide = is.wide;
      tall = is.tall;
      across = as_far s (λ i. (area_on w m s i).x.low) (λ i. (area_on w m s i).x.high) (x_grows w.view).low (x_grows w.view).high some a.shape.w (omega (arith, ints, first.left, first.right, is.across)) (omega (arith, ints, second.left, second.right, is.next_across));
      down = as_far s (λ i. (area_on w m s i).y.low) (λ i. (area_on w m s i).y.high) (y_grows w.view).low (y_grows w.view).high some a.shape.h (omega (arith, ints, first.low, first.high, is.down)) (omega (arith, ints, second.low, second.high, is.next_down));
      far = far_along a.far (cell_of m here.x0 here.y0) (cell_of m next.x0 next.y0) some (place_is m (area_on w m s 0) here first) (place_is m (area_on w m s 1) next second) is.far;
    }

    pub advances_if : 1 < s.count → (w.view ≡ view.Column → ⊥) → (here next : Rect) → IsRect (area_on w m s 0) here → IsRect (area_on w m s 1) next → (o : Option Advance) → IfSome o (IsBetween m here next) → IfSome o (IsAdvance w m s)
    advances_if some upright here next first second None is = tt
    advances_if some upright here next first second (Some a) is = advances some upright here next first second a is

-- ---- the view of an area with sides
natural_of : (z : ℤ) → pos 0 ≤ℤ z → (n : ℕ) × (pos n ≡ z)
natural_of (pos n) h = (n, refl)
natural_of (negsuc n) h = absurd (omega (arith, ints, h))

upright_sides : (b : ReadView) (a : Area) → (b ≡ view.Column → ⊥) → ◌≡◌ {A = ℕ × ℕ} (sides_by b a) (extent a.x, extent a.y)
upright_sides view.Cell a upright = refl
upright_sides view.Row a upright = refl
upright_sides view.Column a upright = absurd (upright refl)
upright_sides view.Region a upright = refl
upright_sides view.Whole a upright = refl

-- some rows
abbrev rows : (ℕ → ℕ → ℕ) → ℕ → ℕ → ℕ → ℕ → List ℕ
rows f x y n k = flat_map (λ j. map (λ i. f i j) (range_with_len x n)) (range_with_len y k)

first_same : (f g : ℕ → ℕ → ℕ) (x y z u n k : ℕ) → 0 < n → 0 < k → rows f x y n k ≡ rows g z u n k → f x y ≡ g z u
first_same f g x y z u zero k wide tall e = absurd (omega (arith, wide))
first_same f g x y z u (suc n) zero wide tall e = absurd (omega (arith, tall))
first_same f g x y z u (suc n) (suc k) wide tall e = cc

module _ (m : View) (a : Area) (within : IsWithin a (pos m.shape.w) (pos m.shape.h)) (n k : ℕ) (wide : 0 < n) (tall : 0 < k) (across : a.x.low +ℤ pos n ≡ a.x.high) (down : a.y.low +ℤ pos k ≡ a.y.high) where
  abbrev left : (n : ℕ) × (pos n ≡ a.x.low)
  left = natural_of a.x.low within.x.start

  abbrev low : (n : ℕ) × (pos n ≡ a.y.low)
  low = natural_of a.y.low within.y.start

  x_end : pos (left.0 + n) ≡ a.x.high
  x_end = omega (arith, ints, left.1, across)

  y_end : pos (low.0 + k) ≡ a.y.high
  y_end = omega (arith, ints, low.1, down)

  abbrev rect : Rect
  rect = record { x0 = left.0; y0 = low.0; x1 = left.0 + n; y1 = low.0 + k }

  is_rect : IsRect a rect
  is_rect = record { left = left.1; right = x_end; low = low.1; high = y_end }

  abbrev corner : ℕ
  corner = cell_of m left.0 low.0

  corner_is : pos corner ≡ corner_cell m a
  corner_is = place_is m a rect is_rect

  corner_small : corner + (n * m.step_x + k * m.step_y) ≤ 2 ^ 63
  corner_small =
      let inside : left.0 + n ≤ m.shape.w = omega (arith, ints, x_end, within.x.end) in
      let below : low.0 + k ≤ m.shape.h = omega (arith, ints, y_end, within.y.end) in
      omega (arith, mul-le-mul_right m.step_x inside, mul-le-mul_right m.step_y below, m.small)

  width : left.0 + n - left.0 ≡ n
  width = omega arith

  height : low.0 + k - low.0 ≡ k
  height = omega arith

  natural_is : (p q : ℤ) (c : ℕ) → p +ℤ pos c ≡ q → natural (q -ℤ p) ≡ c
  natural_is p q c e = let d : q -ℤ p ≡ pos c = omega (arith, ints, e) in ap natural d

  -- it shows that cell first
  is_corner : (b : ReadView) (v : View) → (b ≡ view.Column → ⊥) → IsShown m b a v → v.first ≡ corner
  is_corner b v upright is =
      let sides : ◌≡◌ {A = ℕ × ℕ} (v.shape.w, v.shape.h) (extent a.x, extent a.y) = is.sides ∙ upright_sides b a upright in
      let xs : numbers_of a.x ≡ range_with_len left.0 n = numbers_are a.x left.0 (left.0 + n) left.1 x_end (omega arith) ∙ ap (range_with_len left.0) width in
      let ys : numbers_of a.y ≡ range_with_len low.0 k = numbers_are a.y low.0 (low.0 + k) low.1 y_end (omega arith) ∙ ap (range_with_len low.0) height in
      let w_is : v.shape.w ≡ n = ap (λ (p : ℕ × ℕ). p.0) sides ∙ natural_is a.x.low a.x.high n across in
      let h_is : v.shape.h ≡ k = ap (λ (p : ℕ × ℕ). p.1) sides ∙ natural_is a.y.low a.y.high k down in
      let mine : view_cells v ≡ rows (cell_of v) 0 0 n k = λ i. rows (cell_of v) 0 0 (w_is i) (h_is i) in
      let theirs : area_cells m a ≡ rows (cell_of m) left.0 low.0 n k = λ i. flat_map (λ y. map (λ x. cell_of m x y) (xs i)) (ys i) in
      let same : cell_of v 0 0 ≡ corner = first_same (cell_of v) (cell_of m) 0 0 left.0 low.0 n k wide tall (sym mine ∙ is.cells ∙ theirs) in
      omega (arith, same)

  corner_shown : (b : ReadView) (v : View) → (b ≡ view.Column → ⊥) → v.first ≡ corner → v.step_x ≡ m.step_x → v.step_y ≡ m.step_y → v.shape.w ≡ n → v.shape.h ≡ k → IsShown m b a v
  corner_shown b v upright first step_x step_y w_is h_is =
      rect_shown m v a within b v.shape.dims rect (upright_sides b a upright) is_rect (record {
        shape = λ i. record { dims = v.shape.dims; w = (w_is ∙ sym width) i; h = (h_is ∙ sym height) i };
        cells = λ i j inside below.
            (λ t. first t + (i * step_x t + j * step_y t)) ∙ omega arith;
      })

-- ---- a view with another's first cell, and the steps and the shape of an advance
module _ (matrices : List View) (s : Stretch) (i : ℕ) (r : Read) (w : Window) (v : View) (shown : IsShownFor matrices (place_on s i).x (place_on s i).y r w v) (here : LiesWithin matrices (place_on s i).x (place_on s i).y r w) (below : i < s.count)
    (a : Advance) (is : IsAdvance w shown.matrix s a) where
  within_here : IsWithin (area_on w shown.matrix s i) (pos shown.matrix.shape.w) (pos shown.matrix.shape.h)
  within_here = subst (λ (q : View). IsWithin (area_on w q s i) (pos q.shape.w) (pos q.shape.h)) (some_same here.matrix shown.matrix (sym here.at ∙ shown.at)) here.within

  first_here : v.first ≡ corner shown.matrix (area_on w shown.matrix s i) within_here a.shape.w a.shape.h is.wide is.tall (is.across i below) (is.down i below)
  first_here = is_corner shown.matrix (area_on w shown.matrix s i) within_here a.shape.w a.shape.h is.wide is.tall (is.across i below) (is.down i below) w.view v is.upright shown.is

  pub room_here : v.first + (a.shape.w * a.step_x + a.shape.h * a.step_y) ≤ 2 ^ 63
  room_here =
      subst (λ (p : ℕ × (ℕ × ℕ)). p.0 + (a.shape.w * p.1.0 + a.shape.h * p.1.1) ≤ 2 ^ 63) (λ j. (sym first_here j, (sym is.step_x j, sym is.step_y j)))
      (corner_small shown.matrix (area_on w shown.matrix s i) within_here a.shape.w a.shape.h is.wide is.tall (is.across i below) (is.down i below))

  pub shown_as : (u : View) → u.first ≡ v.first → IsShaped a u → IsShownFor matrices (place_on s i).x (place_on s i).y r w u
  shown_as u e shaped = record {
    matrix = shown.matrix;
    at = shown.at;
    is = corner_shown shown.matrix (area_on w shown.matrix s i) within_here a.shape.w a.shape.h is.wide is.tall (is.across i below) (is.down i below) w.view u is.upright
        (e ∙ first_here) (shaped.step_x ∙ is.step_x) (shaped.step_y ∙ is.step_y) (ap (λ (t : Shape). t.w) shaped.shape) (ap (λ (t : Shape). t.h) shaped.shape);
  }

-- ---- the next view
module _ (matrices : List View) (s : Stretch) (i : ℕ) (r : Read) (w : Window) (v : View) (shown : IsShownFor matrices (place_on s i).x (place_on s i).y r w v) (next : LiesWithin matrices (place_on s (i + 1)).x (place_on s (i + 1)).y r w)
    (here : LiesWithin matrices (place_on s i).x (place_on s i).y r w) (below : i + 1 < s.count) (a : Advance) (is : IsAdvance w shown.matrix s a) where
  abbrev m : View
  m = shown.matrix

  within_as : (j : ℕ) → LiesWithin matrices (place_on s j).x (place_on s j).y r w → IsWithin (area_on w m s j) (pos m.shape.w) (pos m.shape.h)
  within_as j l = subst (λ (q : View). IsWithin (area_on w q s j) (pos q.shape.w) (pos q.shape.h)) (some_same l.matrix m (sym l.at ∙ shown.at)) l.within

  at_first : i < s.count
  at_first = omega (arith, below)

  abbrev corner_next_is : ℕ
  corner_next_is = corner m (area_on w m s (i + 1)) (within_as (i + 1) next) a.shape.w a.shape.h is.wide is.tall (is.across (i + 1) below) (is.down (i + 1) below)

  first_is : pos v.first ≡ corner_cell m (area_on w m s i)
  first_is = ap pos (is_corner m (area_on w m s i) (within_as i here) a.shape.w a.shape.h is.wide is.tall (is.across i at_first) (is.down i at_first) w.view v is.upright shown.is)
      ∙ corner_is m (area_on w m s i) (within_as i here) a.shape.w a.shape.h is.wide is.tall (is.across i at_first) (is.down i at_first)

  next_is : pos corner_next_is ≡ corner_cell m (area_on w m s (i + 1))
  next_is = corner_is m (area_on w m s (i + 1)) (within_as (i + 1) next) a.shape.w a.shape.h is.wide is.tall (is.across (i + 1) below) (is.down (i + 1) below)

  goes : (far : Distance) → IsFurther (corner_cell m (area_on w m s i)) (corner_cell m (area_on w m s (i + 1))) far → IsFromTo v.first corner_next_is far
  goes (Up by) e = omega (arith, ints, e, first_is, next_is)
  goes (Down by) e = omega (arith, ints, e, first_is, next_is)

  one_way : (far : Distance) (x y z : ℕ) → IsFromTo x y far → IsFromTo x z far → y ≡ z
  one_way (Up by) x y z p q = omega (arith, p, q)
  one_way (Down by) x y z p q = omega (arith, p, q)

  can_move : CanMove a v.first
  can_move = record {
    next = corner_next_is;
    far = goes a.far (is.far i below);
    small = subst (λ (p : ℕ × ℕ). corner_next_is + (a.shape.w * p.0 + a.shape.h * p.1) ≤ 2 ^ 63) (λ j. (sym is.step_x j, sym is.step_y j)) (corner_small m (area_on w m s (i + 1)) (within_as (i + 1) next) a.shape.w a.shape.h is.wide is.tall (is.across (i + 1) below) (is.down (i + 1) below));
  }

  next_shown : (u : View) → IsMoved a v.first u → IsShownFor matrices (place_on s (i + 1)).x (place_on s (i + 1)).y r w u
  next_shown u moves = record {
    matrix = m;
    at = shown.at;
    is = corner_shown m (area_on w m s (i + 1)) (within_as (i + 1) next) a.shape.w a.shape.h is.wide is.tall (is.across (i + 1) below) (is.down (i + 1) below) w.view u is.upright
        (one_way a.far v.first u.first corner_next_is moves.far (goes a.far (is.far i below))) (moves.step_x ∙ is.step_x) (moves.step_y ∙ is.step_y) (ap (λ (t : Shape). t.w) moves.shape) (ap (λ (t : Shape). t.h) moves.shape);
  }

-- ---- the rectangle of a place
pub rect_on : (w : Window) (m : View) (s : Stretch) (i x y : ℕ) (r : Rect) → x ≡ (place_on s i).x → y ≡ (place_on s i).y → IsRect (shown_by w m x y w.view) r → IsRect (area_on w m s i) r
rect_on w m s i x y r ex ey is = subst (λ (q : ℕ × ℕ). IsRect (shown_by w m q.0 q.1 w.view) r) (λ j. (ex j, ey j)) is

-- ---- one advance more
pub advances_none : (matrices : List View) (s : Stretch) (rs : List Read) (ws : List Window) (held : List Advance) → held ≡ [] → AreAdvances matrices s rs ws 0 held
advances_none matrices s rs ws held e = record { count = ap length e; each = λ k r w a m at_r at_w at_a at_m. absurd (no_one k a (ap (λ (l : List Advance). slice_get l k) (sym e) ∙ at_a)) }
  where
    no_one : (k : ℕ) (a : Advance) → slice_get {X = Advance} [] k ≡ Some a → ⊥
    no_one k a e = absurd (cc)

pub advances_more : (matrices : List View) (s : Stretch) (rs : List Read) (ws : List Window) (k : ℕ) (old new : List Advance) (r : Read) (w : Window) (a : Advance) (m : View) → AreAdvances matrices s rs ws k old → slice_get rs k ≡ Some r → slice_get ws k ≡ Some w
    → slice_get matrices r.matrix ≡ Some m → IsAdvance w m s a → new ≡ old ++ a ∷ [] → AreAdvances matrices s rs ws (k + 1) new
advances_more matrices s rs ws k old new r w a m before at_r at_w at_m is e = record {
  count = ap length e ∙ longer old ∙ ap (λ n. n + 1) before.count;
  each = λ j q z b n on_r on_w on_a on_m. ⊎_elim
      (λ (less : j < length old). before.each j q z b n on_r on_w (sym (left_of old (a ∷ []) j less) ∙ ap (λ (l : List Advance). slice_get l j) (sym e) ∙ on_a) on_m)
      (λ (more : length old ≤ j).
      let last = last_of old a j b more (ap (λ (l : List Advance). slice_get l j) (sym e) ∙ on_a) in
      let here : j ≡ k = last.0 ∙ before.count in
      let same_r : r ≡ q = some_same r q (sym at_r ∙ ap (slice_get rs) (sym here) ∙ on_r) in
      let same_w : w ≡ z = some_same w z (sym at_w ∙ ap (slice_get ws) (sym here) ∙ on_w) in
      let same_m : m ≡ n = some_same m n (sym at_m ∙ ap (λ (u : Read). slice_get matrices u.matrix) same_r ∙ on_m) in
      subst (λ (u : Window × View). IsAdvance u.0 u.1 s b) (λ i. (same_w i, same_m i)) (subst (IsAdvance w m s) last.1 is))
      (cases_lt j (length old));
}
  where
    longer : (l : List Advance) → length (l ++ a ∷ []) ≡ length l + 1
    longer [] = omega arith
    longer (z ∷ l) = omega (arith, longer l)

-- ---- while the views go on: the first ones are shown at the next place, and the others still at this one
pub record AreHalfShown (matrices : List View) (rs : List Read) (ws : List Window) (s : Stretch) (i k : ℕ) (views : List View) : Type 0 where
  pub count : length views ≡ length rs
  pub done : (j : ℕ) → j < k → IsShownAt matrices rs ws s (i + 1) j views
  pub still : (j : ℕ) → k ≤ j → IsShownAt matrices rs ws s i j views

pub half_begun : (matrices : List View) (rs : List Read) (ws : List Window) (s : Stretch) (i : ℕ) (views : List View) → AreShown matrices (place_on s i).x (place_on s i).y rs ws (length rs) views → AreHalfShown matrices rs ws s i 0 views
half_begun matrices rs ws s i views are = record { count = are.count; done = λ j h. absurd (omega (arith, h)); still = λ j h r w v. are.each j r w v }

pub half_done : (matrices : List View) (rs : List Read) (ws : List Window) (s : Stretch) (i k : ℕ) (views : List View) → length rs ≤ k → AreHalfShown matrices rs ws s i k views → AreShown matrices (place_on s (i + 1)).x (place_on s (i + 1)).y rs ws (length rs) views
half_done matrices rs ws s i k views all h = record { count = h.count; each = λ j r w v at_r at_w at_v. h.done j (omega (arith, slice_get_within rs j r at_r, all)) r w v at_r at_w at_v }

set_same : (xs : List View) (k : ℕ) (x y : View) → slice_get (set xs k x) k ≡ Some y → x ≡ y
set_same [] k x y e = absurd (cc)
set_same (z ∷ xs) zero x y e = some_same x y e
set_same (z ∷ xs) (suc k) x y e = set_same xs k x y e

set_other : (xs : List View) (k j : ℕ) (x : View) → (j ≡ k → ⊥) → slice_get (set xs k x) j ≡ slice_get xs j
set_other [] k j x n = refl
set_other (z ∷ xs) zero zero x n = absurd (n refl)
set_other (z ∷ xs) zero (suc j) x n = refl
set_other (z ∷ xs) (suc k) zero x n = refl
set_other (z ∷ xs) (suc k) (suc j) x n = set_other xs k j x (λ e. n (ap suc e))

same_number : (j k : ℕ) → (j ≡ k) ⊎ (j ≡ k → ⊥)
same_number zero zero = inl refl
same_number zero (suc k) = inr (λ e. absurd (omega (arith, e)))
same_number (suc j) zero = inr (λ e. absurd (omega (arith, e)))
same_number (suc j) (suc k) = ⊎_elim (λ e. inl (ap suc e)) (λ n. inr (λ e. n (omega (arith, e)))) (same_number j k)

pub shown_set : (matrices : List View) (x y n k : ℕ) (rs : List Read) (ws : List Window) (views new : List View) (v : View) → AreShown matrices x y rs ws n views
    → ((r : Read) (w : Window) → slice_get rs k ≡ Some r → slice_get ws k ≡ Some w → IsShownFor matrices x y r w v) → new ≡ set views k v → AreShown matrices x y rs ws n new
shown_set matrices x y n k rs ws views new v are is e = record {
  count = ap length e ∙ length-set views k v ∙ are.count;
  each = λ j r w u at_r at_w at_u. ⊎_elim
      (λ (here : j ≡ k).
      let same : v ≡ u = set_same views k v u (ap (slice_get (set views k v)) (sym here) ∙ ap (λ (l : List View). slice_get l j) (sym e) ∙ at_u) in
      subst (IsShownFor matrices x y r w) same (is r w (ap (slice_get rs) (sym here) ∙ at_r) (ap (slice_get ws) (sym here) ∙ at_w)))
      (λ (other : j ≡ k → ⊥). are.each j r w u at_r at_w (sym (set_other views k j v other) ∙ ap (λ (l : List View). slice_get l j) (sym e) ∙ at_u))
      (same_number j k);
}

pub shaped_none : (advs : List Advance) (views : List View) → advs ≡ [] → AreShaped advs views
shaped_none advs views e k a v at_a at_v = absurd (no_advance k a (ap (λ (l : List Advance). slice_get l k) (sym e) ∙ at_a))
  where
    no_advance : (k : ℕ) (a : Advance) → slice_get {X = Advance} [] k ≡ Some a → ⊥
    no_advance k a e = absurd (cc)

pub shaped_more : (old new : List Advance) (views held : List View) (k : ℕ) (a : Advance) (v : View) → length old ≡ k → AreShaped old views → IsShaped a v → new ≡ old ++ a ∷ [] → held ≡ set views k v → AreShaped new held
shaped_more old new views held k a v count before is e f j b u at_b at_u = ⊎_elim
    (λ (less : j < length old). before j b u (sym (left_of old (a ∷ []) j less) ∙ ap (λ (l : List Advance). slice_get l j) (sym e) ∙ at_b) (sym (set_other views k j v (λ z. absurd (omega (arith, less, count, z)))) ∙ ap (λ (l : List View). slice_get l j) (sym f) ∙ at_u))
    (λ (more : length old ≤ j).
    let last = last_of old a j b more (ap (λ (l : List Advance). slice_get l j) (sym e) ∙ at_b) in
    let here : j ≡ k = last.0 ∙ count in
    let same : v ≡ u = set_same views k v u (ap (slice_get (set views k v)) (sym here) ∙ ap (λ (l : List View). slice_get l j) (sym f) ∙ at_u) in
    subst (λ (p : Advance × View). IsShaped p.0 p.1) (λ i. (last.1 i, same i)) is)
    (cases_lt j (length old))

pub shaped_set : (advs : List Advance) (views new : List View) (k : ℕ) (v : View) → AreShaped advs views → ((a : Advance) → slice_get advs k ≡ Some a → IsShaped a v) → new ≡ set views k v → AreShaped advs new
shaped_set advs views new k v are is e j a u at_a at_u = ⊎_elim
    (λ (here : j ≡ k).
    let same : v ≡ u = set_same views k v u (ap (slice_get (set views k v)) (sym here) ∙ ap (λ (l : List View). slice_get l j) (sym e) ∙ at_u) in
    subst (IsShaped a) same (is a (ap (slice_get advs) (sym here) ∙ at_a)))
    (λ (other : j ≡ k → ⊥). are j a u at_a (sym (set_other views k j v other) ∙ ap (λ (l : List View). slice_get l j) (sym e) ∙ at_u))
    (same_number j k)

pub moved_shaped : (a : Advance) (first : ℕ) (v : View) → IsMoved a first v → IsShaped a v
moved_shaped a first v is = record { step_x = is.step_x; step_y = is.step_y; shape = is.shape }

pub half_more : (matrices : List View) (rs : List Read) (ws : List Window) (s : Stretch) (i k : ℕ) (views new : List View) (v : View) → AreHalfShown matrices rs ws s i k views
    → ((r : Read) (w : Window) → slice_get rs k ≡ Some r → slice_get ws k ≡ Some w → IsShownFor matrices (place_on s (i + 1)).x (place_on s (i + 1)).y r w v) → new ≡ set views k v → AreHalfShown matrices rs ws s i (k + 1) new
half_more matrices rs ws s i k views new v h is e = record {
  count = ap length e ∙ length-set views k v ∙ h.count;
  done = λ j less r w u at_r at_w at_u. ⊎_elim
      (λ (before : j < k). h.done j before r w u at_r at_w (sym (set_other views k j v (λ z. absurd (omega (arith, before, z)))) ∙ ap (λ (l : List View). slice_get l j) (sym e) ∙ at_u))
      (λ (not_before : k ≤ j).
      let here : j ≡ k = omega (arith, less, not_before) in
      let same : v ≡ u = set_same views k v u (ap (slice_get (set views k v)) (sym here) ∙ ap (λ (l : List View). slice_get l j) (sym e) ∙ at_u) in
      subst (IsShownFor matrices (place_on s (i + 1)).x (place_on s (i + 1)).y r w) same (is r w (ap (slice_get rs) (sym here) ∙ at_r) (ap (slice_get ws) (sym here) ∙ at_w)))
      (cases_lt j k);
  still = λ j more r w u at_r at_w at_u. h.still j (omega (arith, more)) r w u at_r at_w (sym (set_other views k j v (λ z. absurd (omega (arith, more, z)))) ∙ ap (λ (l : List View). slice_get l j) (sym e) ∙ at_u);
}

-- ---- a read of a stretch
module _ (matrices : List View) (rs : List Read) (ws : List Window) (s : Stretch) (along : AreWithinAlong matrices rs ws s) (k : ℕ) (r : Read) (w : Window) (at_r : slice_get rs k ≡ Some r) (at_w : slice_get ws k ≡ Some w) where
  pub window_on : (m : View) → slice_get matrices r.matrix ≡ Some m → (i : ℕ) → i < s.count → IsWindowOn w m s i
  window_on m at i below = record {
    small_x = (along i below).small_x;
    small_y = (along i below).small_y;
    within = lies_within matrices (place_on s i).x (place_on s i).y rs ws (along i below).within k r w at_r at_w m at;
  }

  pub lies_at : (i : ℕ) → i < s.count → LiesWithin matrices (place_on s i).x (place_on s i).y r w
  lies_at i below = (along i below).within k r w at_r at_w

-- ---- the view of a read, with the steps and the shape of its advance
module _ (matrices : List View) (rs : List Read) (ws : List Window) (s : Stretch) (along : AreWithinAlong matrices rs ws s) (i : ℕ) (below : i < s.count) (views : List View) (are : AreShown matrices (place_on s i).x (place_on s i).y rs ws (length rs) views)
    (k : ℕ) (r : Read) (w : Window) (m v : View) (a : Advance) (at_r : slice_get rs k ≡ Some r) (at_w : slice_get ws k ≡ Some w) (at_m : slice_get matrices r.matrix ≡ Some m) (at_v : slice_get views k ≡ Some v) (is : IsAdvance w m s a) where
  of_read : IsShownFor matrices (place_on s i).x (place_on s i).y r w v
  of_read = are.each k r w v at_r at_w at_v

  of_matrix : IsAdvance w of_read.matrix s a
  of_matrix = subst (λ (q : View). IsAdvance w q s a) (some_same m of_read.matrix (sym at_m ∙ of_read.at)) is

  pub room_at : v.first + (a.shape.w * a.step_x + a.shape.h * a.step_y) ≤ 2 ^ 63
  room_at = room_here matrices s i r w v of_read (lies_at matrices rs ws s along k r w at_r at_w i below) below a of_matrix

  pub shown_with : (new : List View) (u : View) → u.first ≡ v.first → IsShaped a u → new ≡ set views k u → AreShown matrices (place_on s i).x (place_on s i).y rs ws (length rs) new
  shown_with new u e shaped f = shown_set matrices (place_on s i).x (place_on s i).y (length rs) k rs ws views new u are
      (λ q z on_r on_w. subst (λ (p : Read × Window). IsShownFor matrices (place_on s i).x (place_on s i).y p.0 p.1 u) (λ j. (some_same r q (sym at_r ∙ on_r) j, some_same w z (sym at_w ∙ on_w) j))
      (shown_as matrices s i r w v of_read (lies_at matrices rs ws s along k r w at_r at_w i below) below a of_matrix u e shaped)) f

-- ---- the view of a read at the next place
module _ (matrices : List View) (rs : List Read) (ws : List Window) (s : Stretch) (along : AreWithinAlong matrices rs ws s) (i : ℕ) (below : i + 1 < s.count) (k : ℕ) (there : k < length rs) (as_many : length ws ≡ length rs) (views : List View)
    (shown : IsShownAt matrices rs ws s i k views) (advs : List Advance) (are : AreAdvances matrices s rs ws (length rs) advs) (v : View) (at_v : slice_get views k ≡ Some v) (a : Advance) (at_a : slice_get advs k ≡ Some a) where
  read : (r : Read) × (slice_get rs k ≡ Some r)
  read = some_at rs k there

  window : (w : Window) × (slice_get ws k ≡ Some w)
  window = some_at ws k (omega (arith, there, as_many))

  here : IsShownFor matrices (place_on s i).x (place_on s i).y read.0 window.0 v
  here = shown read.0 window.0 v read.1 window.1 at_v

  advance : IsAdvance window.0 here.matrix s a
  advance = are.each k read.0 window.0 a here.matrix read.1 window.1 at_a here.at

  lies : (j : ℕ) → j < s.count → LiesWithin matrices (place_on s j).x (place_on s j).y read.0 window.0
  lies j h = lies_at matrices rs ws s along k read.0 window.0 read.1 window.1 j h

  now_below : i < s.count
  now_below = omega (arith, below)

  abbrev pub IsNextOf : View → Type 0
  IsNextOf u = (r : Read) (w : Window) → slice_get rs k ≡ Some r → slice_get ws k ≡ Some w → IsShownFor matrices (place_on s (i + 1)).x (place_on s (i + 1)).y r w u

  of_this : (u : View) → IsShownFor matrices (place_on s (i + 1)).x (place_on s (i + 1)).y read.0 window.0 u → IsNextOf u
  of_this u is r w at_r at_w = subst (λ (p : Read × Window). IsShownFor matrices (place_on s (i + 1)).x (place_on s (i + 1)).y p.0 p.1 u) (λ j. (some_same read.0 r (sym read.1 ∙ at_r) j, some_same window.0 w (sym window.1 ∙ at_w) j)) is

  pub can_go : CanMove a v.first
  can_go = can_move matrices s i read.0 window.0 v here (lies (i + 1) below) (lies i now_below) below a advance

  pub goes_on : (u : View) → IsMoved a v.first u → IsNextOf u
  goes_on u is = of_this u (next_shown matrices s i read.0 window.0 v here (lies (i + 1) below) (lies i now_below) below a advance u is)

-- ---- an element of a list by its number
pub index_there : {A : Type 0} (xs : List A) (k : ℕ) (x : A) → k < length xs → x ≡ get_or xs k x → slice_get xs k ≡ Some x
index_there xs k x below is = slice_get-get_or xs k x below ∙ ap Some (sym is)
