-- Sums of what a view shows along a row.
use Rattle.std.proofs.Common.{◌≡◌, ◌∙◌, refl, sym, ap, subst, ℕ, zero, suc, ◌+◌, ◌-◌, ◌*◌, ◌<◌, ◌≤◌, ◌^◌, ℤ, pos, negsuc, ◌*ℤ◌, ◌≤ℤ◌, unsigned_abs, List, [], ◌∷◌, ◌++◌, length, map, get_or, Some, arith}
use Rattle.std.specs.Prelude.{sum_by}
use Rattle.std.specs.List.{flat_map, range_with_len}
use Rattle.std.specs.Option.{option_map_or}
use Rattle.std.proofs.lemmas.Int.{ints}
use Rattle.std.proofs.lemmas.List.{length-append, length-map}
use Rattle.std.proofs.lemmas.List.FromFn.{length-range_with_len}
use Rattle.std.proofs.lemmas.List.Sums.{sum_by_push}
use Rattle.std.proofs.lemmas.Option.{get_or_from_slice_get}
use Rattle.pb_linear.specs.Numbers.{exact_value}
use Rattle.pb_values.specs.declared.rect.Rect.{Rect}
use Rattle.pb_values.specs.declared.shape.TheConstants.{MOST_SIDE}
use Rattle.pb_program.specs.Areas.{Area, Span, area_of}
use Rattle.pb_program.specs.Forms.{DeclValue}
use Rattle.pb_program.specs.declared.view.Read.{Read}
use Rattle.pb_region.specs.Within.{IsAlong, IsWithin}
use Rattle.pb_model.specs.Cells.{Cell, cells_of, cells_of_view, natural, numbers_of}
use Rattle.pb_sums.specs.Sums.{sum_of_products, value_at}
use Rattle.pb_sums.specs.declared.progression.Progression.{Progression}
use Rattle.pb_views.proofs.CellLemmas.{numbers_are}
use Rattle.pb_views.specs.Layouts.{HasShortSides}
use Rattle.pb_instance_cost.specs.Extents.{extent_at, height_at, span_length, width_at}
use Rattle.pb_instance_cost.specs.Shown.{CanShow, columns, row_shown, variables_at}
use Rattle.pb_instance_cost.specs.declared.extent.Extent.{Extent}
use Rattle.pb_instance_cost.proofs.ExtentLemmas.{step_is}

-- ---- how many cells an area has
flat_length : (f : ℕ → List Cell) (n : ℕ) (ks : List ℕ) → ((k : ℕ) → length (f k) ≡ n) → length (flat_map f ks) ≡ n * length ks
flat_length f n [] same = omega arith
flat_length f n (k ∷ ks) same = grind (arith, length-append (f k) (flat_map f ks), same k, flat_length f n ks same)

span_count : (s : Span) (side : ℤ) → IsAlong s side → pos (length (numbers_of s)) ≡ span_length s
span_count s side h = by s.low s.high refl refl
  where
    by : (low high : ℤ) → low ≡ s.low → high ≡ s.high → pos (length (numbers_of s)) ≡ span_length s
    by (pos a) (pos b) e f =
        let order : a ≤ b = omega (arith, ints, h.order, e, f) in
        omega (arith, ints, ap length (numbers_are s a b e f order), length-range_with_len a (b - a), order, e, f)
    by (pos a) (negsuc b) e f = absurd (omega (arith, ints, h.order, e, f))
    by (negsuc a) high e f = absurd (omega (arith, ints, h.start, e))

pub area_count : (m : ℕ) (a : Area) (w h : ℤ) → IsWithin a w h → pos (length (cells_of m a)) ≡ span_length a.x *ℤ span_length a.y
unfolding cells_of
area_count m a w h is =
    ap pos (flat_length (λ y. map (λ x. record { matrix = m; x = x; y = y }) (numbers_of a.x)) (length (numbers_of a.x)) (numbers_of a.y) (λ y. length-map (numbers_of a.x) (λ x. record { matrix = m; x = x; y = y })))
    ∙ ap (λ z. z *ℤ pos (length (numbers_of a.y))) (span_count a.x w is.x) ∙ ap (λ z. span_length a.x *ℤ z) (span_count a.y h is.y)

-- ---- a row
range_more : (x n : ℕ) → range_with_len x (suc n) ≡ range_with_len x n ++ (x + n) ∷ []
range_more x zero = let e : x + 0 ≡ x = omega arith in rw e refl
range_more x (suc n) = let e : x + 1 + n ≡ x + suc n = omega arith in ap (λ l. x ∷ l) (range_more (x + 1) n ∙ ap (λ k. range_with_len (x + 1) n ++ k ∷ []) e)

pub sum_more : (f : ℕ → ℕ) (x n : ℕ) → sum_by f (range_with_len x (suc n)) ≡ sum_by f (range_with_len x n) + f (x + n)
sum_more f x n = ap (sum_by f) (range_more x n) ∙ sum_by_push f (range_with_len x n) (x + n)

products_are : (f : ℕ → ℕ) (x : ℕ) (a b : Progression) (n : ℕ) → ((k : ℕ) → k < n → pos (f (x + k)) ≡ value_at a k *ℤ value_at b k) → pos (sum_by f (range_with_len x n)) ≡ sum_of_products a b n
unfolding sum_of_products
products_are f x a b zero each = refl
products_are f x a b (suc n) each = omega (arith, ints, sum_more f x n, products_are f x a b n (λ k h. each k (omega (arith, h))), each n (omega arith))

pub near_extent : (s : Span) (side e : ℤ) → IsAlong s side → natural side ≤ MOST_SIDE → e ≡ span_length s → unsigned_abs e ≤ 2 ^ 27
near_extent s (pos n) e h short is = omega (arith, ints, h.start, h.order, h.end, short, is)
near_extent s (negsuc n) e h short is = absurd (omega (arith, ints, h.start, h.order, h.end))

next_sum : (f : ℕ → ℕ) (from k cost n new : ℕ) → from ≤ k → cost ≡ sum_by f (range_with_len from (k - from)) → new ≡ cost + n → n ≡ f k → new ≡ sum_by f (range_with_len from (k + 1 - from))
next_sum f from k cost n new low so_far sum one =
    let e : k + 1 - from ≡ suc (k - from) = omega (arith, low) in
    let at : from + (k - from) ≡ k = omega (arith, low) in
    omega (arith, so_far, sum, one, ap (λ l. sum_by f (range_with_len from l)) e, sum_more f from (k - from), ap f at)

-- ---- the matrix of a view
module _ (matrices : List DeclValue) (sizes : List ℕ) (rect : Rect) (r : Read) (can : CanShow matrices sizes rect r) (d : DeclValue) (is : d ≡ get_or matrices r.matrix d) where
  abbrev w : ℤ
  w = exact_value d.w sizes

  abbrev h : ℤ
  h = exact_value d.h sizes

  same : can.decl ≡ d
  same = sym (is ∙ get_or_from_slice_get matrices r.matrix can.decl d can.there)

  at : (x y : ℕ) → rect.x0 ≤ x → x < rect.x1 → rect.y0 ≤ y → y < rect.y1 → IsWithin (area_of sizes (pos x) (pos y) r d) w h
  at x y left right low high = subst (λ (e : DeclValue). IsWithin (area_of sizes (pos x) (pos y) r e) (exact_value e.w sizes) (exact_value e.h sizes)) same (can.within x y (record { left = left; right = right; low = low; high = high }))

  corner : IsWithin (area_of sizes (pos rect.x0) (pos rect.y0) r d) w h
  corner = at rect.x0 rect.y0 (omega arith) can.wide (omega arith) can.tall

  -- no side is negative
  pub side_w : pos 0 ≤ℤ w
  side_w = omega (arith, ints, corner.x.start, corner.x.order, corner.x.end)

  pub side_h : pos 0 ≤ℤ h
  side_h = omega (arith, ints, corner.y.start, corner.y.order, corner.y.end)

  shown : ℕ → ℕ → ℕ
  shown y x = length (cells_of_view matrices sizes (variables_at y x) r)

  shown_is : (x y : ℕ) → shown y x ≡ length (cells_of r.matrix (area_of sizes (pos x) (pos y) r d))
  unfolding shown
  shown_is x y = ap (λ o. length (option_map_or (λ e. cells_of r.matrix (area_of sizes (pos x) (pos y) r e)) o [])) (can.there ∙ ap Some same)

  module _ (across down : Extent) (ew : (x y : ℤ) → extent_at across x y ≡ width_at r d sizes x y) (eh : (x y : ℤ) → extent_at down x y ≡ height_at r d sizes x y) (y : ℕ) (low : rect.y0 ≤ y) (high : y < rect.y1) where
    pub near_across : HasShortSides sizes d → unsigned_abs (extent_at across (pos rect.x0) (pos y)) ≤ 2 ^ 27
    near_across short = let is = at rect.x0 y (omega arith) can.wide low high in near_extent _ w _ is.x short.width (ew (pos rect.x0) (pos y))

    pub near_down : HasShortSides sizes d → unsigned_abs (extent_at down (pos rect.x0) (pos y)) ≤ 2 ^ 27
    near_down short = let is = at rect.x0 y (omega arith) can.wide low high in near_extent _ h _ is.y short.height (eh (pos rect.x0) (pos y))

    module _ (a b : Progression) (a_first : a.first ≡ extent_at across (pos rect.x0) (pos y)) (a_step : a.step ≡ across.x) (b_first : b.first ≡ extent_at down (pos rect.x0) (pos y)) (b_step : b.step ≡ down.x) where
      row_is : pos (row_shown matrices sizes r (columns rect) y) ≡ sum_of_products a b (rect.x1 - rect.x0)
      unfolding row_shown shown
      row_is = products_are (shown y) rect.x0 a b (rect.x1 - rect.x0) (λ k below.
          let area = area_of sizes (pos (rect.x0 + k)) (pos y) r d in
          let within = at (rect.x0 + k) y (omega arith) (omega (arith, below)) low high in
          let of_a : span_length area.x ≡ value_at a k = sym (ew (pos (rect.x0 + k)) (pos y)) ∙ step_is across rect.x0 k (pos y) ∙ rw (a_first, a_step) refl in
          let of_b : span_length area.y ≡ value_at b k = sym (eh (pos (rect.x0 + k)) (pos y)) ∙ step_is down rect.x0 k (pos y) ∙ rw (b_first, b_step) refl in
          ap pos (shown_is (rect.x0 + k) y) ∙ area_count r.matrix area w h within ∙ ap (λ z. z *ℤ span_length area.y) of_a ∙ ap (λ z. value_at a k *ℤ z) of_b)

      -- one row more
      pub next_row : (cost n new : ℕ) (row : ℤ) → cost ≡ sum_by (row_shown matrices sizes r (columns rect)) (range_with_len rect.y0 (y - rect.y0)) → row ≡ sum_of_products a b (rect.x1 - rect.x0) → pos n ≡ row → new ≡ cost + n
          → new ≡ sum_by (row_shown matrices sizes r (columns rect)) (range_with_len rect.y0 (y + 1 - rect.y0))
      next_row cost n new row so_far of_row is_n sum = next_sum (row_shown matrices sizes r (columns rect)) rect.y0 y cost n new low so_far sum (omega (arith, ints, is_n, of_row, row_is))
