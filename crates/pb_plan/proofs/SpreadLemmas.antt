-- The box of what a job reads ends where what its cells read ends.
use Rattle.std.proofs.Common.{◌≡◌, ◌∙◌, sym, ap, subst, inl, inr, ◌⊎◌, ℕ, ◌-◌, ◌<◌, ◌≤◌, ℤ, pos, negsuc, ◌+ℤ◌, ◌≤ℤ◌, ◌<ℤ◌, List, Option, slice_get, Some, None, arith}
use Rattle.std.specs.Prelude.{◌==◌, if◌then◌else◌}
use Rattle.std.specs.Int.{int_max, int_min}
use Rattle.std.specs.Option.{option_map_or}
use Rattle.std.proofs.lemmas.Int.{ints}
use Rattle.pb_linear.specs.Form.{value}
use Rattle.pb_linear.specs.Numbers.{exact_value}
use Rattle.pb_linear.specs.VForm.{InArea}
use Rattle.pb_linear.specs.declared.boxes.ReadBox.{ReadBox}
use Rattle.pb_linear.specs.declared.boxes.Sign.{Sign}
use Rattle.pb_linear.specs.declared.boxes.Sign.TheVariants.{Plus, Minus}
use Rattle.pb_linear.specs.declared.vform.SymBox.{SymBox}
use Rattle.pb_values.specs.Views.{HasPlace}
use Rattle.pb_values.specs.declared.rect.Rect.{Rect}
use Rattle.pb_graph.specs.Ranks.{ApartOn, NotAfter, OnEach}
use Rattle.pb_program.specs.Areas.{Area, IsIn, Span, area_by, area_of, from_start, one_place}
use Rattle.pb_program.specs.Forms.{CoordinateValue, DeclValue, coordinate_at}
use Rattle.pb_program.specs.declared.view.Read.{Read}
use Rattle.pb_program.specs.declared.view.ReadView.{ReadView}
use Rattle.pb_program.specs.declared.view.ReadView.TheVariants as view
use Rattle.pb_region.specs.Ends.{area_at}
use Rattle.pb_region.specs.Reads.{read_value}
use Rattle.pb_model.specs.Cells.{natural}
use Rattle.pb_frame.proofs.SpanLemmas.{Ahead}
use Rattle.pb_views.specs.Hulls.{joined}
use Rattle.pb_views.proofs.HullLemmas.{Holds4, fixed, maybe, pair, single}
use Rattle.pb_plan.specs.Boxes.{part_area, rect_from, shown_at}

-- ---- a rectangle's places are its area's that aren't negative
low_to : (z : ℤ) (k : ℕ) → natural z ≤ k → z ≤ℤ pos k
low_to (pos m) k h = omega (arith, ints, h)
low_to (negsuc m) k h = omega (arith, ints)

high_to : (z : ℤ) (k : ℕ) → k < natural z → pos k <ℤ z
high_to (pos m) k h = omega (arith, ints, h)
high_to (negsuc m) k h = omega (arith, h)

to_low : (z : ℤ) (k : ℕ) → z ≤ℤ pos k → natural z ≤ k
to_low (pos m) k h = omega (arith, ints, h)
to_low (negsuc m) k h = omega arith

to_high : (z : ℤ) (k : ℕ) → pos k <ℤ z → k < natural z
to_high (pos m) k h = omega (arith, ints, h)
to_high (negsuc m) k h = absurd (omega (arith, ints, h))

pub rect_in : (a : Area) (x y : ℕ) → HasPlace (rect_from a) x y → IsIn a (pos x) (pos y)
rect_in a x y h = record { left = low_to a.x.low x h.left; right = high_to a.x.high x h.right; low = low_to a.y.low y h.low; high = high_to a.y.high y h.high }

pub in_rect : (a : Area) (x y : ℕ) → IsIn a (pos x) (pos y) → HasPlace (rect_from a) x y
in_rect a x y h = record { left = to_low a.x.low x h.left; right = to_high a.x.high x h.right; low = to_low a.y.low y h.low; high = to_high a.y.high y h.high }

-- ---- ends of four
max_le : (a b c d l : ℤ) → a ≤ℤ l → b ≤ℤ l → c ≤ℤ l → d ≤ℤ l → int_max (int_max a b) (int_max c d) ≤ℤ l
max_le a b c d l ha hb hc hd = two (int_max a b) (int_max c d) (two a b ha hb) (two c d hc hd)
  where
    two : (x y : ℤ) → x ≤ℤ l → y ≤ℤ l → int_max x y ≤ℤ l
    two x y hx hy = grind (arith, ints)

le_min : (a b c d l : ℤ) → l ≤ℤ a → l ≤ℤ b → l ≤ℤ c → l ≤ℤ d → l ≤ℤ int_min (int_min a b) (int_min c d)
le_min a b c d l ha hb hc hd = two (int_min a b) (int_min c d) (two a b ha hb) (two c d hc hd)
  where
    two : (x y : ℤ) → l ≤ℤ x → l ≤ℤ y → l ≤ℤ int_min x y
    two x y hx hy = grind (arith, ints)

-- ---- areas that spread no further than what is shown for some cells
pub record IsSpread (sizes : List ℕ) (cells : SymBox) (q : Read) (d : DeclValue) (a : Area) : Type 0 where
  pub high_x : (l : ℤ) → OnEach cells sizes (λ x y. (area_of sizes x y q d).x.high ≤ℤ l) → a.x.high ≤ℤ l
  pub low_x : (l : ℤ) → OnEach cells sizes (λ x y. l ≤ℤ (area_of sizes x y q d).x.low) → l ≤ℤ a.x.low
  pub high_y : (l : ℤ) → OnEach cells sizes (λ x y. (area_of sizes x y q d).y.high ≤ℤ l) → a.y.high ≤ℤ l
  pub low_y : (l : ℤ) → OnEach cells sizes (λ x y. l ≤ℤ (area_of sizes x y q d).y.low) → l ≤ℤ a.y.low

-- areas that end no further from a rectangle than what is shown for some cells does from each cell
pub record EndsWith (sizes : List ℕ) (cells : SymBox) (q : Read) (d : DeclValue) (r : Rect) (a : Area) : Type 0 where
  pub high_x : OnEach cells sizes (λ x y. (area_of sizes x y q d).x.high ≤ℤ (x +ℤ pos 1)) → a.x.high ≤ℤ pos r.x1
  pub low_x : OnEach cells sizes (λ x y. x ≤ℤ (area_of sizes x y q d).x.low) → pos r.x0 ≤ℤ a.x.low
  pub high_y : OnEach cells sizes (λ x y. (area_of sizes x y q d).y.high ≤ℤ (y +ℤ pos 1)) → a.y.high ≤ℤ pos r.y1
  pub low_y : OnEach cells sizes (λ x y. y ≤ℤ (area_of sizes x y q d).y.low) → pos r.y0 ≤ℤ a.y.low

module _ (matrices : List DeclValue) (sizes : List ℕ) (q : Read) (d : DeclValue) (there : slice_get matrices q.matrix ≡ Some d) where
  pub shown_is : (x y : ℕ) → shown_at matrices sizes q x y ≡ area_of sizes (pos x) (pos y) q d
  shown_is x y = ap (λ o. option_map_or (area_of sizes (pos x) (pos y) q) o (record { x = from_start (pos 0); y = from_start (pos 0) })) there

  module _ (cells : SymBox) (r : Rect) (wide : r.x0 < r.x1) (tall : r.y0 < r.y1) (within : (x y : ℕ) → HasPlace r x y → InArea cells sizes (pos x) (pos y)) where
    corner : (x y : ℕ) → HasPlace r x y → (f : Area → ℤ) (P : ℤ → Type 0) → OnEach cells sizes (λ u v. P (f (area_of sizes u v q d))) → P (f (shown_at matrices sizes q x y))
    corner x y h f P all = subst (λ (b : Area). P (f b)) (sym (shown_is x y)) (all (pos x) (pos y) (within x y h))

    c00 : HasPlace r r.x0 r.y0
    c00 = record { left = omega arith; right = omega (arith, wide); low = omega arith; high = omega (arith, tall) }

    c10 : HasPlace r (r.x1 - 1) r.y0
    c10 = record { left = omega (arith, wide); right = omega (arith, wide); low = omega arith; high = omega (arith, tall) }

    c01 : HasPlace r r.x0 (r.y1 - 1)
    c01 = record { left = omega arith; right = omega (arith, wide); low = omega (arith, tall); high = omega (arith, tall) }

    c11 : HasPlace r (r.x1 - 1) (r.y1 - 1)
    c11 = record { left = omega (arith, wide); right = omega (arith, wide); low = omega (arith, tall); high = omega (arith, tall) }

    pub part_spread : IsSpread sizes cells q d (part_area matrices sizes r q)
    unfolding part_area
    part_spread = record {
      high_x = λ l all. let f = λ (b : Area). b.x.high in let P = λ (z : ℤ). z ≤ℤ l in max_le _ _ _ _ l (corner r.x0 r.y0 c00 f P all) (corner (r.x1 - 1) r.y0 c10 f P all) (corner r.x0 (r.y1 - 1) c01 f P all) (corner (r.x1 - 1) (r.y1 - 1) c11 f P all);
      low_x = λ l all. let f = λ (b : Area). b.x.low in let P = λ (z : ℤ). l ≤ℤ z in le_min _ _ _ _ l (corner r.x0 r.y0 c00 f P all) (corner (r.x1 - 1) r.y0 c10 f P all) (corner r.x0 (r.y1 - 1) c01 f P all) (corner (r.x1 - 1) (r.y1 - 1) c11 f P all);
      high_y = λ l all. let f = λ (b : Area). b.y.high in let P = λ (z : ℤ). z ≤ℤ l in max_le _ _ _ _ l (corner r.x0 r.y0 c00 f P all) (corner (r.x1 - 1) r.y0 c10 f P all) (corner r.x0 (r.y1 - 1) c01 f P all) (corner (r.x1 - 1) (r.y1 - 1) c11 f P all);
      low_y = λ l all. let f = λ (b : Area). b.y.low in let P = λ (z : ℤ). l ≤ℤ z in le_min _ _ _ _ l (corner r.x0 r.y0 c00 f P all) (corner (r.x1 - 1) r.y0 c10 f P all) (corner r.x0 (r.y1 - 1) c01 f P all) (corner (r.x1 - 1) (r.y1 - 1) c11 f P all);
    }

    -- a part's box ends on each axis where its cells' ends all stand at or before the cell, or after it
    each : (x y : ℕ) → HasPlace r x y → (f : Area → ℤ) (P : ℤ → ℤ → ℤ → Type 0) → OnEach cells sizes (λ u v. P u v (f (area_of sizes u v q d))) → P (pos x) (pos y) (f (shown_at matrices sizes q x y))
    each x y h f P all = subst (λ (b : Area). P (pos x) (pos y) (f b)) (sym (shown_is x y)) (all (pos x) (pos y) (within x y h))

    to_end : (k e : ℕ) (z : ℤ) → k < e → z ≤ℤ (pos k +ℤ pos 1) → z ≤ℤ pos e
    to_end k e z less h = omega (arith, ints, less, h)

    to_start : (k s : ℕ) (z : ℤ) → s ≤ k → pos k ≤ℤ z → pos s ≤ℤ z
    to_start k s z less h = omega (arith, ints, less, h)

    pub part_ends : EndsWith sizes cells q d r (part_area matrices sizes r q)
    unfolding part_area
    part_ends = record {
      high_x = λ all. let f = λ (b : Area). b.x.high in let P = λ (u v z : ℤ). z ≤ℤ (u +ℤ pos 1) in
          max_le _ _ _ _ (pos r.x1) (to_end r.x0 r.x1 _ wide (each r.x0 r.y0 c00 f P all)) (to_end (r.x1 - 1) r.x1 _ (omega (arith, wide)) (each (r.x1 - 1) r.y0 c10 f P all)) (to_end r.x0 r.x1 _ wide (each r.x0 (r.y1 - 1) c01 f P all)) (to_end (r.x1 - 1) r.x1 _ (omega (arith, wide)) (each (r.x1 - 1) (r.y1 - 1) c11 f P all));
      low_x = λ all. let f = λ (b : Area). b.x.low in let P = λ (u v z : ℤ). u ≤ℤ z in
          le_min _ _ _ _ (pos r.x0) (to_start r.x0 r.x0 _ (omega arith) (each r.x0 r.y0 c00 f P all)) (to_start (r.x1 - 1) r.x0 _ (omega (arith, wide)) (each (r.x1 - 1) r.y0 c10 f P all)) (to_start r.x0 r.x0 _ (omega arith) (each r.x0 (r.y1 - 1) c01 f P all)) (to_start (r.x1 - 1) r.x0 _ (omega (arith, wide)) (each (r.x1 - 1) (r.y1 - 1) c11 f P all));
      high_y = λ all. let f = λ (b : Area). b.y.high in let P = λ (u v z : ℤ). z ≤ℤ (v +ℤ pos 1) in
          max_le _ _ _ _ (pos r.y1) (to_end r.y0 r.y1 _ tall (each r.x0 r.y0 c00 f P all)) (to_end r.y0 r.y1 _ tall (each (r.x1 - 1) r.y0 c10 f P all)) (to_end (r.y1 - 1) r.y1 _ (omega (arith, tall)) (each r.x0 (r.y1 - 1) c01 f P all)) (to_end (r.y1 - 1) r.y1 _ (omega (arith, tall)) (each (r.x1 - 1) (r.y1 - 1) c11 f P all));
      low_y = λ all. let f = λ (b : Area). b.y.low in let P = λ (u v z : ℤ). v ≤ℤ z in
          le_min _ _ _ _ (pos r.y0) (to_start r.y0 r.y0 _ (omega arith) (each r.x0 r.y0 c00 f P all)) (to_start r.y0 r.y0 _ (omega arith) (each (r.x1 - 1) r.y0 c10 f P all)) (to_start (r.y1 - 1) r.y0 _ (omega (arith, tall)) (each r.x0 (r.y1 - 1) c01 f P all)) (to_start (r.y1 - 1) r.y0 _ (omega (arith, tall)) (each (r.x1 - 1) (r.y1 - 1) c11 f P all));
    }

  pub whole_spread : (cells : SymBox) (x y : ℤ) → InArea cells sizes x y → area_of sizes (pos 0) (pos 0) q d ≡ area_of sizes x y q d → IsSpread sizes cells q d (shown_at matrices sizes q 0 0)
  whole_spread cells x y h same =
      let e = shown_is 0 0 ∙ same in
      subst (IsSpread sizes cells q d) (sym e) (record { high_x = λ l all. all x y h; low_x = λ l all. all x y h; high_y = λ l all. all x y h; low_y = λ l all. all x y h })

  -- ---- what a cell of a part reads lies in the part's box
  module _ (r : Rect) (x y : ℕ) (place : HasPlace r x y) where
    right : x ≤ r.x1 - 1
    right = omega (arith, place.right)

    high : y ≤ r.y1 - 1
    high = omega (arith, place.high)

    abbrev HoldsBoth : (ℕ → ℕ → Area) → Type 0
    HoldsBoth s = Holds4 r.x0 x (r.x1 - 1) r.y0 y (r.y1 - 1) place.left right place.low high (λ u v. (s u v).x) × Holds4 r.x0 x (r.x1 - 1) r.y0 y (r.y1 - 1) place.left right place.low high (λ u v. (s u v).y)

    abbrev one : CoordinateValue → ℕ → ℕ → Span
    one c u v = one_place (coordinate_at c sizes (pos u) (pos v))

    of_one : (c : CoordinateValue) → Holds4 r.x0 x (r.x1 - 1) r.y0 y (r.y1 - 1) place.left right place.low high (one c)
    of_one c = single r.x0 x (r.x1 - 1) r.y0 y (r.y1 - 1) place.left right place.low high c.x c.y (exact_value c.rest sizes)

    abbrev two : CoordinateValue → CoordinateValue → ℕ → ℕ → Span
    two c e u v = record { low = coordinate_at c sizes (pos u) (pos v); high = coordinate_at e sizes (pos u) (pos v) }

    of_two : (c e : CoordinateValue) → Holds4 r.x0 x (r.x1 - 1) r.y0 y (r.y1 - 1) place.left right place.low high (two c e)
    of_two c e = pair r.x0 x (r.x1 - 1) r.y0 y (r.y1 - 1) place.left right place.low high c.x c.y (exact_value c.rest sizes) e.x e.y (exact_value e.rest sizes)

    flat_or : (s : ℕ → ℕ → Span) → Holds4 r.x0 x (r.x1 - 1) r.y0 y (r.y1 - 1) place.left right place.low high s → Holds4 r.x0 x (r.x1 - 1) r.y0 y (r.y1 - 1) place.left right place.low high (λ u v. if q.dims == 1 then one_place (pos 0) else s u v)
    flat_or s h = maybe r.x0 x (r.x1 - 1) r.y0 y (r.y1 - 1) place.left right place.low high (q.dims == 1) s h

    same : (s : Span) → Holds4 r.x0 x (r.x1 - 1) r.y0 y (r.y1 - 1) place.left right place.low high (λ u v. s)
    same s = fixed r.x0 x (r.x1 - 1) r.y0 y (r.y1 - 1) place.left right place.low high s

    four_of : (by : ReadView) → HoldsBoth (λ u v. area_by sizes (pos u) (pos v) by q d)
    four_of view.Cell = (of_one q.x0, flat_or (one q.y0) (of_one q.y0))
    four_of view.Row = (same (from_start (exact_value d.w sizes)), of_one q.y0)
    four_of view.Column = (of_one q.x0, same (from_start (exact_value d.h sizes)))
    four_of view.Region = (of_two q.x0 q.x1, flat_or (two q.y0 q.y1) (of_two q.y0 q.y1))
    four_of view.Whole = (same (from_start (exact_value d.w sizes)), same (from_start (exact_value d.h sizes)))

    pub covers : (u v : ℤ) → IsIn (area_of sizes (pos x) (pos y) q d) u v → IsIn (part_area matrices sizes r q) u v
    unfolding part_area
    covers u v h =
        let all = four_of q.view in
        let box = joined (joined (area_of sizes (pos r.x0) (pos r.y0) q d) (area_of sizes (pos (r.x1 - 1)) (pos r.y0) q d)) (joined (area_of sizes (pos r.x0) (pos (r.y1 - 1)) q d) (area_of sizes (pos (r.x1 - 1)) (pos (r.y1 - 1)) q d)) in
        let inside : IsIn box u v = record { left = omega (arith, ints, h.left, all.0.0); right = omega (arith, ints, h.right, all.0.1); low = omega (arith, ints, h.low, all.1.0); high = omega (arith, ints, h.high, all.1.1) } in
        let e0 = sym (shown_is r.x0 r.y0) in
        let e1 = sym (shown_is (r.x1 - 1) r.y0) in
        let e2 = sym (shown_is r.x0 (r.y1 - 1)) in
        let e3 = sym (shown_is (r.x1 - 1) (r.y1 - 1)) in
        subst (λ (b : Area). IsIn b u v) (λ i. joined (joined (e0 i) (e1 i)) (joined (e2 i) (e3 i))) inside

-- ---- what stays apart from all that is read stays apart from the box
module _ (sizes : List ℕ) (cells : SymBox) (q : Read) (d : DeclValue) (a : Area) (spread : IsSpread sizes cells q d a) (box : ReadBox) (ends : (x y : ℤ) → area_at (read_value box).ends sizes x y ≡ area_of sizes x y q d) (other : SymBox) where
  ends_by : (f : Area → ℤ) (P : ℤ → Type 0) → OnEach cells sizes (λ x y. P (f (area_at (read_value box).ends sizes x y))) → OnEach cells sizes (λ x y. P (f (area_of sizes x y q d)))
  ends_by f P h x y at = subst (λ (b : Area). P (f b)) (ends x y) (h x y at)

  pub not_apart : ApartOn cells box sizes other 0 ⊎ ApartOn cells box sizes other 1 → (u v : ℤ) → IsIn a u v → InArea other sizes u v → ⊥
  not_apart (inl (inl h)) u v here there = let f = λ (b : Area). b.x.high in let P = λ (z : ℤ). z ≤ℤ value other.x0 sizes in omega (arith, ints, spread.high_x (value other.x0 sizes) (ends_by f P h), here.right, there.from_x)
  not_apart (inl (inr h)) u v here there = let f = λ (b : Area). b.x.low in let P = λ (z : ℤ). value other.x1 sizes ≤ℤ z in omega (arith, ints, spread.low_x (value other.x1 sizes) (ends_by f P h), here.left, there.before_x)
  not_apart (inr (inl h)) u v here there = let f = λ (b : Area). b.y.high in let P = λ (z : ℤ). z ≤ℤ value other.y0 sizes in omega (arith, ints, spread.high_y (value other.y0 sizes) (ends_by f P h), here.high, there.from_y)
  not_apart (inr (inr h)) u v here there = let f = λ (b : Area). b.y.low in let P = λ (z : ℤ). value other.y1 sizes ≤ℤ z in omega (arith, ints, spread.low_y (value other.y1 sizes) (ends_by f P h), here.low, there.before_y)

-- ---- what a layer serves isn't past a part whose cells read it
-- on an axis a place isn't past a part that begins and ends so, where the axis can be cut
abbrev pub NotPast : Option Sign → ℕ → ℕ → ℕ → Type 0
NotPast (Some Plus) start end k = k < end
NotPast (Some Minus) start end k = start ≤ k
NotPast None start end k = Unit {0}

module _ (sizes : List ℕ) (cells : SymBox) (q : Read) (d : DeclValue) (r : Rect) (a : Area) (with_r : EndsWith sizes cells q d r a) (box : ReadBox) (ends : (x y : ℤ) → area_at (read_value box).ends sizes x y ≡ area_of sizes x y q d) (u v : ℕ) (here : IsIn a (pos u) (pos v)) where
  ends_at : (f : Area → ℤ) (P : ℤ → ℤ → ℤ → Type 0) → OnEach cells sizes (λ x y. P x y (f (area_at (read_value box).ends sizes x y))) → OnEach cells sizes (λ x y. P x y (f (area_of sizes x y q d)))
  ends_at f P h x y at = subst (λ (b : Area). P x y (f b)) (ends x y) (h x y at)

  pub not_past_x : (cut : Option Sign) → NotAfter cells box sizes 0 cut → NotPast cut r.x0 r.x1 u
  not_past_x (Some Plus) h = omega (arith, ints, here.right, with_r.high_x (ends_at (λ (b : Area). b.x.high) (λ (x y z : ℤ). z ≤ℤ (x +ℤ pos 1)) h))
  not_past_x (Some Minus) h = omega (arith, ints, here.left, with_r.low_x (ends_at (λ (b : Area). b.x.low) (λ (x y z : ℤ). x ≤ℤ z) h))
  not_past_x None h = tt

  pub not_past_y : (cut : Option Sign) → NotAfter cells box sizes 1 cut → NotPast cut r.y0 r.y1 v
  not_past_y (Some Plus) h = omega (arith, ints, here.high, with_r.high_y (ends_at (λ (b : Area). b.y.high) (λ (x y z : ℤ). z ≤ℤ (y +ℤ pos 1)) h))
  not_past_y (Some Minus) h = omega (arith, ints, here.low, with_r.low_y (ends_at (λ (b : Area). b.y.low) (λ (x y z : ℤ). y ≤ℤ z) h))
  not_past_y None h = tt

-- a block that stands before another on an axis holds no place that isn't past a part of it
pub past_none : (cut : Option Sign) (mine other : ℕ × ℕ) (start end k : ℕ) → other.0 ≤ k → k < other.1 → mine.0 ≤ start → end ≤ mine.1 → NotPast cut start end k → Ahead cut mine other → ⊥
past_none (Some Plus) mine other start end k from before left right h ahead = omega (arith, from, before, left, right, h, ahead)
past_none (Some Minus) mine other start end k from before left right h ahead = omega (arith, from, before, left, right, h, ahead)
past_none None mine other start end k from before left right h ahead = ahead
