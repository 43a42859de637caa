-- Numbers of views, cut into matrices again; sides of outputs.
use Rattle.std.proofs.Common.{◌≡◌, ◌∙◌, refl, sym, ap, ℕ, zero, suc, ◌+◌, ◌*◌, ◌<◌, ◌⊎◌, inl, inr, ℤ, pos, ◌+ℤ◌, ◌-ℤ◌, Bool, true, false, List, [], ◌∷◌, ◌++◌, length, length-append, drop, take, map, None, Some, Option, ◌≢◌, arith}
use Rattle.std.specs.Prelude.{◌==◌, if◌then◌else◌, slice_get}
use Rattle.std.specs.List.{All, flat_map, range_with_len}
use Rattle.std.specs.Option.{option_map_or}
use Rattle.std.proofs.lemmas.Int.{ints}
use Rattle.std.proofs.lemmas.List.{length-map, map-append}
use Rattle.std.proofs.lemmas.List.Elements.{All-cons, All-from_recursion, All-head, All-nil, All-tail, All-weaker}
use Rattle.pb_linear.specs.Numbers.{exact_value}
use Rattle.pb_values.specs.Cells.{Turn}
use Rattle.pb_values.specs.Views.{cell_of, row_cells, view_cells}
use Rattle.pb_values.specs.declared.view.View.{View}
use Rattle.pb_program.specs.declared.view.Read.{Read}
use Rattle.pb_program.specs.declared.view.ReadView.{ReadView}
use Rattle.pb_program.specs.declared.view.ReadView.TheVariants as view
use Rattle.pb_program.specs.Areas.{Span, area_by, area_of, from_start, one_place}
use Rattle.pb_program.specs.Forms.{CoordinateValue, DeclValue, coordinate_at}
use Rattle.pb_program.specs.WellFormed.{IsFree, KindFits}
use Rattle.pb_program.specs.declared.rule.RuleKind.{RuleKind}
use Rattle.pb_program.specs.declared.rule.RuleKind.TheVariants as kind
use Rattle.pb_model.specs.Cells.{Cell, natural}
use Rattle.pb_model.specs.Equations.{cut_up, extent, number_in, sides_by, view_sides}
use Rattle.pb_eval.specs.CanRun.{shape_sides}
use Rattle.pb_statements.specs.Outputs.{free_by, free_sides, gap_of, low_by}
use Rattle.pb_statements.specs.Shown.{grid_told, number_told, outcome_of, seen_by}

length-row : (f : ℕ → ℕ) (k n : ℕ) → length (map f (range_with_len k n)) ≡ n
length-row f k zero = refl
length-row f k (suc n) = omega (arith, length-row f (k + 1) n)

length-cells : (v : View) (k n : ℕ) → length (flat_map (row_cells v) (range_with_len k n)) ≡ n * v.shape.w
length-cells v k zero = omega arith
length-cells v k (suc n) = omega (arith, length-append (row_cells v k) (flat_map (row_cells v) (range_with_len (k + 1) n)), length-row (λ x. cell_of v x k) 0 v.shape.w, length-cells v (k + 1) n)

take_first : {A : Type 0} (l rest : List A) (n : ℕ) → length l ≡ n → take n (l ++ rest) ≡ l
take_first l rest n e = ap (λ k. take k (l ++ rest)) (sym e) ∙ all l
  where
    all : (l : List _) → take (length l) (l ++ rest) ≡ l
    all [] = refl
    all (v ∷ l) = ap (λ t. v ∷ t) (all l)

drop_first : {A : Type 0} (l rest : List A) (n : ℕ) → length l ≡ n → drop n (l ++ rest) ≡ rest
drop_first l rest n e = ap (λ k. drop k (l ++ rest)) (sym e) ∙ all l
  where
    all : (l : List _) → drop (length l) (l ++ rest) ≡ rest
    all [] = refl
    all (v ∷ l) = all l

map_twice : (turn : Turn) (l : List ℕ) → map number_in (map (outcome_of turn) l) ≡ map (number_told turn) l
unfolding number_told
map_twice turn [] = refl
map_twice turn (c ∷ l) = ap (λ t. number_in (outcome_of turn c) ∷ t) (map_twice turn l)

cut_told : (turn : Turn) (views : List View) → cut_up (map shape_sides views) (map (number_told turn) (flat_map view_cells views)) ≡ map (grid_told turn) views
unfolding grid_told
cut_told turn [] = refl
cut_told turn (v ∷ views) =
    let f = number_told turn in
    let rest = flat_map view_cells views in
    let whole : map f (view_cells v ++ rest) ≡ map f (view_cells v) ++ map f rest = map-append f (view_cells v) rest in
    let size : length (map f (view_cells v)) ≡ v.shape.w * v.shape.h = length-map (view_cells v) f ∙ length-cells v 0 v.shape.h ∙ omega arith in
    ap (λ l. record { width = v.shape.w; height = v.shape.h; cells = take (v.shape.w * v.shape.h) l } ∷ cut_up (map shape_sides views) (drop (v.shape.w * v.shape.h) l)) whole
    ∙ ap (λ l. record { width = v.shape.w; height = v.shape.h; cells = l } ∷ cut_up (map shape_sides views) (drop (v.shape.w * v.shape.h) (map f (view_cells v) ++ map f rest))) (take_first (map f (view_cells v)) (map f rest) (v.shape.w * v.shape.h) size)
    ∙ ap (λ l. grid_told turn v ∷ cut_up (map shape_sides views) l) (drop_first (map f (view_cells v)) (map f rest) (v.shape.w * v.shape.h) size)
    ∙ ap (λ l. grid_told turn v ∷ l) (cut_told turn views)

pub cut_is : (turn : Turn) (views : List View) (sides : List (ℕ × ℕ)) → map shape_sides views ≡ sides → cut_up sides (map number_in (seen_by turn views)) ≡ map (grid_told turn) views
cut_is turn views sides e = ap (λ s. cut_up s (map number_in (seen_by turn views))) (sym e) ∙ ap (cut_up (map shape_sides views)) (map_twice turn (flat_map view_cells views)) ∙ cut_told turn views

-- ---- sides
extent_one : (z : ℤ) → natural (z +ℤ pos 1 -ℤ z) ≡ 1
extent_one z = let e : z +ℤ pos 1 -ℤ z ≡ pos 1 = omega (arith, ints) in ap natural e

extent_from : (z : ℤ) → natural (z -ℤ pos 0) ≡ natural z
extent_from z = let e : z -ℤ pos 0 ≡ z = omega (arith, ints) in ap natural e

pub free_at : (c : CoordinateValue) (sizes : List ℕ) (x y : ℤ) → c.x ≡ pos 0 → c.y ≡ pos 0 → coordinate_at c sizes x y ≡ exact_value c.rest sizes
free_at c sizes x y ex ey = rw (ex, ey) (omega (arith, ints))

flat : (b : Bool) (s : Span) (n : ℕ) → extent s ≡ n → extent (if b then one_place (pos 0) else s) ≡ (if b then 1 else n)
flat true s n e = extent_one (pos 0)
flat false s n e = e

same_one : (b : Bool) → ◌≡◌ {A = ℕ} (if b then 1 else 1) 1
same_one true = refl
same_one false = refl

two : (a b c d : ℕ) → a ≡ c → b ≡ d → ◌≡◌ {A = ℕ × ℕ} (a, b) (c, d)
two a b c d e f = λ i. (e i, f i)

module _ (sizes : List ℕ) (x y : ℤ) (r : Read) (d : DeclValue) where
  at : CoordinateValue → ℤ
  at c = coordinate_at c sizes x y

  gap_is : (low high : CoordinateValue) → coordinate_at low sizes x y ≡ exact_value low.rest sizes → coordinate_at high sizes x y ≡ exact_value high.rest sizes
      → natural (coordinate_at high sizes x y -ℤ coordinate_at low sizes x y) ≡ gap_of sizes low high
  gap_is low high l h = rw (l, h) refl

  sides_are : (v : ReadView) → (v ≡ view.Cell) ⊎ IsFree r → ◌≡◌ {A = ℕ × ℕ} (sides_by v (area_by sizes x y v r d)) (free_by v sizes r d)
  sides_are view.Cell h = two _ _ 1 1 (extent_one (coordinate_at r.x0 sizes x y)) (flat (r.dims == 1) (one_place (coordinate_at r.y0 sizes x y)) 1 (extent_one (coordinate_at r.y0 sizes x y)) ∙ same_one (r.dims == 1))
  sides_are view.Row h = two _ _ (natural (exact_value d.w sizes)) 1 (extent_from (exact_value d.w sizes)) (extent_one (coordinate_at r.y0 sizes x y))
  sides_are view.Column h = two _ _ (natural (exact_value d.h sizes)) 1 (extent_from (exact_value d.h sizes)) refl
  sides_are view.Region (inl e) = absurd (cc)
  sides_are view.Region (inr f) =
      let x0 = free_at r.x0 sizes x y f.0 f.1 in
      let y0 = free_at r.y0 sizes x y f.2 f.3 in
      let x1 = free_at r.x1 sizes x y f.4 f.5 in
      let y1 = free_at r.y1 sizes x y f.6 f.7 in
      two _ _ (gap_of sizes r.x0 r.x1) (if r.dims == 1 then 1 else gap_of sizes r.y0 r.y1) (gap_is r.x0 r.x1 x0 x1)
      (flat (r.dims == 1) (record { low = coordinate_at r.y0 sizes x y; high = coordinate_at r.y1 sizes x y }) (gap_of sizes r.y0 r.y1) (gap_is r.y0 r.y1 y0 y1))
  sides_are view.Whole h = two _ _ (natural (exact_value d.w sizes)) (natural (exact_value d.h sizes)) (extent_from (exact_value d.w sizes)) (extent_from (exact_value d.h sizes))

  -- ---- corners
  low_flat : (b : Bool) (s : Span) (z : ℤ) → s.low ≡ z → natural (if b then one_place (pos 0) else s).low ≡ (if b then 0 else natural z)
  low_flat true s z e = refl
  low_flat false s z e = ap natural e

  pub lows_are : (v : ReadView) → IsFree r → ◌≡◌ {A = ℕ × ℕ} (natural (area_by sizes x y v r d).x.low, natural (area_by sizes x y v r d).y.low) (low_by v sizes r)
  lows_are view.Cell f = two _ _ (natural (exact_value r.x0.rest sizes)) (if r.dims == 1 then 0 else natural (exact_value r.y0.rest sizes)) (ap natural (free_at r.x0 sizes x y f.0 f.1))
      (low_flat (r.dims == 1) (one_place (coordinate_at r.y0 sizes x y)) (exact_value r.y0.rest sizes) (free_at r.y0 sizes x y f.2 f.3))
  lows_are view.Row f = two _ _ 0 (natural (exact_value r.y0.rest sizes)) refl (ap natural (free_at r.y0 sizes x y f.2 f.3))
  lows_are view.Column f = two _ _ (natural (exact_value r.x0.rest sizes)) 0 (ap natural (free_at r.x0 sizes x y f.0 f.1)) refl
  lows_are view.Region f = two _ _ (natural (exact_value r.x0.rest sizes)) (if r.dims == 1 then 0 else natural (exact_value r.y0.rest sizes)) (ap natural (free_at r.x0 sizes x y f.0 f.1))
      (low_flat (r.dims == 1) (record { low = coordinate_at r.y0 sizes x y; high = coordinate_at r.y1 sizes x y }) (exact_value r.y0.rest sizes) (free_at r.y0 sizes x y f.2 f.3))
  lows_are view.Whole f = refl

module _ (matrices : List DeclValue) (sizes : List ℕ) (c : Cell) where
  pub sides_free : (r : Read) → (r.view ≡ view.Cell) ⊎ IsFree r → r.matrix < length matrices → view_sides matrices sizes c r ≡ free_sides matrices sizes r
  unfolding free_sides
  sides_free r h below = by (slice_get matrices r.matrix) (some matrices r.matrix below)
    where
      some : (l : List DeclValue) (i : ℕ) → i < length l → (d : DeclValue) × (slice_get l i ≡ Some d)
      some [] i below = absurd (omega arith)
      some (d ∷ l) zero below = (d, refl)
      some (d ∷ l) (suc i) below = some l i (omega (arith, below))

      by : (o : Option DeclValue) → (d : DeclValue) × (o ≡ Some d)
          → ◌≡◌ {A = ℕ × ℕ} (sides_by r.view (option_map_or (area_of sizes (pos c.x) (pos c.y) r) o (record { x = from_start (pos 0); y = from_start (pos 0) }))) (option_map_or (free_by r.view sizes r) o (0, 0))
      by (Some d) p = sides_are sizes (pos c.x) (pos c.y) r d r.view h
      by None p = absurd (none p.0 p.1)
        where
          none : (d : DeclValue) → ◌≡◌ {A = Option DeclValue} None (Some d) → ⊥
          none d e = cc

  pub all_free : (outs : List Read) → All (λ o. (o.view ≡ view.Cell) ⊎ IsFree o) outs → All (λ o. o.matrix < length matrices) outs → map (view_sides matrices sizes c) outs ≡ map (free_sides matrices sizes) outs
  all_free [] f t = refl
  all_free (o ∷ outs) f t =
      ap (λ s. s ∷ map (view_sides matrices sizes c) outs) (sides_free o (All-head (λ p. (p.view ≡ view.Cell) ⊎ IsFree p) o outs f) (All-head (λ p. p.matrix < length matrices) o outs t))
      ∙ ap (λ l. free_sides matrices sizes o ∷ l) (all_free outs (All-tail (λ p. (p.view ≡ view.Cell) ⊎ IsFree p) o outs f) (All-tail (λ p. p.matrix < length matrices) o outs t))

pub outs_free : (k : RuleKind) (outs : List Read) → k ≢ kind.Plan → KindFits k outs → All (λ o. (o.view ≡ view.Cell) ⊎ IsFree o) outs
outs_free kind.Cell [] n h = absurd h
outs_free kind.Cell (o ∷ []) n h = All-cons (λ p. (p.view ≡ view.Cell) ⊎ IsFree p) o [] (inl h.cell) (All-nil (λ p. (p.view ≡ view.Cell) ⊎ IsFree p))
outs_free kind.Cell (o ∷ q ∷ outs) n h = absurd h
outs_free kind.Wide outs n h = All-weaker IsFree (λ o. (o.view ≡ view.Cell) ⊎ IsFree o) (λ o f. inr f) outs (All-from_recursion IsFree outs h)
outs_free kind.Plan outs n h = absurd (n refl)
