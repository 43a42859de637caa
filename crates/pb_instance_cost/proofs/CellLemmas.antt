-- The cells that rules make are those of the parts, each once.
use Rattle.std.proofs.Common.{◌≡◌, ◌∙◌, refl, sym, ap, subst, ℕ, zero, suc, ◌+◌, ◌-◌, ◌≤◌, ◌<◌, ℤ, pos, negsuc, ◌<ℤ◌, List, [], ◌∷◌, ◌++◌, map, drop, slice_get, Some, arith}
use Rattle.std.specs.List.{Contains, enumerate_from, flat_map, range_with_len}
use Rattle.std.specs.Option.{option_map_or}
use Rattle.std.proofs.lemmas.Int.{ints}
use Rattle.std.proofs.lemmas.List.FromFn.{get_or-range_with_len, length-range_with_len}
use Rattle.pb_linear.specs.Numbers.{exact_value}
use Rattle.pb_graph.specs.Nodes.{NodeValue}
use Rattle.pb_program.specs.Areas.{Area, Span}
use Rattle.pb_program.specs.Configs.{ConfigValue}
use Rattle.pb_program.specs.Forms.{DeclValue}
use Rattle.pb_program.specs.Trees.{ProgTransform}
use Rattle.pb_base.proofs.ListLemmas.{flat_in, in_at, in_flat, in_map, map_in}
use Rattle.pb_model.specs.Calls.{cells_from, made_cells, matrix_cells, whole_area}
use Rattle.pb_model.specs.Cells.{Cell, cells_of, natural, numbers_of}
use Rattle.pb_model.proofs.CallLemmas.{in_made, made_at}
use Rattle.pb_check.specs.Orders.{AnalysisValue}
use Rattle.pb_check.specs.Ranked.{IsMadeCell}
use Rattle.pb_frame.specs.Choices.{IsInstance}
use Rattle.pb_frame.specs.Frames.{HoldsCell, has_cell, part_of, parts_of}
use Rattle.pb_frame.specs.declared.part.FramePart.{FramePart}
use Rattle.pb_frame.proofs.PartLemmas.{held_made, of_part, one_part, some_part}
use Rattle.pb_plan.proofs.OnceLemmas.{Once, once_flat, once_map}
use Rattle.pb_plan.proofs.RiseLemmas.{Rises, rises_filter, rises_map, rises_numbered, rises_one, rises_range}
use Rattle.pb_instance_cost.specs.Shown.{columns, rows}

-- ---- the cells of a matrix in some columns and rows
abbrev pub grid : ℕ → List ℕ → List ℕ → List Cell
grid m xs ys = flat_map (λ y. map (λ x. record { matrix = m; x = x; y = y }) xs) ys

grid_in : (m : ℕ) (xs ys : List ℕ) (c : Cell) → Contains (grid m xs ys) c → (m ≡ c.matrix) × Contains xs c.x × Contains ys c.y
grid_in m xs ys c h =
    let y = flat_in (λ y. map (λ x. record { matrix = m; x = x; y = y }) xs) ys c h in
    let x = map_in (λ x. record { matrix = m; x = x; y = y.0 }) xs c y.2 in
    (ap (λ (d : Cell). d.matrix) x.2, subst (Contains xs) (ap (λ (d : Cell). d.x) x.2) x.1, subst (Contains ys) (ap (λ (d : Cell). d.y) x.2) y.1)

in_grid : (m : ℕ) (xs ys : List ℕ) (c : Cell) → m ≡ c.matrix → Contains xs c.x → Contains ys c.y → Contains (grid m xs ys) c
in_grid m xs ys c same on_x on_y =
    subst (λ n. Contains (grid m xs ys) (record { matrix = n; x = c.x; y = c.y })) same
    (in_flat (λ y. map (λ x. record { matrix = m; x = x; y = y }) xs) ys c.y (record { matrix = m; x = c.x; y = c.y }) on_y (in_map (λ x. record { matrix = m; x = x; y = c.y }) xs c.x on_x))

once_grid : (m : ℕ) (xs ys : List ℕ) → Once xs → Once ys → Once (grid m xs ys)
once_grid m xs ys once_x once_y = once_flat (λ y. map (λ x. record { matrix = m; x = x; y = y }) xs) ys
    (λ k y at. once_map (λ x. record { matrix = m; x = x; y = y }) xs once_x (λ u v _ _ same. ap (λ (c : Cell). c.x) same))
    (λ k l y z c at_y at_z h g. once_y k l y at_y (at_z ∙ ap Some (row z c g ∙ sym (row y c h))))
  where
    row : (y : ℕ) (c : Cell) → Contains (map (λ x. record { matrix = m; x = x; y = y }) xs) c → y ≡ c.y
    row y c h = let x = map_in (λ x. record { matrix = m; x = x; y = y }) xs c h in ap (λ (d : Cell). d.y) x.2

once_rising : (ks : List ℕ) → Rises (λ (k : ℕ). k) ks → Once ks
once_rising ks rising i j k e f = rises_one (λ (k : ℕ). k) ks rising i j k k e f refl

once_cells : (m : ℕ) (a : Area) → Once (cells_of m a)
unfolding cells_of
once_cells m a = once_grid m (numbers_of a.x) (numbers_of a.y) (numbers a.x) (numbers a.y)
  where
    numbers : (s : Span) → Once (numbers_of s)
    numbers s = once_rising (numbers_of s) (rises_filter (λ (k : ℕ). k) _ (range_with_len 0 (natural s.high)) (rises_range 0 (natural s.high)))

-- ---- the cells that rules make
from_is : (sizes : List ℕ) (m : ℕ) (ds : List DeclValue) → cells_from sizes m ds ≡ flat_map (λ (e : ℕ × DeclValue). matrix_cells sizes e.0 e.1) (enumerate_from m ds)
from_is sizes m [] = refl
from_is sizes m (d ∷ ds) = ap (λ l. matrix_cells sizes m d ++ l) (from_is sizes (m + 1) ds)

once_from : (sizes : List ℕ) (m : ℕ) (ds : List DeclValue) → Once (cells_from sizes m ds)
unfolding cells_of
once_from sizes m ds = subst Once (sym (from_is sizes m ds)) (once_flat (λ (e : ℕ × DeclValue). matrix_cells sizes e.0 e.1) (enumerate_from m ds)
    (λ k e at. once_cells e.0 (whole_area sizes e.1))
    (λ k l e f c at_e at_f h g. rises_one (λ (e : ℕ × DeclValue). e.0) (enumerate_from m ds) (rises_numbered m ds) k l e f at_e at_f (of e c h ∙ sym (of f c g))))
  where
    of : (e : ℕ × DeclValue) (c : Cell) → Contains (matrix_cells sizes e.0 e.1) c → e.0 ≡ c.matrix
    of e c h = (grid_in e.0 (numbers_of (whole_area sizes e.1).x) (numbers_of (whole_area sizes e.1).y) c h).0

below_side : (z : ℤ) (n : ℕ) → n < natural z → pos n <ℤ z
below_side (pos m) n h = omega (arith, ints, h)
below_side (negsuc m) n h = absurd (omega (arith, h))

side_below : (z : ℤ) (n : ℕ) → pos n <ℤ z → n < natural z
side_below (pos m) n h = omega (arith, ints, h)
side_below (negsuc m) n h = absurd (omega (arith, ints, h))

dropped_is : {A : Type 0} (xs : List A) (n k : ℕ) → slice_get (drop n xs) k ≡ slice_get xs (n + k)
dropped_is xs zero k = let e : 0 + k ≡ k = omega arith in ap (slice_get xs) (sym e)
dropped_is [] (suc n) k = refl
dropped_is (x ∷ xs) (suc n) k = let e : suc n + k ≡ suc (n + k) = omega arith in dropped_is xs n k ∙ rw e refl

module _ (config : ConfigValue) (number : ℕ) (t : ProgTransform) (a : AnalysisValue) (sizes : List ℕ) (i : IsInstance number t a sizes) where
  abbrev made_after : List DeclValue
  made_after = drop t.inputs t.matrices

  pub made_is : (c : Cell) → Contains (made_cells t sizes) c → IsMadeCell t sizes c
  unfolding made_cells
  made_is c h =
      let s = made_at sizes t.inputs made_after c h in
      record {
        cell = record {
          in_range = i.in_range;
          decl = s.decl;
          there = ap (slice_get t.matrices) (sym s.matrix) ∙ sym (dropped_is t.matrices t.inputs s.place) ∙ s.there;
          before_x = below_side (exact_value s.decl.w sizes) c.x s.across;
          before_y = below_side (exact_value s.decl.h sizes) c.y s.down;
        };
        made = omega (arith, s.matrix);
      }

  pub is_made : (c : Cell) → IsMadeCell t sizes c → Contains (made_cells t sizes) c
  unfolding made_cells
  is_made c m =
      let matrix : t.inputs + (c.matrix - t.inputs) ≡ c.matrix = omega (arith, m.made) in
      in_made sizes t.inputs made_after c (record {
        place = c.matrix - t.inputs;
        decl = m.cell.decl;
        there = dropped_is t.matrices t.inputs (c.matrix - t.inputs) ∙ ap (slice_get t.matrices) matrix ∙ m.cell.there;
        matrix = matrix;
        across = side_below (exact_value m.cell.decl.w sizes) c.x m.cell.before_x;
        down = side_below (exact_value m.cell.decl.h sizes) c.y m.cell.before_y;
      })

  pub once_made : Once (made_cells t sizes)
  unfolding made_cells
  once_made = once_from sizes t.inputs made_after

  -- ---- the cells of a part
  abbrev pub parts : List FramePart
  parts = parts_of config number t sizes a.nodes

  abbrev pub matrix_of : FramePart → ℕ
  matrix_of part = option_map_or (λ (n : NodeValue). n.matrix) (slice_get a.nodes part.node) 0

  abbrev pub part_cells : FramePart → List Cell
  part_cells part = grid (matrix_of part) (columns part.rect) (rows part.rect)

  in_numbers : (k n j : ℕ) → k ≤ j → j < k + n → Contains (range_with_len k n) j
  in_numbers k n j low high = (j - k, omega (arith, length-range_with_len k n, low, high), get_or-range_with_len k n (j - k) j (omega (arith, low, high)) ∙ omega (arith, low))

  numbers_in : (k n j : ℕ) → Contains (range_with_len k n) j → (k ≤ j) × (j < k + n)
  numbers_in k n j h =
      let below : h.0 < n = omega (arith, h.1, length-range_with_len k n) in
      let is = get_or-range_with_len k n h.0 j below in
      (omega (arith, is, h.2), omega (arith, is, h.2, below))

  module _ (part : FramePart) (own : Contains parts part) where
    abbrev node : (n : NodeValue) × (slice_get a.nodes part.node ≡ Some n)
    node = let f = of_part number t a sizes i config part own in (f.0, f.1)

    matrix_is : matrix_of part ≡ node.0.matrix
    matrix_is = ap (λ o. option_map_or (λ (n : NodeValue). n.matrix) o 0) node.1

    pub cells_held : (c : Cell) → Contains (part_cells part) c → HoldsCell a.nodes part c
    cells_held c h =
        let in_it = grid_in (matrix_of part) (columns part.rect) (rows part.rect) c h in
        let on_x = numbers_in part.rect.x0 (part.rect.x1 - part.rect.x0) c.x in_it.1 in
        let on_y = numbers_in part.rect.y0 (part.rect.y1 - part.rect.y0) c.y in_it.2 in
        record {
          node = node.0;
          there = node.1;
          matrix = sym matrix_is ∙ in_it.0;
          place = record { left = on_x.0; right = omega (arith, on_x); low = on_y.0; high = omega (arith, on_y) };
        }

    held_cells : (c : Cell) → HoldsCell a.nodes part c → Contains (part_cells part) c
    held_cells c h = in_grid (matrix_of part) (columns part.rect) (rows part.rect) c (ap (λ o. option_map_or (λ (n : NodeValue). n.matrix) o 0) h.there ∙ h.matrix)
        (in_numbers part.rect.x0 (part.rect.x1 - part.rect.x0) c.x h.place.left (omega (arith, h.place.left, h.place.right)))
        (in_numbers part.rect.y0 (part.rect.y1 - part.rect.y0) c.y h.place.low (omega (arith, h.place.low, h.place.high)))

  pub to_parts : (c : Cell) → Contains (made_cells t sizes) c → Contains (flat_map part_cells parts) c
  to_parts c h = let p = some_part config number t a sizes i c (made_is c h) in in_flat part_cells parts p.0 c p.1 (held_cells p.0 p.1 c p.2)

  pub from_parts : (c : Cell) → Contains (flat_map part_cells parts) c → Contains (made_cells t sizes) c
  from_parts c h = let p = flat_in part_cells parts c h in is_made c (held_made config number t a sizes i p.0 c p.1 (cells_held p.0 p.1 c p.2))

  parts_rise : Rises (λ (part : FramePart). part.node) parts
  parts_rise = rises_map (λ (e : ℕ × NodeValue). e.0) (λ (part : FramePart). part.node) (part_of config number t sizes) (λ e. refl) _ (rises_filter (λ (e : ℕ × NodeValue). e.0) (has_cell sizes) (enumerate_from 0 a.nodes) (rises_numbered 0 a.nodes))

  pub once_parts : Once (flat_map part_cells parts)
  once_parts = once_flat part_cells parts
      (λ k part at. once_grid (matrix_of part) (columns part.rect) (rows part.rect) (once_rising _ (rises_range part.rect.x0 (part.rect.x1 - part.rect.x0))) (once_rising _ (rises_range part.rect.y0 (part.rect.y1 - part.rect.y0))))
      (λ k l p q c at_p at_q h g.
      let own_p = in_at parts k p at_p in
      let own_q = in_at parts l q at_q in
      rises_one (λ (part : FramePart). part.node) parts parts_rise k l p q at_p at_q (ap (λ (part : FramePart). part.node) (one_part config number t a sizes i c p q own_p own_q (cells_held p own_p c h) (cells_held q own_q c g))))
