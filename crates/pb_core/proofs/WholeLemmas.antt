-- Which cells are written.
use Rattle.std.proofs.Common.{◌≡◌, sym, subst, ℕ, ◌<◌, Bool, true, false, List, length, get_or, arith}
use Rattle.std.specs.List.{Contains, flat_map, range_with_len}
use Rattle.pb_base.proofs.ListLemmas.{flat_in, in_flat, in_map, in_range, map_in, range_in}
use Rattle.pb_values.specs.declared.view.View.{View}
use Rattle.pb_values.specs.Views.{cell_of, row_cells, view_cells}
use Rattle.pb_taskgraph.specs.declared.task.Part.{Part}
use Rattle.pb_core.specs.Cores.{TellsWritten}

module _ (written : List Bool) where
  abbrev pub At : ℕ → Bool
  At c = get_or written c false

  -- each cell of a row, each row of a view, each part
  module _ (v : View) where
    pub row-whole : (y : ℕ) → ((k : ℕ) → k < v.shape.w → At (cell_of v k y) ≡ true) → TellsWritten written (row_cells v y) true
    row-whole y all c h =
        let there = map_in (λ x. cell_of v x y) (range_with_len 0 v.shape.w) c h in
        subst (λ d. At d ≡ true) there.2 (all there.0 (range_in v.shape.w there.0 there.1))

    pub row-hole : (x y cell : ℕ) → x < v.shape.w → cell ≡ cell_of v x y → At cell ≡ false → TellsWritten written (row_cells v y) false
    row-hole x y cell below is none = (cell, subst (Contains (row_cells v y)) (sym is) (in_map (λ k. cell_of v k y) (range_with_len 0 v.shape.w) x (in_range v.shape.w x below)), none)

    pub view-empty : v.shape.w ≡ 0 → TellsWritten written (view_cells v) true
    view-empty none c h =
        let there = flat_in (row_cells v) (range_with_len 0 v.shape.h) c h in
        let here = map_in (λ x. cell_of v x there.0) (range_with_len 0 v.shape.w) c there.2 in
        absurd (omega (arith, range_in v.shape.w here.0 here.1))

    pub view-whole : ((k : ℕ) → k < v.shape.h → TellsWritten written (row_cells v k) true) → TellsWritten written (view_cells v) true
    view-whole all c h = let there = flat_in (row_cells v) (range_with_len 0 v.shape.h) c h in all there.0 (range_in v.shape.h there.0 there.1) c there.2

    pub view-hole : (y : ℕ) → y < v.shape.h → TellsWritten written (row_cells v y) false → TellsWritten written (view_cells v) false
    view-hole y below (c, h, none) = (c, in_flat (row_cells v) (range_with_len 0 v.shape.h) y c (in_range v.shape.h y below) h, none)

  module _ (cells : Part → List ℕ) (parts : List Part) where
    pub parts-whole : ((k : ℕ) (part : Part) → k < length parts → part ≡ get_or parts k part → TellsWritten written (cells part) true) → TellsWritten written (flat_map cells parts) true
    parts-whole all c h =
        let there = flat_in cells parts c h in
        all there.1.0 there.0 there.1.1 (sym there.1.2) c there.2

    pub parts-hole : (k : ℕ) (part : Part) → k < length parts → part ≡ get_or parts k part → TellsWritten written (cells part) false → TellsWritten written (flat_map cells parts) false
    parts-hole k part below is (c, h, none) = (c, in_flat cells parts part c (k, below, sym is) h, none)
