-- The views of a rule at fixed sizes, and the cells of a run that they show.
use Rattle.std.specs.Prelude.{◌≡◌, ℕ, ◌^◌, ◌≤◌, ℤ, pos, unsigned_abs, ◌==◌, if◌then◌else◌, List, map, Some, slice_get}
use Rattle.std.specs.List.{flat_map}
use Rattle.std.specs.Option.{option_map_or}
use Rattle.pb_linear.specs.Numbers.{exact_value}
use Rattle.pb_values.specs.Views.{cell_of, view_cells}
use Rattle.pb_values.specs.declared.rect.Rect.{Rect}
use Rattle.pb_values.specs.declared.view.View.{View}
use Rattle.pb_program.specs.Areas.{Area, Span, from_start, one_place}
use Rattle.pb_program.specs.Forms.{DeclValue}
use Rattle.pb_program.specs.declared.view.Read.{Read}
use Rattle.pb_program.specs.declared.view.ReadView.{ReadView}
use Rattle.pb_program.specs.declared.view.ReadView.TheVariants as view
use Rattle.pb_model.specs.Cells.{Cell, numbers_of}
use Rattle.pb_model.specs.Equations.{sides_by}
use Rattle.pb_views.specs.declared.window.Window.{Window}
use Rattle.pb_views.specs.Lines.{IsLine, line_at}

-- the coefficients of the rule variables are small
pub record AreSteady (r : Read) : Type 0 where
  pub x0 : (unsigned_abs r.x0.x ≤ 2 ^ 26) × (unsigned_abs r.x0.y ≤ 2 ^ 26)
  pub y0 : (unsigned_abs r.y0.x ≤ 2 ^ 26) × (unsigned_abs r.y0.y ≤ 2 ^ 26)
  pub x1 : (unsigned_abs r.x1.x ≤ 2 ^ 26) × (unsigned_abs r.x1.y ≤ 2 ^ 26)
  pub y1 : (unsigned_abs r.y1.x ≤ 2 ^ 26) × (unsigned_abs r.y1.y ≤ 2 ^ 26)

-- a view of a rule at sizes
pub record IsWindow (r : Read) (sizes : List ℕ) (w : Window) : Type 0 where
  pub of_view : w.view ≡ r.view
  pub of_dims : w.flat ≡ (r.dims == 1)
  pub of_x0 : IsLine r.x0 sizes w.x0
  pub of_y0 : IsLine r.y0 sizes w.y0
  pub of_x1 : IsLine r.x1 sizes w.x1
  pub of_y1 : IsLine r.y1 sizes w.y1

-- the places that it shows of a matrix with these sides, at rule variables
module _ (w : Window) (width height x y : ℤ) where
  abbrev pub flat_or : Span → Span
  flat_or s = if w.flat then one_place (pos 0) else s

  abbrev pub area_by : ReadView → Area
  area_by view.Cell = record { x = one_place (line_at w.x0 x y); y = flat_or (one_place (line_at w.y0 x y)) }
  area_by view.Row = record { x = from_start width; y = one_place (line_at w.y0 x y) }
  area_by view.Column = record { x = one_place (line_at w.x0 x y); y = from_start height }
  area_by view.Region = record {
    x = record { low = line_at w.x0 x y; high = line_at w.x1 x y };
    y = flat_or (record { low = line_at w.y0 x y; high = line_at w.y1 x y });
  }
  area_by view.Whole = record { x = from_start width; y = from_start height }

-- ---- rectangles
-- the rectangle has the places of the area
pub record IsRect (a : Area) (r : Rect) : Type 0 where
  pub left : pos r.x0 ≡ a.x.low
  pub right : pos r.x1 ≡ a.x.high
  pub low : pos r.y0 ≡ a.y.low
  pub high : pos r.y1 ≡ a.y.high

-- ---- cells
-- the cells that a view has at the places of an area, row by row
abbrev pub area_cells : View → Area → List ℕ
area_cells v a = flat_map (λ y. map (λ x. cell_of v x y) (numbers_of a.x)) (numbers_of a.y)

-- of a matrix of these cells
abbrev pub shown_by : Window → View → ℕ → ℕ → ReadView → Area
shown_by w matrix x y by = area_by w (pos matrix.shape.w) (pos matrix.shape.h) (pos x) (pos y) by

-- a view has the sides and the cells of an area of a matrix, row by row
pub record IsShown (matrix : View) (by : ReadView) (a : Area) (v : View) : Type 0 where
  pub sides : (v.shape.w, v.shape.h) ≡ sides_by by a
  pub cells : view_cells v ≡ area_cells matrix a

-- the number of a cell, where the matrices are these views
abbrev pub number_in : List View → Cell → ℕ
number_in views c = option_map_or (λ v. cell_of v c.x c.y) (slice_get views c.matrix) 0

-- the matrices are these views, with their sides at sizes
pub record AreLaid (matrices : List DeclValue) (sizes : List ℕ) (views : List View) : Type 0 where
  pub some : (m : ℕ) (d : DeclValue) → slice_get matrices m ≡ Some d → (v : View) × (slice_get views m ≡ Some v)
  pub width : (m : ℕ) (d : DeclValue) (v : View) → slice_get matrices m ≡ Some d → slice_get views m ≡ Some v → pos v.shape.w ≡ exact_value d.w sizes
  pub height : (m : ℕ) (d : DeclValue) (v : View) → slice_get matrices m ≡ Some d → slice_get views m ≡ Some v → pos v.shape.h ≡ exact_value d.h sizes
