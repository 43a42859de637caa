-- How many cells views show, over the places of a rectangle.
use Rattle.std.specs.Prelude.{◌≡◌, ℕ, ◌+◌, ◌-◌, ◌<◌, pos, List, length, Some, slice_get, sum_by}
use Rattle.std.specs.List.{All, range_with_len}
use Rattle.pb_linear.specs.Numbers.{exact_value}
use Rattle.pb_values.specs.Views.{HasPlace}
use Rattle.pb_values.specs.declared.rect.Rect.{Rect}
use Rattle.pb_program.specs.Areas.{area_of}
use Rattle.pb_program.specs.Forms.{DeclValue}
use Rattle.pb_program.specs.Trees.{ProgRule}
use Rattle.pb_program.specs.declared.view.Read.{Read}
use Rattle.pb_region.specs.Within.{IsWithin}
use Rattle.pb_model.specs.Cells.{Cell, cells_of_view}
use Rattle.pb_views.specs.Windows.{AreSteady}

-- rule variables, as a cell
abbrev pub variables_at : ℕ → ℕ → Cell
variables_at y x = record { matrix = 0; x = x; y = y }

-- the columns and the rows of a rectangle
abbrev pub columns : Rect → List ℕ
columns rect = range_with_len rect.x0 (rect.x1 - rect.x0)

abbrev pub rows : Rect → List ℕ
rows rect = range_with_len rect.y0 (rect.y1 - rect.y0)

module _ (matrices : List DeclValue) (sizes : List ℕ) where
  -- how many cells a view shows, summed over some columns of a row
  unfoldable pub row_shown : Read → List ℕ → ℕ → ℕ
  row_shown r xs y = sum_by (λ x. length (cells_of_view matrices sizes (variables_at y x) r)) xs

  module _ (rect : Rect) where
    -- over a rectangle
    abbrev pub view_shown : Read → ℕ
    view_shown r = sum_by (row_shown r (columns rect)) (rows rect)

    -- all views of a rule
    abbrev pub rule_shown : ProgRule → ℕ
    rule_shown r = sum_by view_shown r.reads + sum_by view_shown r.outs

    -- the rectangle has a place, and at each of its places the view lies within its matrix
    pub record CanShow (r : Read) : Type 0 where
      pub decl : DeclValue
      pub there : slice_get matrices r.matrix ≡ Some decl
      pub steady : AreSteady r
      pub wide : rect.x0 < rect.x1
      pub tall : rect.y0 < rect.y1
      pub within : (x y : ℕ) → HasPlace rect x y → IsWithin (area_of sizes (pos x) (pos y) r decl) (exact_value decl.w sizes) (exact_value decl.h sizes)

    -- so does each view of a rule
    pub record CanShowRule (r : ProgRule) : Type 0 where
      pub reads : All CanShow r.reads
      pub outs : All CanShow r.outs
