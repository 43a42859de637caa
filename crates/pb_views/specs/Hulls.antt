-- The box of what a view shows for the cells of a part.
use Rattle.std.specs.Prelude.{ℕ, ◌-◌, pos}
use Rattle.std.specs.Int.{int_max, int_min}
use Rattle.pb_values.specs.declared.rect.Rect.{Rect}
use Rattle.pb_values.specs.declared.view.View.{View}
use Rattle.pb_program.specs.Areas.{Area, Span}
use Rattle.pb_region.specs.Within.{IsWithin}
use Rattle.pb_views.specs.declared.window.Window.{Window}
use Rattle.pb_views.specs.Windows.{shown_by}

-- from the lesser lower end to the greater upper end
abbrev pub joined_span : Span → Span → Span
joined_span s t = record { low = int_min s.low t.low; high = int_max s.high t.high }

abbrev pub joined : Area → Area → Area
joined a b = record { x = joined_span a.x b.x; y = joined_span a.y b.y }

module _ (w : Window) (matrix : View) (part : Rect) where
  abbrev pub shown_at : ℕ → ℕ → Area
  shown_at x y = shown_by w matrix x y w.view

  -- what a view shows for the corner cells of a part lies within the matrix
  pub record AreWithin : Type 0 where
    pub first : IsWithin (shown_at part.x0 part.y0) (pos matrix.shape.w) (pos matrix.shape.h)
    pub second : IsWithin (shown_at (part.x1 - 1) part.y0) (pos matrix.shape.w) (pos matrix.shape.h)
    pub third : IsWithin (shown_at part.x0 (part.y1 - 1)) (pos matrix.shape.w) (pos matrix.shape.h)
    pub fourth : IsWithin (shown_at (part.x1 - 1) (part.y1 - 1)) (pos matrix.shape.w) (pos matrix.shape.h)

  -- on each axis from the least lower end to the greatest upper end, over the part's corner cells
  unfoldable pub hull_of : Area
  hull_of = joined (joined (shown_at part.x0 part.y0) (shown_at (part.x1 - 1) part.y0)) (joined (shown_at part.x0 (part.y1 - 1)) (shown_at (part.x1 - 1) (part.y1 - 1)))
