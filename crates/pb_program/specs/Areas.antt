-- The cells that a view names, at sizes and at values of the rule variables.
use Rattle.std.specs.Prelude.{ℕ, ℤ, pos, ◌+ℤ◌, ◌≤ℤ◌, ◌<ℤ◌, ◌==◌, if◌then◌else◌, List}
use Rattle.pb_linear.specs.Numbers.{exact_value}
use Rattle.pb_program.specs.declared.view.Read.{Read}
use Rattle.pb_program.specs.declared.view.ReadView.{ReadView}
use Rattle.pb_program.specs.declared.view.ReadView.TheVariants as view
use Rattle.pb_program.specs.Forms.{CoordinateValue, DeclValue, coordinate_at}

-- numbers from `low` to before `high`
pub record Span : Type 0 where
  pub low : ℤ
  pub high : ℤ

abbrev pub one_place : ℤ → Span
one_place at = record { low = at; high = at +ℤ pos 1 }

abbrev pub from_start : ℤ → Span
from_start side = record { low = pos 0; high = side }

-- places (x, y): x in the one span, y in the other
pub record Area : Type 0 where
  pub x : Span
  pub y : Span

module _ (sizes : List ℕ) (x y : ℤ) where
  abbrev pub at : CoordinateValue → ℤ
  at c = coordinate_at c sizes x y

  -- the y axis of a matrix of one dimension is one place, 0
  abbrev pub by_dims : Read → Span → Span
  by_dims r span = if r.dims == 1 then one_place (pos 0) else span

  -- the places of a view of a matrix
  abbrev pub area_by : ReadView → Read → DeclValue → Area
  area_by view.Cell r d = record { x = one_place (at r.x0); y = by_dims r (one_place (at r.y0)) }
  area_by view.Row r d = record { x = from_start (exact_value d.w sizes); y = one_place (at r.y0) }
  area_by view.Column r d = record { x = one_place (at r.x0); y = from_start (exact_value d.h sizes) }
  area_by view.Region r d = record {
    x = record { low = at r.x0; high = at r.x1 };
    y = by_dims r (record { low = at r.y0; high = at r.y1 });
  }
  area_by view.Whole r d = record { x = from_start (exact_value d.w sizes); y = from_start (exact_value d.h sizes) }

  abbrev pub area_of : Read → DeclValue → Area
  area_of r d = area_by r.view r d

-- a place lies in an area
pub record IsIn (a : Area) (px py : ℤ) : Type 0 where
  pub left : a.x.low ≤ℤ px
  pub right : px <ℤ a.x.high
  pub low : a.y.low ≤ℤ py
  pub high : py <ℤ a.y.high
