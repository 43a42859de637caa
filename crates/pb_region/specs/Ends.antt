-- The ends of what a view shows, as forms over the sizes and the rule variables.
use Rattle.std.specs.Prelude.{ℕ, ℤ, pos, ◌==◌, if◌then◌else◌, false, List, Option, Some, None, slice_get}
use Rattle.pb_linear.specs.Form.{numbers}
use Rattle.pb_linear.specs.Numbers.{Numbers}
use Rattle.pb_linear.specs.declared.vform.VForm.{VForm}
use Rattle.pb_program.specs.declared.view.Read.{Read}
use Rattle.pb_program.specs.declared.view.ReadView.{ReadView}
use Rattle.pb_program.specs.declared.view.ReadView.TheVariants as view
use Rattle.pb_program.specs.Areas.{Area, Span}
use Rattle.pb_program.specs.Forms.{CoordinateValue, DeclValue, coordinate_at, nothing, over_sizes}
use Rattle.pb_region.specs.Gaps.{raised}

-- from `low` to before `high`
pub record Interval : Type 0 where
  pub low : CoordinateValue
  pub high : CoordinateValue

-- on both axes
pub record Ends : Type 0 where
  pub x : Interval
  pub y : Interval

-- the form alone, without the mark of a quotient
abbrev pub unmarked : CoordinateValue → CoordinateValue
unmarked c = record { x = c.x; y = c.y; rest = c.rest; quotient = false }

-- the place after
abbrev pub next : CoordinateValue → CoordinateValue
next c = record { x = c.x; y = c.y; rest = raised (pos 1) c.rest; quotient = false }

abbrev pub between : CoordinateValue → CoordinateValue → Interval
between low high = record { low = unmarked low; high = unmarked high }

abbrev pub one_place : CoordinateValue → Interval
one_place c = record { low = unmarked c; high = next c }

abbrev pub from_start : Numbers → Interval
from_start side = record { low = nothing; high = over_sizes side }

-- the y axis of a matrix of one dimension is one place, 0
abbrev pub by_dims : Read → Interval → Interval
by_dims r i = if r.dims == 1 then one_place nothing else i

abbrev pub ends_by : ReadView → Read → DeclValue → Ends
ends_by view.Cell r d = record { x = one_place r.x0; y = by_dims r (one_place r.y0) }
ends_by view.Row r d = record { x = from_start d.w; y = one_place r.y0 }
ends_by view.Column r d = record { x = one_place r.x0; y = from_start d.h }
ends_by view.Region r d = record { x = between r.x0 r.x1; y = by_dims r (between r.y0 r.y1) }
ends_by view.Whole r d = record { x = from_start d.w; y = from_start d.h }

-- no place
abbrev pub nowhere : Ends
nowhere = record { x = between nothing nothing; y = between nothing nothing }

abbrev pub ends_in : Read → Option DeclValue → Ends
ends_in r None = nowhere
ends_in r (Some d) = ends_by r.view r d

-- the ends of a view of one of these matrices
unfoldable pub ends_of : List DeclValue → Read → Ends
ends_of matrices r = ends_in r (slice_get matrices r.matrix)

-- their values at sizes and at values of the rule variables
abbrev pub area_at : Ends → List ℕ → ℤ → ℤ → Area
area_at e sizes x y =
    let span : Interval → Span = λ i. record { low = coordinate_at i.low sizes x y; high = coordinate_at i.high sizes x y } in
    record { x = span e.x; y = span e.y }

-- what contracts see of a form over sizes and rule variables
abbrev pub coordinate_of : VForm → CoordinateValue
coordinate_of v = record { x = v.x; y = v.y; rest = numbers v.rest; quotient = false }
