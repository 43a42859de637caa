-- How far it is from one cell to another, and how a view moves.
use Rattle.std.specs.Prelude.{◌≡◌, ℕ, ◌+◌, ◌*◌, ◌<◌, ◌≤◌, ◌^◌, ◌%◌, Bool, if◌then◌else◌}
use Rattle.pb_linear.specs.declared.boxes.Sign.{Sign}
use Rattle.pb_linear.specs.declared.boxes.Sign.TheVariants.{Plus, Minus}
use Rattle.pb_values.specs.Views.{cell_of}
use Rattle.pb_values.specs.declared.rect.Rect.{Rect}
use Rattle.pb_values.specs.declared.view.View.{View}
use Rattle.pb_jobs.specs.declared.advance.Advance.{Advance}
use Rattle.pb_jobs.specs.declared.advance.Distance.{Distance}
use Rattle.pb_jobs.specs.declared.advance.Distance.TheVariants.{Up, Down}

abbrev pub IsFromTo : ℕ → ℕ → Distance → Type 0
IsFromTo here next (Up by) = here + by ≡ next
IsFromTo here next (Down by) = next + by ≡ here

-- and so many to add, modulo 2^64
abbrev pub IsStep : Distance → ℕ → Type 0
IsStep (Up by) step = step ≡ by
IsStep (Down by) step = (step + by) % 2 ^ 64 ≡ 0

-- so far along a line of cells that goes to greater numbers, or to smaller ones
abbrev pub way_on : Sign → ℕ → Distance
way_on Plus by = Up by
way_on Minus by = Down by

-- how far it is in a matrix from one place of a column, or of a row, to the next
abbrev pub step_in : Bool → View → ℕ
step_in down v = if down then v.step_y else v.step_x

-- there is a view after the one with this first cell: it goes so far, and ends among the cells of a run
pub record CanMove (a : Advance) (first : ℕ) : Type 0 where
  pub next : ℕ
  pub far : IsFromTo first next a.far
  pub small : next + (a.shape.w * a.step_x + a.shape.h * a.step_y) ≤ 2 ^ 63

-- this is the view after it
pub record IsMoved (a : Advance) (first : ℕ) (v : View) : Type 0 where
  pub far : IsFromTo first v.first a.far
  pub step_x : v.step_x ≡ a.step_x
  pub step_y : v.step_y ≡ a.step_y
  pub shape : v.shape ≡ a.shape

-- a view has the steps and the shape of an advance
pub record IsShaped (a : Advance) (v : View) : Type 0 where
  pub step_x : v.step_x ≡ a.step_x
  pub step_y : v.step_y ≡ a.step_y
  pub shape : v.shape ≡ a.shape

-- two rectangles have these sides, which aren't empty, and it is so far from the corner cell of the one to that of the other
pub record IsBetween (m : View) (here next : Rect) (a : Advance) : Type 0 where
  pub step_x : a.step_x ≡ m.step_x
  pub step_y : a.step_y ≡ m.step_y
  pub wide : 0 < a.shape.w
  pub tall : 0 < a.shape.h
  pub across : here.x0 + a.shape.w ≡ here.x1
  pub down : here.y0 + a.shape.h ≡ here.y1
  pub next_across : next.x0 + a.shape.w ≡ next.x1
  pub next_down : next.y0 + a.shape.h ≡ next.y1
  pub far : IsFromTo (cell_of m here.x0 here.y0) (cell_of m next.x0 next.y0) a.far
