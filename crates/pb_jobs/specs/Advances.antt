-- How what a rule reads moves from one place of a line to the next.
use Rattle.std.specs.Prelude.{◌≡◌, ◌≢◌, ℕ, ◌+◌, ◌<◌, ◌≤◌, ◌^◌, ℤ, pos, ◌+ℤ◌, ◌*ℤ◌, List, length, Some, slice_get}
use Rattle.pb_values.specs.declared.view.View.{View}
use Rattle.pb_program.specs.Areas.{Area}
use Rattle.pb_program.specs.declared.view.Read.{Read}
use Rattle.pb_program.specs.declared.view.ReadView.TheVariants as view
use Rattle.pb_region.specs.Within.{IsWithin}
use Rattle.pb_views.specs.Windows.{shown_by}
use Rattle.pb_views.specs.declared.window.Window.{Window}
use Rattle.pb_walk.specs.declared.stretch.Stretch.{Stretch}
use Rattle.pb_walk.specs.Stretches.{place_on}
use Rattle.pb_jobs.specs.declared.advance.Advance.{Advance}
use Rattle.pb_jobs.specs.declared.advance.Distance.{Distance}
use Rattle.pb_jobs.specs.declared.advance.Distance.TheVariants.{Up, Down}
use Rattle.pb_jobs.specs.Distances.{IsShaped}
use Rattle.pb_jobs.specs.Shown.{AreWithin, IsShownFor}

-- the cell of a matrix at the low corner of an area
abbrev pub corner_cell : View → Area → ℤ
corner_cell m a = pos m.first +ℤ (a.x.low *ℤ pos m.step_x +ℤ a.y.low *ℤ pos m.step_y)

-- what a window shows of a matrix at a place of a stretch
abbrev pub area_on : Window → View → Stretch → ℕ → Area
area_on w m s i = shown_by w m (place_on s i).x (place_on s i).y w.view

-- so far from one cell to another
abbrev pub IsFurther : ℤ → ℤ → Distance → Type 0
IsFurther here next (Up by) = next ≡ here +ℤ pos by
IsFurther here next (Down by) = next +ℤ pos by ≡ here

-- at each place of a stretch what a window shows, which is no column, has these sides, and from each place to the next its corner cell
-- goes so far; the steps are those of the matrix
pub record IsAdvance (w : Window) (m : View) (s : Stretch) (a : Advance) : Type 0 where
  pub upright : w.view ≢ view.Column
  pub step_x : a.step_x ≡ m.step_x
  pub step_y : a.step_y ≡ m.step_y
  pub wide : 0 < a.shape.w
  pub tall : 0 < a.shape.h
  pub across : (i : ℕ) → i < s.count → (area_on w m s i).x.low +ℤ pos a.shape.w ≡ (area_on w m s i).x.high
  pub down : (i : ℕ) → i < s.count → (area_on w m s i).y.low +ℤ pos a.shape.h ≡ (area_on w m s i).y.high
  pub far : (i : ℕ) → i + 1 < s.count → IsFurther (corner_cell m (area_on w m s i)) (corner_cell m (area_on w m s (i + 1))) a.far

-- and so for each of the first reads; there are as many advances
pub record AreAdvances (matrices : List View) (s : Stretch) (reads : List Read) (windows : List Window) (n : ℕ) (advances : List Advance) : Type 0 where
  pub count : length advances ≡ n
  pub each : (k : ℕ) (r : Read) (w : Window) (a : Advance) (m : View) → slice_get reads k ≡ Some r → slice_get windows k ≡ Some w → slice_get advances k ≡ Some a → slice_get matrices r.matrix ≡ Some m → IsAdvance w m s a

-- views have the steps and the shapes of these advances, one by one
abbrev pub AreShaped : List Advance → List View → Type 0
AreShaped advances views = (k : ℕ) (a : Advance) (v : View) → slice_get advances k ≡ Some a → slice_get views k ≡ Some v → IsShaped a v

-- at a place of a stretch the rule variables are small, and what a window shows lies within its matrix
pub record IsWindowOn (w : Window) (m : View) (s : Stretch) (i : ℕ) : Type 0 where
  pub small_x : (place_on s i).x ≤ 2 ^ 23
  pub small_y : (place_on s i).y ≤ 2 ^ 23
  pub within : IsWithin (shown_by w m (place_on s i).x (place_on s i).y w.view) (pos m.shape.w) (pos m.shape.h)

-- at a place of a stretch the rule variables are small, and what is read lies within its matrices
pub record IsWithinOn (matrices : List View) (reads : List Read) (windows : List Window) (s : Stretch) (i : ℕ) : Type 0 where
  pub small_x : (place_on s i).x ≤ 2 ^ 23
  pub small_y : (place_on s i).y ≤ 2 ^ 23
  pub within : AreWithin matrices (place_on s i).x (place_on s i).y reads windows

-- and at each
abbrev pub AreWithinAlong : List View → List Read → List Window → Stretch → Type 0
AreWithinAlong matrices reads windows s = (i : ℕ) → i < s.count → IsWithinOn matrices reads windows s i

-- of these views, the one of the read with this number shows it at this place
abbrev pub IsShownAt : List View → List Read → List Window → Stretch → ℕ → ℕ → List View → Type 0
IsShownAt matrices reads windows s i k views =
    (r : Read) (w : Window) (v : View) → slice_get reads k ≡ Some r → slice_get windows k ≡ Some w → slice_get views k ≡ Some v → IsShownFor matrices (place_on s i).x (place_on s i).y r w v
