-- What views show of the cells that a reader tells.
use Rattle.std.specs.Prelude.{ℕ, ◌^◌, ◌<◌, ◌≤◌, ℤ, pos, IsTrue, is_some, None, List, [], map, slice_index}
use Rattle.std.specs.List.{All, flat_map}
use Rattle.std.specs.Option.{option_map_or}
use Rattle.pb_linear.specs.Sizes.{sizes_of}
use Rattle.pb_linear.specs.declared.sizes.Sizes.{Sizes}
use Rattle.pb_values.specs.Cells.{Turn, is_number}
use Rattle.pb_values.specs.Views.{cell_of, view_cells}
use Rattle.pb_values.specs.declared.outcome.Outcome.{Outcome}
use Rattle.pb_values.specs.declared.outcome.Outcome.TheVariants.{Value}
use Rattle.pb_values.specs.declared.shape.TheConstants.{MOST_SIDE}
use Rattle.pb_values.specs.declared.view.View.{View}
use Rattle.pb_model.specs.Equations.{number_in}
use Rattle.pb_model.specs.Grids.{Grid}

-- the outcome that is told of a cell; 0 where nothing is told
unfoldable pub outcome_of : Turn → ℕ → Outcome
outcome_of turn cell = option_map_or (λ o. o) (turn.outcomes cell) (Value (pos 0))

-- its number
unfoldable pub number_told : Turn → ℕ → ℤ
number_told turn cell = number_in (outcome_of turn cell)

-- the outcomes of the cells of views, in their order
abbrev pub seen_by : Turn → List View → List Outcome
seen_by turn views = map (outcome_of turn) (flat_map view_cells views)

-- the numbers that a view shows
unfoldable pub grid_told : Turn → View → Grid ℤ
grid_told turn v = record { width = v.shape.w; height = v.shape.h; cells = map (number_told turn) (view_cells v) }

-- each cell of a view is told, and its sides are at most those of a matrix
pub record IsTold (turn : Turn) (v : View) : Type 0 where
  pub told : (x y : ℕ) → x < v.shape.w → y < v.shape.h → IsTrue (is_some (turn.outcomes (cell_of v x y)))
  pub wide : v.shape.w ≤ MOST_SIDE
  pub tall : v.shape.h ≤ MOST_SIDE

-- each cell of a view has a number, and its sides are at most those of a matrix
pub record HasNumbers (turn : Turn) (v : View) : Type 0 where
  pub number : (x y : ℕ) → x < v.shape.w → y < v.shape.h → IsTrue (is_number (turn.outcomes (cell_of v x y)))
  pub wide : v.shape.w ≤ MOST_SIDE
  pub tall : v.shape.h ≤ MOST_SIDE

-- what a body is run around: the sizes, the rule variables, and what the reads show
pub record Around : Type 0 where
  pub sizes : List ℕ
  pub x : ℤ
  pub y : ℤ
  pub reads : List (Grid ℤ)

unfoldable pub around_of : Turn → Sizes → ℕ → ℕ → List View → Around
around_of turn sizes x y views = record { sizes = sizes_of sizes; x = pos x; y = pos y; reads = map (grid_told turn) views }

-- sizes and rule variables are numbers of 64 bits, and the cells of the views have numbers
pub record IsSetting (turn : Turn) (sizes : Sizes) (x y : ℕ) (views : List View) : Type 0 where
  pub small : (i : ℕ) → slice_index sizes.of i < 2 ^ 63
  pub small_x : x < 2 ^ 63
  pub small_y : y < 2 ^ 63
  pub numbers : All (HasNumbers turn) views

-- where nothing is told
abbrev pub nothing_told : Turn
nothing_told = record { task = 0; outcomes = λ _. None; left = [] }
