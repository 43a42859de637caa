-- What the equations of an instance cost: the cells that they read and write.
use Rattle.std.specs.Prelude.{ℕ, ◌+◌, Bool, ◌&&◌, ◌==◌, if◌then◌else◌, List, length, slice_get, sum_by}
use Rattle.std.specs.List.{enumerate_from, flat_map, list_any}
use Rattle.std.specs.Option.{option_map_or}
use Rattle.pb_program.specs.Configs.{ConfigValue}
use Rattle.pb_program.specs.Forms.{DeclValue}
use Rattle.pb_program.specs.Trees.{ProgRule, ProgTransform}
use Rattle.pb_region.specs.Boxes.{is_wide}
use Rattle.pb_model.specs.Calls.{made_cells}
use Rattle.pb_model.specs.Cells.{Cell, cells_of_view, reads}
use Rattle.pb_model.specs.Chosen.{chosen_rule}
use Rattle.pb_recursion.specs.Plans.{no_cell}

-- an equation, for the rule variables of a cell: how many cells its declared reads have, and how many its outputs
unfoldable pub equation_cost : List DeclValue → List ℕ → Cell → ProgRule → ℕ
equation_cost matrices sizes c r = length (reads matrices sizes c r) + length (flat_map (cells_of_view matrices sizes c) r.outs)

module _ (config : ConfigValue) (number : ℕ) (t : ProgTransform) (sizes : List ℕ) where
  -- a rule for single cells costs once for each cell that it is chosen for
  abbrev pub single_cost : Cell → ProgRule → ℕ
  single_cost c r = if is_wide r.kind then 0 else equation_cost t.matrices sizes c r

  abbrev pub cell_cost : Cell → ℕ
  cell_cost c = option_map_or (single_cost c) (slice_get t.rules (chosen_rule config number t sizes c)) 0

  -- any other rule costs once where it is chosen for some cell
  abbrev pub is_chosen_wide : ℕ × ProgRule → Bool
  is_chosen_wide r = is_wide r.1.kind && list_any (λ c. chosen_rule config number t sizes c == r.0) (made_cells t sizes)

  abbrev pub wide_cost : ℕ × ProgRule → ℕ
  wide_cost r = if is_chosen_wide r then equation_cost t.matrices sizes no_cell r.1 else 0

  -- a transform by its number, at sizes
  unfoldable pub instance_cost : ℕ
  instance_cost = sum_by cell_cost (made_cells t sizes) + sum_by wide_cost (enumerate_from 0 t.rules)
