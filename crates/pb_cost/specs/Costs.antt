-- The cost of a configuration at a size; none where it is unfit.
use Rattle.std.specs.Prelude.{ℕ, pos, Bool, nat_le, ◌&&◌, ◌||◌, not, if◌then◌else◌, List, length, map, replicate, take, Option, None, slice_get}
use Rattle.std.specs.List.{list_any}
use Rattle.std.specs.Option.{option_map_or}
use Rattle.std.specs.Ordering.{int_eq}
use Rattle.pb_linear.specs.Sizes.{leasts_of}
use Rattle.pb_values.specs.declared.shape.TheConstants.{MOST_SIDE}
use Rattle.pb_program.specs.Configs.{ConfigValue}
use Rattle.pb_program.specs.Trees.{ProgTransform}
use Rattle.pb_check.specs.Orders.{AnalysisValue}
use Rattle.pb_links.specs.Links.{link_count}
use Rattle.pb_taskgraph.specs.declared.limits.TheConstants.{MOST_CELLS, MOST_LINKS, MOST_TASKS}
use Rattle.pb_recursion.specs.Counts.{Counted, run_count}
use Rattle.pb_recursion.specs.Shapes.{Sides, are_in_range, sides_of_decl}
use Rattle.pb_counts.specs.declared.count.TheConstants.{MOST_CALLS}
use Rattle.pb_run_graph.specs.Handed.{Step, places_of}
use Rattle.pb_run_graph.specs.Handed.{unrolled_run}
use Rattle.pb_cost.specs.Calls.{cost_at}
use Rattle.pb_cost.specs.declared.at_size.TheConstants.{COST_DEPTH, COST_GRAIN}

-- ---- a run at a size
-- all sizes are this one
abbrev pub equal_sizes : ProgTransform → ℕ → List ℕ
equal_sizes t size = replicate (length t.sizes) size

-- the sides of the matrices after `from`
abbrev pub given_sides : ProgTransform → List ℕ → List Sides
given_sides t sizes = map (sides_of_decl sizes) (take t.inputs t.matrices)

-- a side is 0
abbrev pub is_empty : Sides → Bool
is_empty s = int_eq s.0 (pos 0) || int_eq s.1 (pos 0)

-- ---- its counts are within their limits
abbrev pub are_few : Counted → Bool
are_few c = nat_le c.calls MOST_CALLS && (nat_le c.side MOST_SIDE && nat_le c.cells MOST_CELLS)

abbrev pub can_be_linked : List Step → Bool
can_be_linked steps = nat_le (length steps) MOST_TASKS && nat_le (link_count (map places_of steps)) MOST_LINKS

-- of a program and what is found of it, with a configuration: a transform by its number
module _ (p : List ProgTransform) (found : List AnalysisValue) (config : ConfigValue) (number : ℕ) where
  abbrev pub is_within : List Sides → Bool
  is_within given = are_few (run_count p config COST_DEPTH number given) && can_be_linked (unrolled_run p found config COST_GRAIN COST_DEPTH number given).steps

  -- ---- the cost
  -- no matrix after `from` is empty, and the counts of the run are within their limits
  abbrev pub is_fit : ProgTransform → List ℕ → Bool
  is_fit t sizes = not (list_any is_empty (given_sides t sizes)) && is_within (given_sides t sizes)

  abbrev pub cost_at_sizes : List ℕ → ProgTransform → Option ℕ
  cost_at_sizes sizes t = if is_fit t sizes then cost_at p config COST_DEPTH number sizes else None

  -- where all sizes are this one, in range
  abbrev pub cost_of : ℕ → ProgTransform → Option ℕ
  cost_of size t = if are_in_range (leasts_of t.ranges) (equal_sizes t size) then cost_at_sizes (equal_sizes t size) t else None

  -- at a size: the sum over the run of what equations read and write; none where the configuration is unfit, also where a call can't
  -- be made
  unfoldable pub cost : ℕ → Option ℕ
  cost size = option_map_or (cost_of size) (slice_get p number) None
