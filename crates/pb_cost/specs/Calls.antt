-- What the calls of a run cost, by recursion over sizes; nothing where a call can't be made.
use Rattle.std.specs.Prelude.{ℕ, zero, suc, ◌+◌, List, [], ◌∷◌, map, Option, Some, None, slice_get}
use Rattle.std.specs.List.{flat_map}
use Rattle.std.specs.Option.{option_map, option_map_or}
use Rattle.pb_program.specs.Configs.{ConfigValue}
use Rattle.pb_program.specs.Plans.{PlanCallValue}
use Rattle.pb_program.specs.Trees.{ProgRule, ProgTransform}
use Rattle.pb_recursion.specs.Counts.{chosen_plans}
use Rattle.pb_recursion.specs.Plans.{calls_of_rule}
use Rattle.pb_counts.specs.Entered.{sizes_of_call}
use Rattle.pb_instance_cost.specs.Costs.{instance_cost}

-- ---- sums in which nothing may be missing
abbrev pub plus : Option ℕ → Option ℕ → Option ℕ
plus (Some a) (Some b) = Some (a + b)
plus (Some a) None = None
plus None b = None

abbrev pub total : List (Option ℕ) → Option ℕ
total [] = Some 0
total (c ∷ rest) = plus c (total rest)

-- ---- the calls of an instance
-- a call that is made: the number of its transform, and the sizes at which it is entered
abbrev pub Entered : Type 0
Entered = ℕ × List ℕ

module _ (p : List ProgTransform) (t : ProgTransform) (sizes : List ℕ) where
  -- a call of a plan; nothing where it doesn't fit
  abbrev pub entered_by : ProgRule → PlanCallValue → Option Entered
  entered_by r c = option_map (λ ss. (c.transform, ss)) (sizes_of_call t.matrices sizes p r c)

  abbrev pub entered_in : ℕ × ProgRule → List (Option Entered)
  entered_in r = map (entered_by r.1) (calls_of_rule r.1)

-- those of its chosen plans
unfoldable pub entered_calls : List ProgTransform → ConfigValue → ℕ → ProgTransform → List ℕ → List (Option Entered)
entered_calls p config number t sizes = flat_map (entered_in p t sizes) (chosen_plans config number t sizes)

-- ---- costs
-- what a call costs, by the number of its transform and its sizes
abbrev pub CallCost : Type 0
CallCost = ℕ → List ℕ → Option ℕ

-- one that may be made where plans can call
abbrev pub call_cost : Option CallCost → Option Entered → Option ℕ
call_cost None e = None
call_cost (Some deeper) None = None
call_cost (Some deeper) (Some e) = deeper e.0 e.1

module _ (p : List ProgTransform) (config : ConfigValue) where
  -- an instance: its equations, and the calls of its chosen plans
  abbrev pub transform_cost : Option CallCost → ℕ → List ℕ → ProgTransform → Option ℕ
  transform_cost deeper number sizes t = plus (Some (instance_cost config number t sizes)) (total (map (call_cost deeper) (entered_calls p config number t sizes)))

  abbrev pub one_cost : Option CallCost → CallCost
  one_cost deeper number sizes = option_map_or (transform_cost deeper number sizes) (slice_get p number) None

  -- a call whose plans may call so many deeper
  unfoldable pub cost_at : ℕ → CallCost
  cost_at zero = one_cost None
  cost_at (suc d) = one_cost (Some (cost_at d))

  -- the calls that a plan at this depth makes, if it can make any
  abbrev pub deeper_at : ℕ → Option CallCost
  deeper_at zero = None
  deeper_at (suc d) = Some (cost_at d)
