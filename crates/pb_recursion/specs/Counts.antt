-- How many calls and cells a run has, and its greatest side: by recursion over sizes, without a cell.
use Rattle.std.specs.Prelude.{ℕ, zero, suc, ◌+◌, max, Bool, true, false, ◌&&◌, ◌==◌, if◌then◌else◌, List, [], ◌∷◌, map, drop, filter, Option, Some, None, slice_get}
use Rattle.std.specs.List.{enumerate_from, list_any}
use Rattle.std.specs.Option.{option_map_or}
use Rattle.pb_program.specs.declared.rule.RuleKind.{RuleKind}
use Rattle.pb_program.specs.declared.rule.RuleKind.TheVariants as kind
use Rattle.pb_program.specs.Configs.{ConfigValue}
use Rattle.pb_program.specs.Plans.{PlanCallValue}
use Rattle.pb_program.specs.Trees.{ProgRule, ProgTransform}
use Rattle.pb_model.specs.Calls.{made_cells}
use Rattle.pb_model.specs.Cells.{natural}
use Rattle.pb_model.specs.Chosen.{chosen_rule}
use Rattle.pb_recursion.specs.Plans.{argument_sides, calls_of_rule, fits_call, target_sides}
use Rattle.pb_recursion.specs.Shapes.{Sides, area, sides_of_decl, sizes_from}

-- how many calls; the greatest side of a matrix; how many cells
pub record Counted : Type 0 where
  pub calls : ℕ
  pub side : ℕ
  pub cells : ℕ

abbrev pub nothing : Counted
nothing = record { calls = 0; side = 0; cells = 0 }

abbrev pub both : Counted → Counted → Counted
both a b = record { calls = a.calls + b.calls; side = max a.side b.side; cells = a.cells + b.cells }

abbrev pub all_of : List Counted → Counted
all_of [] = nothing
all_of (c ∷ rest) = both c (all_of rest)

abbrev pub one_more : Counted
one_more = record { calls = 1; side = 0; cells = 0 }

-- a matrix of these sides; negative ones count for nothing
abbrev pub matrix_of : Sides → Counted
matrix_of s = record { calls = 0; side = max (natural s.0) (natural s.1); cells = area s }

-- ---- the plans of an instance
abbrev pub is_plan_kind : RuleKind → Bool
is_plan_kind kind.Plan = true
is_plan_kind _ = false

module _ (config : ConfigValue) (number : ℕ) (t : ProgTransform) (sizes : List ℕ) where
  -- the rule of this number is a plan, and is chosen for some cell
  abbrev pub is_chosen_plan : ℕ × ProgRule → Bool
  is_chosen_plan r = is_plan_kind r.1.kind && list_any (λ c. chosen_rule config number t sizes c == r.0) (made_cells t sizes)

  unfoldable pub chosen_plans : List (ℕ × ProgRule)
  chosen_plans = filter is_chosen_plan (enumerate_from 0 t.rules)

-- ---- calls
-- what a call of a transform, by its number, counts, where what is given has these sides
abbrev pub Counter : Type 0
Counter = ℕ → List Sides → Counted

module _ (p : List ProgTransform) (t : ProgTransform) (sizes : List ℕ) where
  -- a call that can't be made counts once, with a matrix for each target
  abbrev pub failed_count : ProgRule → PlanCallValue → Counted
  failed_count r c = both one_more (all_of (map matrix_of (target_sides t.matrices sizes r c)))

  abbrev pub call_count : Option Counter → ProgRule → PlanCallValue → Counted
  call_count None r c = failed_count r c
  call_count (Some deeper) r c = if fits_call t.matrices sizes p r c then deeper c.transform (argument_sides t.matrices sizes r c) else failed_count r c

  abbrev pub plan_count : Option Counter → ℕ × ProgRule → Counted
  plan_count deeper r = all_of (map (call_count deeper r.1) (calls_of_rule r.1))

module _ (p : List ProgTransform) (config : ConfigValue) where
  -- an instance: itself, the matrices after `through` and `to`, and the calls of its chosen plans
  abbrev pub instance_count : Option Counter → ℕ → ProgTransform → List ℕ → Counted
  instance_count deeper number t sizes =
      both (both one_more (all_of (map (λ d. matrix_of (sides_of_decl sizes d)) (drop t.inputs t.matrices)))) (all_of (map (plan_count p t sizes deeper) (chosen_plans config number t sizes)))

  abbrev pub one_count : Option Counter → Counter
  one_count deeper number given = option_map_or (λ t. instance_count deeper number t (sizes_from t given)) (slice_get p number) nothing

  -- a call whose plans may call so many deeper
  unfoldable pub count_at : ℕ → Counter
  count_at zero = one_count None
  count_at (suc d) = one_count (Some (count_at d))

  -- a run: its inputs and its first call
  abbrev pub run_count : ℕ → ℕ → List Sides → Counted
  run_count d number given = both (all_of (map matrix_of given)) (count_at d number given)
