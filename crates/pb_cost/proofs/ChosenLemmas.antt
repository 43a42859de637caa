-- The calls of the chosen plans of an instance, found by its parts.
use Rattle.std.proofs.Common.{◌≡◌, ◌∙◌, refl, sym, ℕ, Bool, true, false, ◌&&◌, List, [], ◌∷◌, ◌++◌}
use Rattle.std.specs.Prelude.{filter, if◌then◌else◌}
use Rattle.std.specs.List.{enumerate_from, flat_map}
use Rattle.pb_program.specs.Configs.{ConfigValue, IsValid}
use Rattle.pb_program.specs.Trees.{ProgRule, ProgTransform}
use Rattle.pb_check.specs.Orders.{AnalysisValue}
use Rattle.pb_frame.specs.Choices.{IsInstance}
use Rattle.pb_frame.specs.Frames.{parts_of}
use Rattle.pb_instance_cost.proofs.CostLemmas.{any_same}
use Rattle.pb_recursion.specs.Counts.{chosen_plans, is_chosen_plan, is_plan_kind}
use Rattle.pb_cost.specs.Calls.{entered_calls, entered_in}
use Rattle.pb_cost.specs.Planned.{rule_calls}

module _ (config : ConfigValue) (number : ℕ) (t : ProgTransform) (a : AnalysisValue) (sizes : List ℕ) (here : IsInstance number t a sizes) (valid : IsValid here.program config) (p : List ProgTransform) where
  abbrev plans_in : List (ℕ × ProgRule) → List (ℕ × ProgRule)
  plans_in rules = filter (is_chosen_plan config number t sizes) rules

  kinds : (r : ℕ × ProgRule) (rules : List (ℕ × ProgRule)) (b : Bool) → is_chosen_plan config number t sizes r ≡ b → (if b then entered_in p t sizes r else []) ++ flat_map (entered_in p t sizes) (plans_in rules) ≡ flat_map (entered_in p t sizes) (plans_in (r ∷ rules))
  kinds r rules true e = rw e refl
  kinds r rules false e = rw e refl

  by_rules : (rules : List (ℕ × ProgRule)) → flat_map (rule_calls p t sizes (parts_of config number t sizes a.nodes)) rules ≡ flat_map (entered_in p t sizes) (plans_in rules)
  by_rules [] = refl
  by_rules (r ∷ rules) =
      (λ i. (if is_plan_kind r.1.kind && sym (any_same config number t a sizes here valid r.0) i then entered_in p t sizes r else []) ++ by_rules rules i)
      ∙ kinds r rules (is_chosen_plan config number t sizes r) refl

  pub calls_are : flat_map (rule_calls p t sizes (parts_of config number t sizes a.nodes)) (enumerate_from 0 t.rules) ≡ entered_calls p config number t sizes
  unfolding entered_calls chosen_plans
  calls_are = by_rules (enumerate_from 0 t.rules)
