-- Costs at a depth.
use Rattle.std.proofs.Common.{◌≡◌, ◌∙◌, refl, sym, ap, ℕ, zero, suc, ◌-◌, List, [], ◌∷◌, map, Option, Some, None, slice_get, arith}
use Rattle.std.specs.Option.{option_map_or}
use Rattle.pb_program.specs.Configs.{ConfigValue}
use Rattle.pb_program.specs.Trees.{ProgTransform}
use Rattle.pb_instance_cost.specs.Costs.{instance_cost}
use Rattle.pb_cost.specs.Calls.{Entered, call_cost, cost_at, deeper_at, entered_calls, one_cost, plus, total, transform_cost}

module _ (p : List ProgTransform) (config : ConfigValue) where
  at_depth : (d : ℕ) → cost_at p config d ≡ one_cost p config (deeper_at p config d)
  unfolding cost_at
  at_depth zero = refl
  at_depth (suc d) = refl

  -- from what an instance's equations cost, and its calls
  pub cost_is : (d number : ℕ) (sizes : List ℕ) (t : ProgTransform) → slice_get p number ≡ Some t → (own : ℕ) (calls : List (Option Entered)) → own ≡ instance_cost config number t sizes → calls ≡ entered_calls p config number t sizes
      → plus (Some own) (total (map (call_cost (deeper_at p config d)) calls)) ≡ cost_at p config d number sizes
  cost_is d number sizes t there own calls own_is calls_are =
      (λ i. plus (Some (own_is i)) (total (map (call_cost (deeper_at p config d)) (calls_are i))))
      ∙ sym (ap (λ o. option_map_or (transform_cost p config (deeper_at p config d) number sizes) o None) there)
      ∙ sym (λ i. at_depth d i number sizes)

  -- at depth 0 no call can be made
  pub at_bottom : (d : ℕ) → d ≡ 0 → (own : ℕ) (e : Option Entered) (calls : List (Option Entered)) → plus (Some own) (total (map (call_cost (deeper_at p config d)) (e ∷ calls))) ≡ None
  at_bottom zero is own e calls = refl
  at_bottom (suc d) is own e calls = absurd (omega (arith, is))

  pub without_calls : (d own : ℕ) → plus (Some own) (total (map (call_cost (deeper_at p config d)) [])) ≡ Some own
  without_calls d own = ap Some (omega arith)

  -- above it a call is one less deep
  pub above : (d : ℕ) → (d ≡ 0 → ⊥) → (e : Entered) → call_cost (deeper_at p config d) (Some e) ≡ cost_at p config (d - 1) e.0 e.1
  above zero some_depth e = absurd (some_depth refl)
  above (suc d) some_depth e = let less : d ≡ suc d - 1 = omega arith in ap (λ n. cost_at p config n e.0 e.1) less

  pub none_made : (d : ℕ) → (e : Option Entered) → e ≡ None → call_cost (deeper_at p config d) e ≡ None
  none_made zero e is = refl
  none_made (suc d) e is = ap (call_cost (deeper_at p config (suc d))) is
