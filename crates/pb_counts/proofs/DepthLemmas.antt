-- Counts by what is given to calls, and by the sizes at which they are entered.
use Rattle.std.proofs.Common.{◌≡◌, ◌∙◌, refl, sym, ap, ℕ, zero, suc, List, Option, Some, None, true, slice_get}
use Rattle.std.specs.Option.{option_map_or}
use Rattle.pb_program.specs.Configs.{ConfigValue}
use Rattle.pb_program.specs.Trees.{ProgTransform}
use Rattle.pb_recursion.specs.Counts.{count_at, instance_count, nothing, one_count}
use Rattle.pb_recursion.specs.Shapes.{Sides, sizes_from}
use Rattle.pb_counts.specs.Sized.{by_given, counter_at, counter_of, sized_count}

module _ (p : List ProgTransform) (config : ConfigValue) where
  count_is : (d : ℕ) → count_at p config d ≡ one_count p config (counter_at p config d)
  unfolding count_at
  count_is zero = refl
  count_is (suc d) = refl

  pub sized_is : (d number : ℕ) (t : ProgTransform) (sizes : List ℕ) → slice_get p number ≡ Some t → sized_count p config d number sizes ≡ instance_count p config (counter_at p config d) number t sizes
  unfolding sized_count
  sized_is d number t sizes there = ap (λ o. option_map_or (λ q. instance_count p config (counter_at p config d) number q sizes) o nothing) there

  pub given_is : (d number : ℕ) (given : List Sides) → count_at p config d number given ≡ by_given p (sized_count p config d) number given
  given_is d number given = (λ z. count_is d z number given) ∙ by (slice_get p number) refl
    where
      by : (o : Option ProgTransform) → slice_get p number ≡ o → option_map_or (λ t. instance_count p config (counter_at p config d) number t (sizes_from t given)) o nothing ≡ option_map_or (λ t. sized_count p config d number (sizes_from t given)) o nothing
      by None there = refl
      by (Some t) there = sym (sized_is d number t (sizes_from t given) there)

  pub deeper_is : (d : ℕ) → counter_at p config (suc d) ≡ counter_of p true (sized_count p config d)
  deeper_is d = λ z. Some (λ number given. given_is d number given z)
