-- What calls count, by the sizes at which they are entered.
use Rattle.std.specs.Prelude.{ℕ, zero, suc, Bool, true, false, List, Option, Some, None, slice_get}
use Rattle.std.specs.Option.{option_map_or}
use Rattle.pb_program.specs.Configs.{ConfigValue}
use Rattle.pb_program.specs.Trees.{ProgTransform}
use Rattle.pb_recursion.specs.Counts.{Counted, Counter, count_at, instance_count, nothing}
use Rattle.pb_recursion.specs.Shapes.{sizes_from}

abbrev pub Sized : Type 0
Sized = ℕ → List ℕ → Counted

module _ (p : List ProgTransform) where
  -- by what is given to a call, which binds its sizes
  abbrev pub by_given : Sized → Counter
  by_given f number given = option_map_or (λ t. f number (sizes_from t given)) (slice_get p number) nothing

  -- where plans can call, or can't
  abbrev pub counter_of : Bool → Sized → Option Counter
  counter_of true f = Some (by_given f)
  counter_of false f = None

module _ (p : List ProgTransform) (config : ConfigValue) where
  -- the calls that a plan at this depth makes, if it can make any
  abbrev pub counter_at : ℕ → Option Counter
  counter_at zero = None
  counter_at (suc d) = Some (count_at p config d)

  -- a call of a transform at these sizes, where its plans may call so many deeper
  unfoldable pub sized_count : ℕ → Sized
  sized_count d number sizes = option_map_or (λ t. instance_count p config (counter_at d) number t sizes) (slice_get p number) nothing
