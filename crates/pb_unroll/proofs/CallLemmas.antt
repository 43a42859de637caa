-- The first call of a run, whose matrices stand before those of the calls below it.
use Rattle.std.proofs.Common.{◌≡◌, ◌∙◌, ap, ℕ, zero, suc, List, [], ◌++◌, Option, Some, None, slice_get}
use Rattle.std.specs.Option.{option_map_or}
use Rattle.pb_program.specs.Configs.{ConfigValue}
use Rattle.pb_program.specs.Trees.{ProgTransform}
use Rattle.pb_model.specs.Calls.{Outcomes, call_of}
use Rattle.pb_check.specs.Orders.{AnalysisValue}
use Rattle.pb_plan.specs.Made.{jobs_for}
use Rattle.pb_recursion.specs.Depths.{call_at, made_by_transform, plans_at, sizes_given}
use Rattle.pb_run_work.specs.Handed.{Below, below_at, jobs_matrices, matrices_at, matrices_by}

module _ (p : List ProgTransform) (config : ConfigValue) (number : ℕ) (ins : List Outcomes) (t : ProgTransform) (at : slice_get p number ≡ Some t) where
  -- it makes what its transform makes at the sizes that the matrices bind
  pub call_is : (depth : ℕ) → call_at p config depth number ins ≡ call_of config (plans_at p config depth number t (sizes_given t ins)) number t (sizes_given t ins) ins
  unfolding call_at
  call_is zero = ap (λ o. option_map_or (made_by_transform p config None number ins) o []) at
  call_is (suc d) = ap (λ o. option_map_or (made_by_transform p config (Some (call_at p config d)) number ins) o []) at

  module _ (found : List AnalysisValue) (grain : ℕ) (a : AnalysisValue) (there : slice_get found number ≡ Some a) where
    -- those of the calls below it
    abbrev below_it : ℕ → List Outcomes
    below_it depth = jobs_matrices p number t (sizes_given t ins) (below_at p found config grain depth) (ins ++ call_at p config depth number ins) (jobs_for config number t a (sizes_given t ins) grain)

    found_both : (depth : ℕ) (below : Option Below) → option_map_or (λ u. option_map_or (matrices_by p found config grain depth below number ins u) (slice_get found number) []) (slice_get p number) []
        ≡ matrices_by p found config grain depth below number ins t a
    found_both depth below =
        ap (λ o. option_map_or (λ u. option_map_or (matrices_by p found config grain depth below number ins u) (slice_get found number) []) o []) at
        ∙ ap (λ o. option_map_or (matrices_by p found config grain depth below number ins t) o []) there

    by_depth : (depth : ℕ) → matrices_at p found config grain depth number ins ≡ call_at p config depth number ins ++ below_it depth
    unfolding matrices_at
    by_depth zero = found_both zero (below_at p found config grain zero)
    by_depth (suc d) = found_both (suc d) (below_at p found config grain (suc d))

    pub stands_first : (depth : ℕ) → (rest : List Outcomes) × (matrices_at p found config grain depth number ins ≡ call_at p config depth number ins ++ rest)
    stands_first depth = (below_it depth, by_depth depth)
