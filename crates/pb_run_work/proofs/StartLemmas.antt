-- What the making of a run needs, and why it is refused, as the code finds them.
use Rattle.std.proofs.Common.{◌≡◌, ℕ, ◌<◌, List, length, map, get_or, slice_get, Some}
use Rattle.std.specs.Prelude.{IsTrue}
use Rattle.std.specs.List.{All}
use Rattle.std.proofs.lemmas.Option.{slice_get_within}
use Rattle.pb_linear.specs.Sizes.{InRange, leasts_of, sizes_of}
use Rattle.pb_linear.specs.declared.sizes.Sizes.{Sizes}
use Rattle.pb_program.specs.Configs.{ConfigValue, IsValid}
use Rattle.pb_program.specs.Transforms.{TransformValue}
use Rattle.pb_program.specs.Trees.{ProgTransform, bare_prog, bare_transform}
use Rattle.pb_program.specs.WellFormed.{IsWellFormed}
use Rattle.pb_region.specs.Dims.{HasTransform}
use Rattle.pb_matrix.specs.Value.{MatrixValue}
use Rattle.pb_model.specs.Calls.{Outcomes}
use Rattle.pb_calls.specs.Given.{AreGiven}
use Rattle.pb_check.specs.Accepting.{AcceptedValue, IsAccepted}
use Rattle.pb_check.specs.Phases.{IsSound}
use Rattle.pb_check.specs.Ranked.{OfTransform}
use Rattle.pb_entry.specs.Fitting.{AreBound, AreUnfit}
use Rattle.pb_entry.specs.declared.refusal.RunRefusal.{RunRefusal}
use Rattle.pb_plan.proofs.JobLemmas.{at_map}
use Rattle.pb_recursion.specs.Depths.{sides_of_matrix, sizes_given}
use Rattle.pb_recursion.specs.Shapes.{can_enter}
use Rattle.pb_steps.specs.Handed.{AreFew, AreMany, OfRun}
use Rattle.pb_run_graph.specs.Linking.{IsTooMany}
use Rattle.pb_run_work.specs.Given.{IsWhole, given_as}
use Rattle.pb_run_work.specs.Holding.{AreFitted, CanBegin}
use Rattle.pb_run_work.specs.Limits.{run_steps}
use Rattle.pb_run_work.specs.Unrolled.{IsRefused}
use Rattle.pb_run_work.proofs.BeginLemmas.{IsThere, are_many, can_begin, fitted, given_is, has_range, is_unfit, said, there_of, too_many, transform_at}

module _ (v : AcceptedValue) (accepted : IsAccepted v) (config : ConfigValue) (valid : IsValid (bare_prog v.program) config) (grain depth t : ℕ) (inputs : List MatrixValue) (whole : All IsWhole inputs) (count : HasTransform (bare_prog v.program) t (λ tr. length inputs ≡ tr.inputs)) where
  abbrev p : List ProgTransform
  p = bare_prog v.program

  abbrev h : IsThere v t (λ tr. length inputs ≡ tr.inputs)
  h = there_of v t (λ tr. length inputs ≡ tr.inputs) count

  at : slice_get p t ≡ Some (bare_transform h.transform)
  at = at_map bare_transform v.program.transforms t h.transform h.there

  pub number_below : t < length p
  number_below = slice_get_within p t (bare_transform h.transform) at

  pub code_there : (xs : List TransformValue) → xs ≡ v.program.transforms → (x : TransformValue) → x ≡ get_or xs t x → slice_get v.program.transforms t ≡ Some x
  code_there xs held x is = transform_at v t number_below xs held x is

  pub unfit_is : (e : RunRefusal) → HasTransform p t (λ tr. AreUnfit tr inputs e) → IsRefused v config t inputs depth grain e
  unfit_is e k = is_unfit v accepted config valid grain depth t h.transform h.there inputs h.is whole e (said p t (bare_transform h.transform) at (λ tr. AreUnfit tr inputs e) k)

  module _ (s : Sizes) (k : HasTransform p t (λ tr. AreBound tr inputs (sizes_of s))) where
    bound : AreBound (bare_transform h.transform) inputs (sizes_of s)
    bound = said p t (bare_transform h.transform) at (λ tr. AreBound tr inputs (sizes_of s)) k

    pub range_is : OfTransform v t (λ tr found. InRange (leasts_of tr.ranges) (sizes_of s))
    range_is = has_range v accepted config valid grain depth t h.transform h.there inputs h.is whole s bound

    pub many_are : (e : RunRefusal) → OfTransform v t (λ tr found. OfRun p config depth t tr (sizes_of s) (λ n. AreMany n e)) → IsRefused v config t inputs depth grain e
    many_are e many = are_many v accepted config valid grain depth t h.transform h.there inputs h.is whole s bound e many

    module _ (few : OfTransform v t (λ tr found. OfRun p config depth t tr (sizes_of s) AreFew)) where
      pub too_many_are : (e : RunRefusal) → IsTooMany (run_steps p v.found config grain depth t (given_as inputs)) e → IsRefused v config t inputs depth grain e
      too_many_are e many = too_many v accepted config valid grain depth t h.transform h.there inputs h.is whole s bound few e many

      -- by the law on matrices that are given
      module _ (law : (p : List ProgTransform) (number : ℕ) (t : ProgTransform) (sizes : List ℕ) (ins : List Outcomes) → IsWellFormed p → IsSound p → slice_get p number ≡ Some t → InRange (leasts_of t.ranges) sizes → AreGiven t sizes ins → IsTrue (can_enter t (map sides_of_matrix ins))) where
        enters : IsTrue (can_enter (bare_transform h.transform) (map sides_of_matrix (given_as inputs)))
        enters = law p t (bare_transform h.transform) (sizes_of s) (given_as inputs) accepted.well_formed accepted.sound at bound.range (given_is v accepted config valid grain depth t h.transform h.there inputs h.is whole s bound)

        pub begin_is : CanBegin v config grain depth t (given_as inputs)
        begin_is = can_begin v accepted config valid grain depth t h.transform h.there inputs h.is whole s bound few enters

        pub fitted_is : ((p : List ProgTransform) (number : ℕ) (t : ProgTransform) (sizes : List ℕ) (ins : List Outcomes) → IsWellFormed p → IsSound p → slice_get p number ≡ Some t → InRange (leasts_of t.ranges) sizes → AreGiven t sizes ins → sizes_given t ins ≡ sizes) → AreFitted v t inputs s
        fitted_is same = fitted v accepted config valid grain depth t h.transform h.there inputs h.is whole s bound few enters
            (same p t (bare_transform h.transform) (sizes_of s) (given_as inputs) accepted.well_formed accepted.sound at bound.range (given_is v accepted config valid grain depth t h.transform h.there inputs h.is whole s bound))
