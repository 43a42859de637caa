-- What is known of the transform that is counted, in an accepted program.
use Rattle.std.proofs.Common.{◌≡◌, ◌∙◌, refl, sym, ap, subst, ℕ, ◌≤◌, Bool, List, [], drop, length, map, get_or, slice_get, Option, Some, None, arith}
use Rattle.std.specs.Prelude.{IsSomeAnd}
use Rattle.std.specs.List.{All, enumerate_from, flat_map}
use Rattle.std.proofs.lemmas.List.{length-map}
use Rattle.std.proofs.lemmas.Option.{slice_get-get_or}
use Rattle.pb_linear.specs.Sizes.{InRange, leasts_of, sizes_of}
use Rattle.pb_linear.specs.declared.sizes.Sizes.{Sizes}
use Rattle.pb_linear.specs.declared.sizes.TheConstants.{SIZE_TOP}
use Rattle.pb_program.specs.Configs.{ConfigValue, IsValid}
use Rattle.pb_program.specs.Transforms.{TransformValue}
use Rattle.pb_program.specs.Trees.{ProgTransform, bare_prog, bare_transform}
use Rattle.pb_program.specs.WellFormed.{IsTransform, IsWellFormed}
use Rattle.pb_region.proofs.RuleLemmas.{held_at}
use Rattle.pb_region.proofs.SmallLemmas.{at_place}
use Rattle.pb_check.specs.Accepting.{AcceptedValue, IsAccepted}
use Rattle.pb_check.specs.Orders.{AnalysisValue}
use Rattle.pb_check.specs.Ranked.{OfTransform}
use Rattle.pb_frame.specs.Choices.{IsInstance}
use Rattle.pb_frame.specs.Frames.{FrameValue, IsFrame, JobValue, in_layer, layer_jobs}
use Rattle.pb_frame.specs.declared.part.FramePart.{FramePart}
use Rattle.pb_frame.proofs.FoundLemmas.{instance, numbers_of, of_these, said_of}
use Rattle.pb_frame.proofs.PartLemmas.{top_of}
use Rattle.pb_runs.specs.Handed.{jobs_for}
use Rattle.pb_recursion.specs.Counts.{Counted, all_of, both, instance_count, matrix_of, one_more}
use Rattle.pb_recursion.specs.Shapes.{sides_of_decl}
use Rattle.pb_runs.specs.Steps.{Instance}
use Rattle.pb_runs.specs.Tallied.{job_tally}
use Rattle.pb_runs.proofs.BoxLemmas.{IsSituated}
use Rattle.pb_runs.proofs.ChosenLemmas.{plans_tally}
use Rattle.pb_counts.specs.Callable.{IsCallable}
use Rattle.pb_counts.specs.Gathered.{Entered, GatheredValue, IsMore, whole}
use Rattle.pb_counts.specs.Sized.{Sized, counter_of}
use Rattle.pb_counts.specs.Tallies.{capped}
use Rattle.pb_counts.proofs.AddLemmas.{both_none, capped_left, capped_with}

callable : (transforms : ℕ) (t : ProgTransform) → IsTransform transforms t → IsCallable t
callable transforms t well = record { few = well.few_sizes; ranges = omega (arith, well.ranges.counted); parts = well.parts }

pub all_callable : (p : List ProgTransform) → IsWellFormed p → All IsCallable p
all_callable p well k d below = callable (length p) (get_or p k d) (at_place (IsTransform (length p)) p k (get_or p k d) well.transforms (slice_get-get_or p k d below))

-- there is something found of it
pub some_found : (v : AcceptedValue) (t : ℕ) (P : ProgTransform → AnalysisValue → Type 0) → OfTransform v t P → (a : AnalysisValue) × (slice_get v.found t ≡ Some a)
some_found v t P h = by (slice_get (bare_prog v.program) t) (slice_get v.found t) refl h
  where
    by : (o : Option ProgTransform) (q : Option AnalysisValue) → slice_get v.found t ≡ q → IsSomeAnd o (λ transform. IsSomeAnd q (P transform)) → (a : AnalysisValue) × (slice_get v.found t ≡ Some a)
    by None q e h = absurd h
    by (Some y) None e h = absurd h
    by (Some y) (Some a) e h = (a, e)

module _ (v : AcceptedValue) (accepted : IsAccepted v) (t : ℕ) (s : Sizes) (range : OfTransform v t (λ transform found. InRange (leasts_of transform.ranges) (sizes_of s)))
    (xs : List TransformValue) (held : xs ≡ v.program.transforms) (x : TransformValue) (is : x ≡ get_or xs t x) (found : AnalysisValue) (at : slice_get v.found t ≡ Some found) where
  abbrev transform : ProgTransform
  transform = bare_transform x

  abbrev Range : ProgTransform → AnalysisValue → Type 0
  Range transform found = InRange (leasts_of transform.ranges) (sizes_of s)

  pub there : slice_get (bare_prog v.program) t ≡ Some transform
  there =
      let below = numbers_of v t Range range in
      subst (λ (ts : List TransformValue). slice_get (map bare_transform ts) t ≡ Some transform) held (held_at bare_transform xs t x (omega (arith, below.0, ap length held, length-map v.program.transforms bare_transform)) is)

  in_range : InRange (leasts_of transform.ranges) (sizes_of s)
  in_range = said_of v accepted t transform found there at Range range

  pub here : IsInstance t transform found (sizes_of s)
  here = instance v accepted t transform found there at (sizes_of s) in_range

  pub top : All (λ size. size ≤ SIZE_TOP) s.of
  top = top_of t transform found s here

  pub can_call : IsCallable transform
  can_call = callable (length (bare_prog v.program)) transform (at_place (IsTransform (length (bare_prog v.program))) (bare_prog v.program) t transform accepted.well_formed.transforms there)

  pub well : IsTransform (length (bare_prog v.program)) transform
  well = at_place (IsTransform (length (bare_prog v.program))) (bare_prog v.program) t transform accepted.well_formed.transforms there

  pub ranged : InRange (leasts_of transform.ranges) (sizes_of s)
  ranged = in_range

  pub said : (P : ProgTransform → AnalysisValue → Type 0) → OfTransform v t P → P transform found
  said P h = said_of v accepted t transform found there at P h

  pub of_this : (P : ProgTransform → AnalysisValue → Type 0) → P transform found → OfTransform v t P
  of_this P h = of_these v accepted t transform found there at P h

  -- ---- what is gathered of the jobs of its frame
  module _ (config : ConfigValue) (valid : IsValid (bare_prog v.program) config) (grain : ℕ) (frame : FrameValue) (sizes_are : frame.sizes ≡ s) (is_frame : OfTransform v t (λ transform found. IsFrame config t transform found grain frame)) where
    abbrev sizes : List ℕ
    sizes = sizes_of s

    abbrev p : List ProgTransform
    p = bare_prog v.program

    abbrev laid_out : Instance
    laid_out = record { call = 0; number = t; transform = transform; found = found; sizes = sizes; seats = [] }

    abbrev situated : IsSituated config p laid_out
    situated = record { well = accepted.well_formed; sound = accepted.sound; valid = valid; there = there; found = here.found; range = in_range }

    f_is : IsFrame config t transform found grain frame
    f_is = said (λ transform found. IsFrame config t transform found grain frame) is_frame

    jobs_are : frame.jobs ≡ jobs_for config t transform found sizes grain
    jobs_are =
        f_is.jobs ∙ ap (λ (ps : List FramePart). flat_map (λ l. layer_jobs transform grain (in_layer found.order ps l.0) l) (enumerate_from 0 found.order.layers)) f_is.parts
        ∙ ap (λ (z : Sizes). jobs_for config t transform found (sizes_of z) grain) sizes_are

    abbrev own : Counted
    own = both one_more (all_of (map (λ d. matrix_of (sides_of_decl sizes d)) (drop transform.inputs transform.matrices)))

    pub gathered : (deep : Bool) (first : Counted) → first ≡ capped own → (js : List JobValue) → js ≡ frame.jobs → (g : GatheredValue) (none : List Entered) → none ≡ []
        → IsMore p deep (record { tally = first; next = none }) g (λ d. all_of (map (λ (job : JobValue). job_tally p transform sizes d job.rule) js))
        → (f : Sized) → capped (whole f g) ≡ capped (instance_count p config (counter_of p deep f) t transform sizes)
    gathered deep first is_own js js_are g none empty more_than f =
        let more = subst (λ (l : List Entered). IsMore p deep (record { tally = first; next = l }) g (λ d. all_of (map (λ (job : JobValue). job_tally p transform sizes d job.rule) js))) empty more_than in
        let d = counter_of p deep f in
        let tally = λ (l : List JobValue). all_of (map (λ (job : JobValue). job_tally p transform sizes d job.rule) l) in
        more f ∙ capped_with (both first (all_of [])) first (tally js) (ap capped (sym (both_none first))) ∙ ap (λ z. capped (both z (tally js))) is_own ∙ capped_left own (tally js)
        ∙ ap (λ (l : List JobValue). capped (both own (tally l))) (js_are ∙ jobs_are) ∙ ap (λ z. capped (both own z)) (plans_tally config p laid_out grain situated d)
