-- An instance that is entered.
use Rattle.std.proofs.Common.{◌≡◌, ◌∙◌, refl, sym, ap, subst, ℕ, zero, suc, ◌<◌, ◌≤◌, ◌^◌, true, false, List, [], ◌∷◌, ◌++◌, drop, get_or, length, map, slice_get, take, Some, arith}
use Rattle.std.specs.List.{All, AllZip}
use Rattle.std.proofs.lemmas.Bool.{and_parts}
use Rattle.std.proofs.lemmas.List.{length-map}
use Rattle.std.proofs.lemmas.List.Elements.{All-append, All-push}
use Rattle.pb_linear.specs.Sizes.{InRange, leasts_of, sizes_of}
use Rattle.pb_linear.specs.declared.sizes.Sizes.{Sizes}
use Rattle.pb_linear.specs.declared.sizes.TheConstants.{SIZE_TOP}
use Rattle.pb_program.specs.Configs.{ConfigValue}
use Rattle.pb_program.specs.Forms.{DeclValue}
use Rattle.pb_program.specs.Transforms.{TransformValue}
use Rattle.pb_program.specs.Trees.{ProgTransform, bare_prog, bare_transform}
use Rattle.pb_program.specs.WellFormed.{IsTransform}
use Rattle.pb_region.proofs.RuleLemmas.{held_at}
use Rattle.pb_region.proofs.SmallLemmas.{at_place}
use Rattle.pb_model.specs.Cells.{natural}
use Rattle.pb_check.specs.Accepting.{AcceptedValue, IsAccepted}
use Rattle.pb_check.specs.Orders.{AnalysisValue, IsAnalysis}
use Rattle.pb_check.specs.Ranked.{OfTransform}
use Rattle.pb_frame.specs.Choices.{IsInstance as IsInstanceOf}
use Rattle.pb_frame.specs.Frames.{FrameValue, IsFrame}
use Rattle.pb_frame.proofs.FoundLemmas.{instance, of_these, said_of}
use Rattle.pb_frame.proofs.PartLemmas.{top_of}
use Rattle.pb_plan.specs.Made.{jobs_for}
use Rattle.pb_plan.proofs.LaidLemmas.{jobs_are}
use Rattle.pb_plan.proofs.LinkedLemmas.{at_zip}
use Rattle.pb_counts.specs.Callable.{IsCallable}
use Rattle.pb_recursion.specs.Shapes.{all_same_sides, are_in_range, can_enter, same_sides, sides_of_decl, sizes_from}
use Rattle.pb_recursion.proofs.ShapeLemmas.{range_is, same_is}
use Rattle.pb_views.specs.Seats.{IsSmall, sides_of_seat}
use Rattle.pb_views.specs.declared.seat.Seat.{Seat}
use Rattle.pb_counts.specs.Handed.{Met, after_call, after_matrices, after_matrix, own_sides, seats_from}
use Rattle.pb_steps.specs.Runs.{UnrolledValue}
use Rattle.pb_steps.specs.Stands.{AreSeated, Grows, IsEnteredAs, IsSeated, IsSeatFor, met_of}
use Rattle.pb_steps.specs.Values.{InstanceValue}
use Rattle.pb_steps.specs.declared.met.Met.{Met as MetValue}
use Rattle.pb_steps.proofs.GrowLemmas.{grows_entered}
use Rattle.pb_steps.proofs.ListLemmas.{get_last, zip_append}

-- ---- matrices with their sides
given_seats : (sizes : List ℕ) (ds : List DeclValue) (given : List Seat) → all_same_sides (map (sides_of_decl sizes) ds) (map sides_of_seat given) ≡ true → AllZip (IsSeatFor sizes) ds given
given_seats sizes [] [] same = tt
given_seats sizes [] (s ∷ given) same = absurd (let wrong : false ≡ true = same in cc)
given_seats sizes (d ∷ ds) [] same = absurd (let wrong : false ≡ true = same in cc)
given_seats sizes (d ∷ ds) (s ∷ given) same =
    let parts = and_parts (same_sides (sides_of_decl sizes d) (sides_of_seat s)) (all_same_sides (map (sides_of_decl sizes) ds) (map sides_of_seat given)) same in
    let here = same_is (sides_of_decl sizes d) (sides_of_seat s) parts.0 in
    (record { width = sym (ap natural here.0); height = sym (ap natural here.1) }, given_seats sizes ds given parts.1)

own_are : (sizes : List ℕ) (n : Met) (ds : List DeclValue) → AllZip (IsSeatFor sizes) ds (seats_from n (map (sides_of_decl sizes) ds))
own_are sizes n [] = tt
own_are sizes n (d ∷ ds) = (record { width = omega arith; height = omega arith }, own_are sizes (after_matrix n (sides_of_decl sizes d)) ds)

take_drop : {A : Type 0} (n : ℕ) (xs : List A) → take n xs ++ drop n xs ≡ xs
take_drop zero xs = refl
take_drop (suc n) [] = refl
take_drop (suc n) (x ∷ xs) = ap (λ l. x ∷ l) (take_drop n xs)

-- ---- the transform with this number
module _ (v : AcceptedValue) (accepted : IsAccepted v) (t : ℕ) (below : t < length (bare_prog v.program)) (xs : List TransformValue) (held : xs ≡ v.program.transforms) (x : TransformValue) (is : x ≡ get_or xs t x) where
  abbrev bare : ProgTransform
  bare = bare_transform x

  pub there : slice_get (bare_prog v.program) t ≡ Some bare
  there = subst (λ (ts : List TransformValue). slice_get (map bare_transform ts) t ≡ Some bare) held (held_at bare_transform xs t x (omega (arith, below, ap length held, length-map v.program.transforms bare_transform)) is)

  pub analysis : (b : AnalysisValue) × (slice_get v.found t ≡ Some b) × IsAnalysis bare b
  analysis = at_zip IsAnalysis (bare_prog v.program) v.found accepted.found t bare there

  well : IsTransform (length (bare_prog v.program)) bare
  well = at_place (IsTransform (length (bare_prog v.program))) (bare_prog v.program) t bare accepted.well_formed.transforms there

  pub callable : IsCallable bare
  callable = record { few = well.few_sizes; ranges = omega (arith, well.ranges.counted); parts = well.parts }

  pub inputs : x.inputs ≤ length x.matrices
  inputs = omega (arith, well.parts)

  -- matrices that can be given to it
  module _ (s : Sizes) (given : List Seat) (sized : sizes_of s ≡ sizes_from bare (map sides_of_seat given)) (enters : can_enter bare (map sides_of_seat given) ≡ true) where
    tests : (are_in_range (leasts_of bare.ranges) (sizes_from bare (map sides_of_seat given)) ≡ true) × (all_same_sides (map (sides_of_decl (sizes_from bare (map sides_of_seat given))) (take bare.inputs bare.matrices)) (map sides_of_seat given) ≡ true)
    unfolding can_enter
    tests = and_parts (are_in_range (leasts_of bare.ranges) (sizes_from bare (map sides_of_seat given))) (all_same_sides (map (sides_of_decl (sizes_from bare (map sides_of_seat given))) (take bare.inputs bare.matrices)) (map sides_of_seat given)) enters

    range : InRange (leasts_of bare.ranges) (sizes_of s)
    range = subst (InRange (leasts_of bare.ranges)) (sym sized) (range_is (leasts_of bare.ranges) (sizes_from bare (map sides_of_seat given)) tests.0)

    pub ranged : OfTransform v t (λ transform found. InRange (leasts_of transform.ranges) (sizes_of s))
    ranged = of_these v accepted t bare analysis.0 there analysis.1 (λ transform found. InRange (leasts_of transform.ranges) (sizes_of s)) range

    inst : IsInstanceOf t bare analysis.0 (sizes_of s)
    inst = instance v accepted t bare analysis.0 there analysis.1 (sizes_of s) range

    pub top : All (λ size. size ≤ SIZE_TOP) s.of
    top = top_of t bare analysis.0 s inst

    -- the instance that is added
    module _ (config : ConfigValue) (grain : ℕ) (old : UnrolledValue) (call : ℕ) (is_call : call ≡ old.met.calls) (own : List Seat) (owned : own ≡ seats_from (after_call (met_of old.met)) (own_sides bare (sizes_of s))) (small : All IsSmall given) (own_small : All IsSmall own)
        (f : FrameValue) (of_sizes : f.sizes ≡ s) (framed : OfTransform v t (λ transform found. IsFrame config t transform found grain f)) (few : length f.jobs < 2 ^ 32) where
      abbrev value : InstanceValue
      value = record { call = call; transform = t; sizes = s; seats = given ++ own; jobs = f.jobs }

      seats_are : AllZip (IsSeatFor (sizes_of s)) bare.matrices (given ++ own)
      seats_are =
          let first = subst (λ (z : List ℕ). all_same_sides (map (sides_of_decl z) (take bare.inputs bare.matrices)) (map sides_of_seat given) ≡ true) (sym sized) tests.1 in
          subst (λ ds. AllZip (IsSeatFor (sizes_of s)) ds (given ++ own)) (take_drop bare.inputs bare.matrices)
          (zip_append (IsSeatFor (sizes_of s)) (take bare.inputs bare.matrices) (drop bare.inputs bare.matrices) given own (given_seats (sizes_of s) (take bare.inputs bare.matrices) given first)
          (subst (AllZip (IsSeatFor (sizes_of s)) (drop bare.inputs bare.matrices)) (sym owned) (own_are (sizes_of s) (after_call (met_of old.met)) (drop bare.inputs bare.matrices))))

      seated : IsSeated (bare_prog v.program) v.found config grain value
      seated = record {
        transform = bare;
        there = there;
        analysis = analysis.0;
        is_found = analysis.1;
        in_range = range;
        seats = seats_are;
        small = All-append IsSmall given own small own_small;
        jobs = jobs_are config t bare analysis.0 s grain f of_sizes (said_of v accepted t bare analysis.0 there analysis.1 (λ transform found. IsFrame config t transform found grain f) framed);
        few = few;
      }

      pub all_seated : (new : List InstanceValue) → new ≡ old.instances ++ value ∷ [] → AreSeated v config grain old.instances → AreSeated v config grain new
      all_seated new added before = subst (AreSeated v config grain) (sym added) (All-push (IsSeated (bare_prog v.program) v.found config grain) old.instances value before seated)

      pub entered : (m : MetValue) → met_of m ≡ after_matrices (after_call (met_of old.met)) (own_sides bare (sizes_of s)) → (number : ℕ) → number ≡ length old.instances → (new : List InstanceValue) → new ≡ old.instances ++ value ∷ []
          → IsEnteredAs v config grain t given old (record { instances = new; steps = old.steps; met = m }) number own
      entered m is_met number is_number new added = record {
        transform = bare;
        there = there;
        analysis = analysis.0;
        is_found = analysis.1;
        value = value;
        at = ap (slice_get new) is_number ∙ ap (λ l. slice_get l (length old.instances)) added ∙ get_last old.instances value;
        is = record {
          call = sym is_call;
          number = refl;
          transform = there;
          analysis = analysis.1;
          sizes = sym sized;
          seats = ap (λ l. given ++ l) (sym owned_is);
        };
        jobs = jobs_are config t bare analysis.0 s grain f of_sizes (said_of v accepted t bare analysis.0 there analysis.1 (λ transform found. IsFrame config t transform found grain f) framed) ∙ ap (λ (z : List ℕ). jobs_for config t bare analysis.0 z grain) sized;
        own_is = owned_is;
        goes = record {
          grows = subst (λ (l : List InstanceValue). Grows (bare_prog v.program) v.found old (record { instances = l; steps = old.steps; met = m }) []) (sym added) (grows_entered (bare_prog v.program) v.found old.instances value old.steps old.met m);
          met = is_met ∙ ap (λ z. after_matrices (after_call (met_of old.met)) (own_sides bare z)) sized;
        };
      }
        where
          owned_is : own ≡ seats_from (after_call (met_of old.met)) (own_sides bare (sizes_from bare (map sides_of_seat given)))
          owned_is = owned ∙ ap (λ z. seats_from (after_call (met_of old.met)) (own_sides bare z)) sized
