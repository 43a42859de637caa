-- From matrices that are given to a run of a transform.
use Rattle.std.proofs.Common.{◌≡◌, ◌∙◌, refl, sym, ap, subst, inl, inr, ◌⊎◌, ℕ, zero, suc, ◌*◌, ◌<◌, ◌≤◌, ◌^◌, ℤ, pos, negsuc, max, List, [], ◌∷◌, length, map, take, drop, get_or, slice_get, Option, Some, None, arith}
use Rattle.std.specs.Prelude.{FitsSigned, IsSomeAnd, IsTrue}
use Rattle.std.specs.Int.{w64}
use Rattle.std.specs.List.{All}
use Rattle.std.specs.Option.{option_map_or}
use Rattle.std.proofs.lemmas.Bool.Decides.{nat_tests}
use Rattle.std.proofs.lemmas.List.{length-map}
use Rattle.std.proofs.lemmas.Option.{slice_get-get_or}
use Rattle.pb_linear.specs.Numbers.{exact_value}
use Rattle.pb_linear.specs.Sizes.{InRange, leasts_of, sizes_of}
use Rattle.pb_linear.specs.declared.sizes.Sizes.{Sizes}
use Rattle.pb_linear.proofs.SizesLemmas.{in_range_top}
use Rattle.pb_values.specs.Checked.{fits_i64}
use Rattle.pb_values.specs.declared.outcome.Outcome.TheVariants.{Value}
use Rattle.pb_values.specs.declared.shape.TheConstants.{MOST_SIDE}
use Rattle.pb_program.specs.Configs.{ConfigValue, IsValid}
use Rattle.pb_program.specs.Forms.{DeclValue}
use Rattle.pb_program.specs.Transforms.{TransformValue}
use Rattle.pb_program.specs.Trees.{ProgTransform, bare_prog, bare_transform}
use Rattle.pb_program.specs.WellFormed.{IsTransform}
use Rattle.pb_region.specs.Dims.{HasTransform}
use Rattle.pb_region.proofs.SmallLemmas.{at_place}
use Rattle.pb_matrix.specs.Value.{MatrixValue}
use Rattle.pb_model.specs.Calls.{Outcomes}
use Rattle.pb_model.specs.Cells.{natural}
use Rattle.pb_calls.specs.Given.{AreGiven, HasSides}
use Rattle.pb_check.specs.Accepting.{AcceptedValue, IsAccepted}
use Rattle.pb_check.specs.Orders.{AnalysisValue, IsAnalysis}
use Rattle.pb_check.specs.Ranked.{OfTransform}
use Rattle.pb_entry.specs.Fitting.{AreBound, AreUnfit, given, HasSides as HasSidesGiven}
use Rattle.pb_entry.specs.declared.refusal.RunRefusal.{RunRefusal}
use Rattle.pb_entry.proofs.PairLemmas.{both_at}
use Rattle.pb_frame.proofs.FoundLemmas.{of_these, said_of}
use Rattle.pb_plan.proofs.JobLemmas.{at_map, map_at}
use Rattle.pb_plan.proofs.LinkedLemmas.{at_zip}
use Rattle.pb_links.specs.Links.{link_count}
use Rattle.pb_taskgraph.specs.Graphs.{GraphValue}
use Rattle.pb_taskgraph.specs.Plans.{IsSmall}
use Rattle.pb_taskgraph.specs.declared.limits.TheConstants.{MOST_CELLS, MOST_LINKS, MOST_TASKS}
use Rattle.pb_views.specs.Layouts.{HasShortSides, cell_count}
use Rattle.pb_recursion.specs.Counts.{Counted, all_of, both, instance_count, matrix_of, nothing, run_count}
use Rattle.pb_recursion.specs.Depths.{IsWhole as IsWholeMatrix, sides_of_matrix, sizes_given}
use Rattle.pb_recursion.specs.Shapes.{can_enter, sides_of_decl}
use Rattle.pb_steps.specs.Handed.{AreFew, AreMany, OfRun}
use Rattle.pb_steps.specs.Handed.{counter_at, sized_count}
use Rattle.pb_steps.proofs.Handed.{counted_run}
use Rattle.pb_steps.specs.Handed.{IsEntered}
use Rattle.pb_steps.specs.Handed.{matrices_at, run_matrices}
use Rattle.pb_steps.specs.Handed.{greatest_side, total}
use Rattle.pb_steps.specs.Handed.{Step, places_of}
use Rattle.pb_steps.specs.Handed.{Met, unrolled_run}
use Rattle.pb_steps.proofs.Handed.{total_append}
use Rattle.pb_steps.proofs.Handed.{run_tally}
use Rattle.pb_steps.proofs.Handed.{greatest_append}
use Rattle.pb_run_graph.specs.Handed.{AreTasksOf}
use Rattle.pb_run_graph.specs.Linking.{CanBeLinked, IsTooMany}
use Rattle.pb_run_graph.proofs.EndLemmas.{met_cells}
use Rattle.pb_steps.specs.Runs.{UnrolledValue}
use Rattle.pb_steps.specs.Stands.{AreSeated, AreSteps, met_of}
use Rattle.pb_jobs.proofs.ListLemmas.{all_at, some_same}
use Rattle.pb_run_work.specs.Given.{IsWhole, given_as, outcomes_in}
use Rattle.pb_run_work.specs.Holding.{AreFitted, CanBegin, IsShort}
use Rattle.pb_run_work.specs.Limits.{IsTooLarge, run_steps}
use Rattle.pb_run_work.specs.Running.{IsBegun}
use Rattle.pb_run_work.specs.Unrolled.{IsRefused}
use Rattle.pb_run_work.proofs.HoldLemmas.{all_placed}

-- ---- matrices that are given
fits_small : (z : ℤ) → IsTrue (fits_i64 z) → FitsSigned w64 z
fits_small (pos n) e = grind (arith, nat_tests)
fits_small (negsuc n) e = grind (arith, nat_tests)

pub are_given : (t : ProgTransform) (inputs : List MatrixValue) (sizes : List ℕ) → length inputs ≡ t.inputs → AreBound t inputs sizes → All IsWhole inputs → AreGiven t sizes (given_as inputs)
are_given t inputs sizes count bound whole = record {
  count = length-map inputs outcomes_in ∙ count;
  each = λ m d g at_d at_g.
      let from = map_at outcomes_in inputs m g at_g in
      let sides = all_at (HasSidesGiven sizes) (given t inputs) m (d, from.0) bound.sides (both_at t.matrices inputs m d from.0 at_d from.1) in
      subst (HasSides sizes d) from.2 (record { width = ap natural sides.0; height = ap natural sides.1; all = length-map from.0.cells (λ z. Value z) ∙ (all_at IsWhole inputs m from.0 whole from.1).cells });
}

pub are_small : (inputs : List MatrixValue) → All IsWhole inputs → All (λ (m : Outcomes). All IsSmall m.cells) (given_as inputs)
are_small inputs whole = all_placed (λ (m : Outcomes). All IsSmall m.cells) (given_as inputs) (λ k g at.
    let from = map_at outcomes_in inputs k g at in
    subst (λ (q : Outcomes). All IsSmall q.cells) from.2 (all_placed IsSmall (outcomes_in from.0).cells (λ j o at_o.
    let z = map_at (λ z. Value z) from.0.cells j o at_o in
    subst IsSmall z.2 (fits_small z.0 (all_at (λ z. IsTrue (fits_i64 z)) from.0.cells j z.0 (all_at IsWhole inputs k from.0 whole from.1).small z.1)))))

pub are_whole : (inputs : List MatrixValue) → All IsWhole inputs → All IsWholeMatrix (given_as inputs)
are_whole inputs whole = all_placed IsWholeMatrix (given_as inputs) (λ k g at.
    let from = map_at outcomes_in inputs k g at in
    subst IsWholeMatrix from.2 (length-map from.0.cells (λ z. Value z) ∙ (all_at IsWhole inputs k from.0 whole from.1).cells))

-- ---- sides within their counts
greatest_of : (ms : List Outcomes) (k : ℕ) (m : Outcomes) → slice_get ms k ≡ Some m → (m.width ≤ greatest_side ms) × (m.height ≤ greatest_side ms)
greatest_of [] k m at = absurd (cc)
greatest_of (g ∷ ms) zero m at = let same = some_same g m at in (omega (arith, ap (λ (q : Outcomes). q.width) same), omega (arith, ap (λ (q : Outcomes). q.height) same))
greatest_of (g ∷ ms) (suc k) m at = let rest = greatest_of ms k m at in (omega (arith, rest.0), omega (arith, rest.1))

times_mono : (w a b : ℕ) → a ≤ b → a * w ≤ b * w
times_mono w zero b h = omega arith
times_mono w (suc a) zero h = absurd (omega (arith, h))
times_mono w (suc a) (suc b) h = omega (arith, times_mono w a b (omega (arith, h)))

few_cells : (sizes : List ℕ) (ds : List DeclValue) → All (HasShortSides sizes) ds → cell_count sizes ds ≤ length ds * 2 ^ 44
few_cells sizes [] h = omega arith
few_cells sizes (d ∷ ds) h =
    let here = h 0 d (omega arith) in
    let area = times_mono (natural (exact_value d.h sizes)) (natural (exact_value d.w sizes)) MOST_SIDE here.width in
    omega (arith, area, here.height, few_cells sizes ds (λ k q below. h (suc k) q (omega (arith, below))))

-- what matrices count, by their declarations
abbrev declared : List ℕ → List DeclValue → Counted
declared sizes ds = all_of (map (λ d. matrix_of (sides_of_decl sizes d)) ds)

declared_at : (sizes : List ℕ) (ds : List DeclValue) (k : ℕ) (d : DeclValue) → slice_get ds k ≡ Some d → (natural (exact_value d.w sizes) ≤ (declared sizes ds).side) × (natural (exact_value d.h sizes) ≤ (declared sizes ds).side)
declared_at sizes [] k d at = absurd (cc)
declared_at sizes (z ∷ ds) zero d at =
    let same = some_same z d at in
    (omega (arith, ap (λ (q : DeclValue). natural (exact_value q.w sizes)) same), omega (arith, ap (λ (q : DeclValue). natural (exact_value q.h sizes)) same))
declared_at sizes (z ∷ ds) (suc k) d at = let rest = declared_at sizes ds k d at in (omega (arith, rest.0), omega (arith, rest.1))

sides_split : (sizes : List ℕ) (ds : List DeclValue) (n : ℕ) → (declared sizes ds).side ≡ max (declared sizes (take n ds)).side (declared sizes (drop n ds)).side
sides_split sizes [] zero = omega arith
sides_split sizes [] (suc n) = omega arith
sides_split sizes (d ∷ ds) zero = omega arith
sides_split sizes (d ∷ ds) (suc n) = omega (arith, sides_split sizes ds n)

-- ---- the transform with a number
pub transform_at : (v : AcceptedValue) (t : ℕ) → t < length (bare_prog v.program) → (xs : List TransformValue) → xs ≡ v.program.transforms → (x : TransformValue) → x ≡ get_or xs t x → slice_get v.program.transforms t ≡ Some x
transform_at v t below xs held x is =
    subst (λ (ts : List TransformValue). slice_get ts t ≡ Some x) held (slice_get-get_or xs t x (omega (arith, below, ap length held, length-map v.program.transforms bare_transform)) ∙ ap Some (sym is))

-- there is one with this number of which something is said
pub record IsThere (v : AcceptedValue) (t : ℕ) (P : ProgTransform → Type 0) : Type 0 where
  pub transform : TransformValue
  pub there : slice_get v.program.transforms t ≡ Some transform
  pub is : P (bare_transform transform)

pub there_of : (v : AcceptedValue) (t : ℕ) (P : ProgTransform → Type 0) → HasTransform (bare_prog v.program) t P → IsThere v t P
there_of v t P h = by (slice_get (bare_prog v.program) t) refl h
  where
    by : (o : Option ProgTransform) → slice_get (bare_prog v.program) t ≡ o → IsSomeAnd o P → IsThere v t P
    by None e k = absurd k
    by (Some y) e k =
        let from = map_at bare_transform v.program.transforms t y e in
        record { transform = from.0; there = from.1; is = subst P (sym from.2) k }

pub said : (p : List ProgTransform) (t : ℕ) (x : ProgTransform) → slice_get p t ≡ Some x → (P : ProgTransform → Type 0) → HasTransform p t P → P x
said p t x there P h = subst (λ o. IsSomeAnd o P) there h

module _ (v : AcceptedValue) (accepted : IsAccepted v) (config : ConfigValue) (valid : IsValid (bare_prog v.program) config) (grain depth t : ℕ) (x : TransformValue) (there : slice_get v.program.transforms t ≡ Some x) (inputs : List MatrixValue) (count : length inputs ≡ x.inputs) (whole : All IsWhole inputs) where
  abbrev p : List ProgTransform
  p = bare_prog v.program

  abbrev transform : ProgTransform
  transform = bare_transform x

  abbrev ins : List Outcomes
  ins = given_as inputs

  at : slice_get p t ≡ Some transform
  at = at_map bare_transform v.program.transforms t x there

  analysis : (a : AnalysisValue) × (slice_get v.found t ≡ Some a) × IsAnalysis transform a
  analysis = at_zip IsAnalysis p v.found accepted.found t transform at

  -- what is said of it, whatever is found
  pub of_any : (P : ProgTransform → AnalysisValue → Type 0) → ((a : AnalysisValue) → P transform a) → OfTransform v t P
  of_any P f = of_these v accepted t transform analysis.0 at analysis.1 P (f analysis.0)

  of_this : (P : ProgTransform → AnalysisValue → Type 0) → OfTransform v t P → P transform analysis.0
  of_this P h = said_of v accepted t transform analysis.0 at analysis.1 P h

  -- they don't fit it
  pub is_unfit : (e : RunRefusal) → AreUnfit transform inputs e → IsRefused v config t inputs depth grain e
  is_unfit e unfit = of_any (λ transform found. AreUnfit transform inputs e ⊎ ((sizes : List ℕ) × AreBound transform inputs sizes × IsTooLarge p v.found config grain depth t ins e)) (λ a. inl unfit)

  module _ (s : Sizes) (bound : AreBound transform inputs (sizes_of s)) where
    pub given_is : AreGiven transform (sizes_of s) ins
    given_is = are_given transform inputs (sizes_of s) count bound whole

    pub has_range : OfTransform v t (λ transform found. InRange (leasts_of transform.ranges) (sizes_of s))
    has_range = of_any (λ transform found. InRange (leasts_of transform.ranges) (sizes_of s)) (λ a. bound.range)

    -- a count passes its limit
    is_large : (e : RunRefusal) → IsTooLarge p v.found config grain depth t ins e → IsRefused v config t inputs depth grain e
    is_large e large = of_any (λ transform found. AreUnfit transform inputs e ⊎ ((sizes : List ℕ) × AreBound transform inputs sizes × IsTooLarge p v.found config grain depth t ins e)) (λ a. inr (sizes_of s, bound, large))

    pub are_many : (e : RunRefusal) → OfTransform v t (λ transform found. OfRun p config depth t transform (sizes_of s) (λ n. AreMany n e)) → IsRefused v config t inputs depth grain e
    are_many e many = is_large e (inl (of_this (λ transform found. OfRun p config depth t transform (sizes_of s) (λ n. AreMany n e)) many ins given_is))

    module _ (few : OfTransform v t (λ transform found. OfRun p config depth t transform (sizes_of s) AreFew)) where
      few_is : AreFew (run_count p config depth t (map sides_of_matrix ins))
      few_is = of_this (λ transform found. OfRun p config depth t transform (sizes_of s) AreFew) few ins given_is

      pub too_many : (e : RunRefusal) → IsTooMany (run_steps p v.found config grain depth t ins) e → IsRefused v config t inputs depth grain e
      too_many e many = is_large e (inr (few_is, many))

      module _ (enters : IsTrue (can_enter transform (map sides_of_matrix ins))) where
        entered : IsEntered p v.found config t ins
        entered = record {
          well = accepted.well_formed;
          sound = accepted.sound;
          are_found = accepted.found;
          valid = valid;
          transform = transform;
          there = at;
          whole = are_whole inputs whole;
          enters = enters;
        }

        pub can_begin : CanBegin v config grain depth t ins
        can_begin = record { entered = entered; small = are_small inputs whole; few = few_is }

        fits : IsTransform (length p) transform
        fits = at_place (IsTransform (length p)) p t transform accepted.well_formed.transforms at

        -- its matrices have short sides
        counted_is : sizes_given transform ins ≡ sizes_of s → run_count p config depth t (map sides_of_matrix ins) ≡ both (declared (sizes_of s) (take x.inputs x.matrices)) (instance_count p config (counter_at p config depth) t transform (sizes_of s))
        unfolding sized_count
        counted_is same =
            counted_run p config depth t (length p) transform (sizes_of s) ins at fits same given_is
            ∙ ap (λ o. both (declared (sizes_of s) (take x.inputs x.matrices)) (option_map_or (λ z. instance_count p config (counter_at p config depth) t z (sizes_of s)) o nothing)) at

        short : sizes_given transform ins ≡ sizes_of s → All (HasShortSides (sizes_of s)) x.matrices
        short same = all_placed (HasShortSides (sizes_of s)) x.matrices (λ k d at_k.
            let side = ap (λ (c : Counted). c.side) (counted_is same) in
            let split = sides_split (sizes_of s) x.matrices x.inputs in
            let own = declared_at (sizes_of s) x.matrices k d at_k in
            record { width = omega (arith, side, split, own.0, few_is.side); height = omega (arith, side, split, own.1, few_is.side) })

        pub fitted : sizes_given transform ins ≡ sizes_of s → AreFitted v t inputs s
        fitted same = record {
          transform = x;
          there = there;
          bound = bound;
          given = given_is;
          sizes = same;
          top = in_range_top (leasts_of transform.ranges) s bound.range;
          short = short same;
          cells = omega (arith, few_cells (sizes_of s) x.matrices (short same), fits.few_matrices);
        }

-- ---- what is begun
module _ (v : AcceptedValue) (config : ConfigValue) (grain depth t : ℕ) (inputs : List MatrixValue) (can : CanBegin v config grain depth t (given_as inputs)) where
  abbrev p2 : List ProgTransform
  p2 = bare_prog v.program

  abbrev ms : List Outcomes
  ms = run_matrices p2 v.found config grain depth t (given_as inputs)

  side : greatest_side ms ≤ MOST_SIDE
  side = let is = (run_tally p2 v.found config grain depth t (given_as inputs) can.entered).side in omega (arith, is, can.few.side)

  cells : total ms ≤ MOST_CELLS
  cells = let is = (run_tally p2 v.found config grain depth t (given_as inputs) can.entered).cells in omega (arith, is, can.few.cells)

  pub inputs_few : total (given_as inputs) ≤ MOST_CELLS
  inputs_few = omega (arith, cells, total_append (given_as inputs) (matrices_at p2 v.found config grain depth t (given_as inputs)))

  pub inputs_short : All IsShort inputs
  inputs_short = all_placed IsShort inputs (λ k m at.
      let g = greatest_of (given_as inputs) k (outcomes_in m) (at_map outcomes_in inputs k m at) in
      let both = greatest_append (given_as inputs) (matrices_at p2 v.found config grain depth t (given_as inputs)) in
      record { width = omega (arith, g.0, both, side); height = omega (arith, g.1, both, side) })

  module _ (u : UnrolledValue) (steps : AreSteps p2 v.found u (run_steps p2 v.found config grain depth t (given_as inputs))) (met : met_of u.met ≡ (unrolled_run p2 v.found config grain depth t (map sides_of_matrix (given_as inputs))).next) (seated : AreSeated v config grain u.instances) where
    pub can_link : (n : ℕ) → n ≡ total (given_as inputs) → CanBeLinked v u n
    can_link n is = record {
      config = config;
      grain = grain;
      depth = depth;
      number = t;
      ins = given_as inputs;
      entered = can.entered;
      steps = steps;
      met = met;
      seated = seated;
      side = side;
      cells = cells;
      small = can.small;
      given = is;
    }

    pub is_begun : (g : GraphValue) (n : ℕ) → n ≡ total (given_as inputs) → ((ss : List Step) → AreSteps p2 v.found u ss → AreTasksOf ss g.tasks) → g ≡ record { inputs = n; cells = u.met.cells; tasks = g.tasks }
        → ((ss : List Step) → AreSteps p2 v.found u ss → (length ss ≤ MOST_TASKS) × (link_count (map places_of ss) ≤ MOST_LINKS)) → IsBegun v config grain depth t (given_as inputs) u g
    is_begun g n is tasks graph within = record {
      entered = can.entered;
      small = can.small;
      counts = can.few;
      within = record { side = side; cells = cells; tasks = (within (run_steps p2 v.found config grain depth t (given_as inputs)) steps).0; links = (within (run_steps p2 v.found config grain depth t (given_as inputs)) steps).1 };
      steps = steps;
      met = met;
      seated = seated;
      tasks = tasks (run_steps p2 v.found config grain depth t (given_as inputs)) steps;
      graph = graph ∙ (λ i. record { inputs = is i; cells = met_all i; tasks = g.tasks });
    }
      where
        met_all : u.met.cells ≡ total ms
        met_all = ap (λ (m : Met). m.cells) met ∙ met_cells p2 v.found config grain depth t (given_as inputs) can.entered
