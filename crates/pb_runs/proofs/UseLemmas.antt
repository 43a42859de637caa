-- What a step may read when it makes a cell, and that what it makes is small.
use Rattle.std.proofs.Common.{◌≡◌, ◌∙◌, refl, sym, ap, subst, inl, inr, ◌⊎◌, ⊎_elim, ℕ, zero, suc, ◌+◌, ◌-◌, ◌<◌, ◌≤◌, List, [], ◌∷◌, ◌++◌, length, get_or, map, take, slice_get, Option, Some, None, arith}
use Rattle.std.specs.Prelude.{slice_index_or}
use Rattle.std.specs.List.{All, Contains, flat_map}
use Rattle.std.specs.Option.{option_map_or}
use Rattle.std.proofs.lemmas.Bool.{cases_lt}
use Rattle.std.proofs.lemmas.Option.{slice_get-get_or}
use Rattle.pb_values.specs.declared.outcome.Outcome.{Outcome}
use Rattle.pb_values.specs.declared.shape.TheConstants.{MOST_SIDE}
use Rattle.pb_graph.specs.Ranks.{Rank}
use Rattle.pb_program.specs.Configs.{ConfigValue}
use Rattle.pb_program.specs.Trees.{ProgRule, ProgTransform}
use Rattle.pb_base.proofs.ListLemmas.{at_in, flat_in, in_at, in_none, map_in}
use Rattle.pb_links.specs.declared.places.Spot.{Spot}
use Rattle.pb_links.specs.Links.{predecessors}
use Rattle.pb_model.specs.Calls.{Outcomes, cell_reads, no_outcome, rule_of}
use Rattle.pb_model.specs.Cells.{Cell, IsCell, ReadsCell, reads}
use Rattle.pb_model.specs.Chosen.{chosen_rule}
use Rattle.pb_model.proofs.LawfulLemmas.{in_lawful}
use Rattle.pb_model.proofs.ReadLemmas.{reads_are}
use Rattle.pb_calls.proofs.InsideLemmas.{reads_inside}
use Rattle.pb_check.specs.Orders.{AnalysisValue}
use Rattle.pb_check.specs.Ranked.{HasRank, IsMadeCell, StandsBelow}
use Rattle.pb_check.proofs.FirstLemmas.{some_same}
use Rattle.pb_check.proofs.WaitLemmas.{chosen_falls}
use Rattle.pb_frame.specs.Choices.{IsInstance}
use Rattle.pb_frame.specs.Frames.{JobValue}
use Rattle.pb_taskgraph.specs.Plans.{IsSmall, outcome_at}
use Rattle.pb_plan.specs.Made.{IsMadeBy, jobs_for}
use Rattle.pb_plan.proofs.JobLemmas.{at_map, map_at}
use Rattle.pb_plan.proofs.MadeLemmas.{chosen, made_cell}
use Rattle.pb_views.specs.Layouts.{HasShortSides}
use Rattle.pb_walk.specs.declared.stop.Stop.{Stop}
use Rattle.pb_solution.specs.Solutions.{outcomes_of, stop_cell, stops_of}
use Rattle.pb_solution.proofs.MayLemmas.{taken_at}
use Rattle.pb_solution.proofs.OrderLemmas.{stop_made}
use Rattle.pb_solution.proofs.OutcomeLemmas.{index_at}
use Rattle.pb_solution.proofs.RankLemmas.{stands_before}
use Rattle.pb_solution.proofs.RuleLemmas.{all_mapped, equation_small}
use Rattle.pb_runs.specs.Laws.{IsEntered, MayUse}
use Rattle.pb_runs.specs.Placed.{SpotCell, greatest_side, outcome_of, total}
use Rattle.pb_runs.specs.Right.{no_plans, source_number}
use Rattle.pb_runs.specs.Steps.{Copied, Instance, Step, boxes_of, by_copy, by_job, by_trap, cells_of, copied_stops, number_at, places_of, stop_number}
use Rattle.pb_runs.proofs.BaseLemmas.{total_is}
use Rattle.pb_runs.proofs.BoxLemmas.{inst}
use Rattle.pb_runs.proofs.LinkLemmas.{in_steps, links_go_back, one_step, reads_boxed, reads_linked}
use Rattle.pb_runs.proofs.OriginLemmas.{IsJobOf}
use Rattle.pb_runs.proofs.RunLemmas.{given, made, ms, run, run_each, run_few, run_made, run_only, run_right}
use Rattle.pb_runs.proofs.SoundLemmas.{Cells, IsMade, MadeBefore}
use Rattle.pb_runs.proofs.ViewLemmas.{has_matrix}

-- ---- lists of outcomes
taken_back : {A : Type 0} (xs : List A) (n k : ℕ) (x : A) → slice_get (take n xs) k ≡ Some x → (k < n) × (slice_get xs k ≡ Some x)
taken_back xs zero k x e = absurd (let wrong : None ≡ Some x = e in cc)
taken_back [] (suc n) k x e = absurd (let wrong : None ≡ Some x = e in cc)
taken_back (y ∷ xs) (suc n) zero x e = (omega arith, e)
taken_back (y ∷ xs) (suc n) (suc k) x e = let rest = taken_back xs n k x e in (omega (arith, rest.0), rest.1)

past_first : {A : Type 0} (xs ys : List A) (k : ℕ) (d : A) → slice_index_or (xs ++ ys) (length xs + k) d ≡ slice_index_or ys k d
past_first [] ys k d = ap (λ n. slice_index_or ys n d) (omega arith)
past_first (x ∷ xs) ys k d = let here : suc (length xs) + k ≡ suc (length xs + k) = omega arith in ap (λ n. slice_index_or (x ∷ (xs ++ ys)) n d) here ∙ past_first xs ys k d

in_first : (os later : List Outcome) → All IsSmall os → (c : ℕ) → c < length os → IsSmall (slice_index_or (os ++ later) c no_outcome)
in_first [] later s c low = absurd (omega (arith, low))
in_first (o ∷ os) later s zero low = s 0 o (omega arith)
in_first (o ∷ os) later s (suc c) low = in_first os later (λ k d below. s (suc k) d (omega (arith, below))) c (omega (arith, low))

small_first : (gs later : List Outcomes) → All (λ (m : Outcomes). All IsSmall m.cells) gs → (c : ℕ) → c < total gs → IsSmall (outcome_of (gs ++ later) c)
unfolding outcomes_of outcome_at
small_first [] later s c low = absurd (omega (arith, low))
small_first (g ∷ gs) later s c low = ⊎_elim
    (λ (here : c < length g.cells). in_first g.cells (flat_map (λ (m : Outcomes). m.cells) (gs ++ later)) (s 0 g (omega arith)) c here)
    (λ (past : length g.cells ≤ c).
    let k : ℕ = c - length g.cells in
    let is : c ≡ length g.cells + k = omega (arith, past) in
    subst (λ n. IsSmall (slice_index_or (g.cells ++ flat_map (λ (m : Outcomes). m.cells) (gs ++ later)) n no_outcome)) (sym is)
    (subst IsSmall (sym (past_first g.cells (flat_map (λ (m : Outcomes). m.cells) (gs ++ later)) k no_outcome)) (small_first gs later (λ j d below. s (suc j) d (omega (arith, below))) k (omega (arith, low, is)))))
    (cases_lt c (length g.cells))

module _ (p : List ProgTransform) (found : List AnalysisValue) (config : ConfigValue) (grain depth number : ℕ) (ins : List Outcomes) (h : IsEntered p found config number ins) where
  abbrev steps : List Step
  steps = (run p found config grain depth number ins h).steps

  abbrev all : List Outcomes
  all = ms p found config grain depth number ins h

  abbrev Known : ℕ → Cells
  Known k c = given p found config grain depth number ins h c ⊎ MadeBefore config all steps k c

  abbrev May : ℕ → ℕ → ℕ → Type 0
  May k done c = MayUse ins steps k done c

  -- what is known before a step, the step doesn't make
  never_own : (k : ℕ) (s : Step) → slice_get steps k ≡ Some s → (c : ℕ) → Known k c → Contains (cells_of s) c → ⊥
  never_own k s e c (inl low) own = let past = (run_only p found config grain depth number ins h c (in_steps steps k s e c own)).0 in omega (arith, low, past)
  never_own k s e c (inr m) own =
      let same = one_step steps c (run_few p found config grain depth number ins h c) m.0 k m.1 s m.3 e m.4 own in
      omega (arith, same, m.2)

  use_known : (k : ℕ) (s : Step) → slice_get steps k ≡ Some s → (b : Spot) → Contains (boxes_of s) b → (done c : ℕ) → SpotCell all b c → Known k c → May k done c
  use_known k s e b there done c cell known = by (reads_linked p found config grain depth number ins h k s e b there c cell)
    where
      by : (c < total ins) ⊎ ((u : ℕ) × (r : Step) × ((u ≡ k) ⊎ Contains (predecessors (map places_of steps) k) u) × (slice_get steps u ≡ Some r) × Contains (cells_of r) c) → May k done c
      by (inl low) = inl low
      by (inr m) = which m.2
        where
          which : (m.0 ≡ k) ⊎ Contains (predecessors (map places_of steps) k) m.0 → May k done c
          which (inl same) = absurd (never_own k s e c known (subst (λ (r : Step). Contains (cells_of r) c) (some_same m.1 s (sym m.3 ∙ ap (slice_get steps) same ∙ e)) m.4))
          which (inr waits) = inr (inl (m.0, m.1, waits, m.3, m.4))

  -- ---- a copy
  pub copied_use : (k : ℕ) (i : Instance) (c : Copied) → slice_get steps k ≡ Some (by_copy i c) → (s : Stop) → Contains (copied_stops i c) s → May k 0 (source_number c s)
  copied_use k i c e s there =
      let b = reads_boxed p found config grain depth number ins h k (by_copy i c) e (source_number c s) (s, there, refl) in
      ⊎_elim
      (λ known. use_known k (by_copy i c) e b.0 b.1 0 (source_number c s) b.2 known)
      (λ own. absurd own.0)
      ((run_made p found config grain depth number ins h k (by_copy i c) e).reads b.0 b.1 (source_number c s) b.2)

  -- ---- a job
  module _ (k : ℕ) (i : Instance) (job : JobValue) (e : slice_get steps k ≡ Some (by_job i job)) where
    abbrev is_made : IsMade config all (Known k) (by_job i job)
    is_made = run_made p found config grain depth number ins h k (by_job i job) e

    abbrev pub origin : IsJobOf config all i job
    origin = is_made.from

    abbrev t : ProgTransform
    t = i.transform

    abbrev pub instance : IsInstance i.number t i.found i.sizes
    instance = inst config origin.program i origin.grain origin.at

    abbrev stops : List Stop
    stops = stops_of i.found.nodes i.found.order.layers job

    abbrev jobs : List JobValue
    jobs = jobs_for config i.number t i.found i.sizes origin.grain

    pub of_job : (s : Stop) → Contains stops s → IsMadeBy jobs i.found.nodes (stop_cell s) origin.place s.piece
    of_job s there = stop_made config i.number t i.found i.sizes origin.grain instance origin.at.valid origin.place job origin.there s there

    pub of_made : (s : Stop) → Contains stops s → IsMadeCell t i.sizes (stop_cell s)
    of_made s there = made_cell config i.number t i.found i.sizes origin.grain instance (stop_cell s) origin.place s.piece (of_job s there)

    -- what the chosen rule of a stop's cell reads
    module _ (n : ℕ) (s : Stop) (at : slice_get stops n ≡ Some s) (d : Cell) (reading : Contains (cell_reads config no_plans i.number t i.sizes (stop_cell s)) d) where
      abbrev c : Cell
      c = stop_cell s

      there : Contains stops s
      there = in_at stops n s at

      read_by : (rule : ProgRule) × (slice_get t.rules (chosen_rule config i.number t i.sizes c) ≡ Some rule) × ReadsCell t.matrices i.sizes c rule d
      unfolding cell_reads
      read_by = by (rule_of config no_plans i.number t i.sizes c) refl reading
        where
          by : (o : Option ProgRule) → rule_of config no_plans i.number t i.sizes c ≡ o → Contains (option_map_or (reads t.matrices i.sizes c) o []) d → (rule : ProgRule) × (slice_get t.rules (chosen_rule config i.number t i.sizes c) ≡ Some rule) × ReadsCell t.matrices i.sizes c rule d
          by None e none = absurd (in_none d none)
          by (Some r) e some = (r, e, (reads_are t.matrices i.sizes c d r).0 some)

      pub read_cell : IsCell t i.sizes d
      read_cell =
          reads_inside origin.program i.number t i.sizes origin.at.well origin.at.sound origin.at.there c (chosen_rule config i.number t i.sizes c) read_by.0 (of_made s there).cell
          (in_lawful t i.sizes c (chosen_rule config i.number t i.sizes c) (chosen config i.number t i.found i.sizes origin.grain instance origin.at.valid c (of_made s there))) read_by.1 d read_by.2

      box : (b : Spot) × Contains (boxes_of (by_job i job)) b × SpotCell all b (number_at i d)
      box = reads_boxed p found config grain depth number ins h k (by_job i job) e (number_at i d) (s, there, d, reading, refl)

      -- a cell of the job itself stands before
      own_before : job.rule ≡ None → Contains (cells_of (by_job i job)) (number_at i d) → Contains (take n (cells_of (by_job i job))) (number_at i d)
      unfolding cells_of
      own_before none own =
          let r = map_in (stop_number i) stops (number_at i d) own in
          ⊎_elim
          (λ (low : d.matrix < t.inputs). absurd (never_own k (by_job i job) e (number_at i d) (is_made.given d read_cell low) own))
          (λ (high : t.inputs ≤ d.matrix).
          let own_cell : IsMadeCell t i.sizes d = record { cell = read_cell; made = high } in
          let same : stop_cell r.0 ≡ d = origin.once (stop_cell r.0) d (of_made r.0 r.1) own_cell r.2 in
          let m : IsMadeBy jobs i.found.nodes d origin.place r.0.piece = subst (λ (q : Cell). IsMadeBy jobs i.found.nodes q origin.place r.0.piece) same (of_job r.0 r.1) in
          let lower : (rank : Rank) → HasRank t i.found i.sizes c rank → StandsBelow t i.found i.sizes rank d = λ rank has. chosen_falls origin.program i.number t i.found i.sizes config origin.at.well origin.at.sound origin.at.there origin.at.found origin.at.valid c read_by.0 (of_made s there) read_by.1 rank d has read_by.2 own_cell in
          let before = stands_before config i.number t i.found i.sizes origin.grain instance origin.at.valid origin.place job origin.there n s at d r.0.piece m none lower in
          in_at (take n (map (stop_number i) stops)) before.0 (number_at i d) (taken_at (map (stop_number i) stops) n before.0 (number_at i d) before.1 (at_map (stop_number i) stops before.0 (record { piece = r.0.piece; base = d.matrix; x = d.x; y = d.y }) before.2)))
          (cases_lt d.matrix t.inputs)

      pub job_use : (done : ℕ) → (job.rule ≡ None → done ≡ n) → May k done (number_at i d)
      job_use done when = ⊎_elim
          (λ known. use_known k (by_job i job) e box.0 box.1 done (number_at i d) box.2 known)
          (λ own. inr (inr (by_job i job, e, subst (λ q. Contains (take q (cells_of (by_job i job))) (number_at i d)) (sym (when own.0)) (own_before own.0 own.1))))
          (is_made.reads box.0 box.1 (number_at i d) box.2)

  -- ---- what a run makes is small
  module _ (few : greatest_side all ≤ MOST_SIDE) (small : All (λ (m : Outcomes). All IsSmall m.cells) ins) where
    abbrev Small : ℕ → Type 0
    Small c = IsSmall (outcome_of all c)

    given_small : (c : ℕ) → c < total ins → Small c
    given_small c low = small_first ins (made p found config grain depth number ins h) small c low

    -- a matrix of an instance is short
    short_of : (k : ℕ) (i : Instance) (job : JobValue) → slice_get steps k ≡ Some (by_job i job) → All (HasShortSides i.sizes) i.transform.matrices
    short_of k i job e m d below =
        let o = origin k i job e in
        let decl = get_or i.transform.matrices m d in
        let placed = has_matrix all i o.matrices o.local m decl (slice_get-get_or i.transform.matrices m d below) in
        record { width = omega (arith, placed.sides.width, placed.placed.wide, few); height = omega (arith, placed.sides.height, placed.placed.tall, few) }

    abbrev Earlier : ℕ → Type 0
    Earlier k = (u : ℕ) (s : Step) → u < k → slice_get steps u ≡ Some s → (c : ℕ) → Contains (cells_of s) c → Small c

    -- what may be used is small, where the step's own cells are so far
    used_small : (k done c : ℕ) → Earlier k → ((s : Step) → slice_get steps k ≡ Some s → Contains (take done (cells_of s)) c → Small c) → May k done c → Small c
    used_small k done c earlier own (inl low) = given_small c low
    used_small k done c earlier own (inr (inl m)) = earlier m.0 m.1 (links_go_back p found config grain depth number ins h k m.0 m.2) m.3 c m.4
    used_small k done c earlier own (inr (inr m)) = own m.0 m.1 m.2

    -- stop by stop
    job_small : (k : ℕ) (i : Instance) (job : JobValue) (e : slice_get steps k ≡ Some (by_job i job)) → Earlier k → (n q : ℕ) (s : Stop) → q < n → slice_get (stops_of i.found.nodes i.found.order.layers job) q ≡ Some s → Small (stop_number i s)
    unfolding cells_of
    job_small k i job e earlier zero q s less at = absurd (omega (arith, less))
    job_small k i job e earlier (suc n) q s less at =
        let list = stops_of i.found.nodes i.found.order.layers job in
        let there = in_at list q s at in
        let read = cell_reads config no_plans i.number i.transform i.sizes (stop_cell s) in
        subst IsSmall (sym (run_right p found config grain depth number ins h k (by_job i job) e s there))
        (equation_small config no_plans i.number i.transform i.found i.sizes (origin k i job e).grain (instance k i job e) (origin k i job e).at.valid (short_of k i job e) (stop_cell s) (of_made k i job e s there) (λ r is. (origin k i job e).computes s there r is)
        (map (λ d. outcome_of all (number_at i d)) read)
        (all_mapped IsSmall (λ d. outcome_of all (number_at i d)) read (λ d reading.
        used_small k q (number_at i d) earlier
        (λ r at_r own.
        let same : r ≡ by_job i job = some_same r (by_job i job) (sym at_r ∙ e) in
        let m = at_in (take q (map (stop_number i) list)) (number_at i d) (subst (λ z. Contains (take q (cells_of z)) (number_at i d)) same own) in
        let back = taken_back (map (stop_number i) list) q m.0 (number_at i d) m.1 in
        let stop = map_at (stop_number i) list m.0 (number_at i d) back.1 in
        subst Small stop.2 (job_small k i job e earlier n m.0 stop.0 (omega (arith, back.0, less)) stop.1))
        (job_use k i job e q s at d reading q (λ none. refl)))))

    step_small : (k : ℕ) (s : Step) → slice_get steps k ≡ Some s → Earlier k → (c : ℕ) → Contains (cells_of s) c → Small c
    unfolding cells_of
    step_small k (by_job i job) e earlier c own =
        let list = stops_of i.found.nodes i.found.order.layers job in
        let r = map_in (stop_number i) list c own in
        let n = at_in list r.0 r.1 in
        subst Small r.2 (job_small k i job e earlier (suc n.0) n.0 r.0 (omega arith) n.1)
    step_small k (by_copy i copied) e earlier c own =
        let r = map_in (stop_number i) (copied_stops i copied) c own in
        subst Small r.2 (subst IsSmall (sym (run_right p found config grain depth number ins h k (by_copy i copied) e r.0 r.1))
        (used_small k 0 (source_number copied r.0) earlier (λ s at none. absurd (in_none (source_number copied r.0) none)) (copied_use k i copied e r.0 r.1)))
    step_small k (by_trap f) e earlier c own =
        subst IsSmall (sym (run_right p found config grain depth number ins h k (by_trap f) e c own)) ((run_made p found config grain depth number ins h k (by_trap f) e).from few)

    steps_small : (k : ℕ) → Earlier k
    steps_small zero u s less e c own = absurd (omega (arith, less))
    steps_small (suc k) u s less e c own = step_small u s e (λ v r below. steps_small k v r (omega (arith, below, less))) c own

    cell_small : (c : ℕ) → c < total all → Small c
    cell_small c high = ⊎_elim
        (λ (low : c < total ins). given_small c low)
        (λ (past : total ins ≤ c).
        let f = flat_in cells_of steps c (run_each p found config grain depth number ins h c past high) in
        let k = at_in steps f.0 f.1 in
        steps_small (suc k.0) k.0 f.0 (omega arith) k.1 c f.2)
        (cases_lt c (total ins))

    pub outcomes_small : All IsSmall (outcomes_of all)
    unfolding outcome_at
    outcomes_small k d below =
        subst IsSmall (index_at (outcomes_of all) k (get_or (outcomes_of all) k d) no_outcome (slice_get-get_or (outcomes_of all) k d below)) (is_at k (omega (arith, below, total_is all)))
      where
        is_at : (k : ℕ) → k < total all → IsSmall (slice_index_or (outcomes_of all) k no_outcome)
        is_at k low = cell_small k low
