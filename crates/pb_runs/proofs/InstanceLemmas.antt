-- A call of a transform is unrolled to what it means, if the calls below it are.
use Rattle.std.proofs.Common.{◌≡◌, ◌∙◌, refl, sym, ap, subst, ℕ, zero, suc, ◌+◌, ◌*◌, ◌<◌, pos, true, List, [], ◌∷◌, ◌++◌, drop, get_or, length, map, slice_get, Option, Some, None, arith}
use Rattle.std.specs.List.{All, AllZip, Contains, flat_map, range_with_len}
use Rattle.std.proofs.lemmas.List.{length-map}
use Rattle.pb_linear.specs.Numbers.{exact_value}
use Rattle.pb_program.specs.Configs.{ConfigValue, IsValid}
use Rattle.pb_program.specs.Forms.{DeclValue}
use Rattle.pb_program.specs.Trees.{ProgTransform}
use Rattle.pb_program.specs.WellFormed.{IsWellFormed}
use Rattle.pb_base.proofs.ListLemmas.{at_in, flat_in, in_at, in_flat, map_in}
use Rattle.pb_model.specs.Calls.{IsSettled, Outcomes, Plans, cell_outcome, call_of, made_from, matrix_cells}
use Rattle.pb_model.specs.Cells.{Cell, IsCell, natural}
use Rattle.pb_calls.specs.Given.{AreGiven}
use Rattle.pb_check.specs.Orders.{AnalysisValue, IsAnalysis}
use Rattle.pb_check.specs.Phases.{IsSound}
use Rattle.pb_check.specs.Ranked.{IsMadeCell}
use Rattle.pb_frame.specs.Frames.{JobValue}
use Rattle.pb_plan.specs.Made.{IsMadeBy}
use Rattle.pb_plan.proofs.MadeLemmas.{made_by, made_cell, made_once}
use Rattle.pb_plan.proofs.OnceLemmas.{Once, once_flat}
use Rattle.pb_solution.specs.Solutions.{stop_cell, stops_of}
use Rattle.pb_solution.proofs.OrderLemmas.{stop_made}
use Rattle.pb_solution.proofs.OutcomeLemmas.{AreSided, get_left, index_at, matrix_is, rows_count, sides_are}
use Rattle.pb_recursion.specs.Counts.{Counted, Counter, all_of, both, chosen_plans, instance_count, matrix_of, plan_count}
use Rattle.pb_recursion.specs.Depths.{IsWhole, call_at, deeper_at, plans_at, plans_over, sides_of_matrix, sizes_given}
use Rattle.pb_recursion.specs.Shapes.{can_enter, sides_of_decl, sizes_from}
use Rattle.pb_recursion.proofs.DepthLemmas.{call_is, depth_settled, inputs_there}
use Rattle.pb_recursion.proofs.ShapeLemmas.{entered_given, entered_range}
use Rattle.pb_runs.specs.Matrices.{Below, below_at, call_below, jobs_matrices, matrices_by}
use Rattle.pb_views.specs.declared.seat.Seat.{Seat}
use Rattle.pb_views.specs.Seats.{no_seat, sides_of_seat}
use Rattle.pb_runs.specs.Steps.{Instance, number_at, seat_in, stop_number}
use Rattle.pb_runs.specs.Unrolled.{Met, Unroll, after_call, after_matrices, instance_of, jobs_done, own_sides, seats_from, unrolled_at}
use Rattle.pb_runs.proofs.BaseLemmas.{HaveSides, Reaches, Stands, reaches_both, stands_left, stands_right, total_append}
use Rattle.pb_runs.proofs.BoxLemmas.{IsSituated, inst, jobs}
use Rattle.pb_runs.proofs.CalledLemmas.{AreDeeper, AreNatural}
use Rattle.pb_runs.proofs.CopyLemmas.{own_once as job_once}
use Rattle.pb_runs.proofs.CountLemmas.{counted, counted_row, counted_same, in_row, row_in, row_once}
use Rattle.pb_runs.proofs.ChosenLemmas.{plans_tally}
use Rattle.pb_runs.proofs.FailedLemmas.{seats_placed, seats_reach, seats_tally, seats_within}
use Rattle.pb_runs.proofs.FoldLemmas.{jobs_are_done}
use Rattle.pb_runs.specs.Tallied.{job_tally}
use Rattle.pb_runs.proofs.JobLemmas.{IsKnown, made_own, own_cells}
use Rattle.pb_runs.proofs.OwnLemmas.{own_in_row, own_once, row_own, side_below}
use Rattle.pb_runs.proofs.PlanLemmas.{IsDone}
use Rattle.pb_runs.proofs.SeatLemmas.{HasCell}
use Rattle.pb_runs.proofs.SoundLemmas.{Cells, IsDeep}
use Rattle.pb_runs.proofs.TallyLemmas.{Tallies, tallies_both}
use Rattle.pb_runs.proofs.ViewLemmas.{IsLocal, has_matrix, zip_at}
use Rattle.pb_runs.specs.Placed.{IsPlaced, total}
use Rattle.pb_check.proofs.FirstLemmas.{some_at}

-- ---- lists
zip_append : {A B : Type 0} (R : A → B → Type 0) (xs us : List A) (ys vs : List B) → AllZip R xs ys → AllZip R us vs → AllZip R (xs ++ us) (ys ++ vs)
zip_append R [] us [] vs h k = k
zip_append R [] us (y ∷ ys) vs h k = absurd h
zip_append R (x ∷ xs) us [] vs h k = absurd h
zip_append R (x ∷ xs) us (y ∷ ys) vs h k = (h.0, zip_append R xs us ys vs h.1 k)

zip_length : {A B : Type 0} (R : A → B → Type 0) (xs : List A) (ys : List B) → AllZip R xs ys → length xs ≡ length ys
zip_length R [] [] h = refl
zip_length R [] (y ∷ ys) h = absurd h
zip_length R (x ∷ xs) [] h = absurd h
zip_length R (x ∷ xs) (y ∷ ys) h = ap suc (zip_length R xs ys h.1)

module _ (ms : List Outcomes) where
  -- placed matrices have the sides of their seats, and all their cells
  sides_same : (given : List Seat) (ins : List Outcomes) → AllZip (IsPlaced ms) given ins → map sides_of_seat given ≡ map sides_of_matrix ins
  sides_same [] [] h = refl
  sides_same [] (m ∷ ins) h = absurd h
  sides_same (s ∷ given) [] h = absurd h
  sides_same (s ∷ given) (m ∷ ins) h = λ k. (pos (sym h.0.width k), pos (sym h.0.height k)) ∷ sides_same given ins h.1 k

  all_whole : (given : List Seat) (ins : List Outcomes) → AllZip (IsPlaced ms) given ins → All IsWhole ins
  all_whole given ins h k d below =
      let g = some_at ins k below in
      let s = zip_at (IsPlaced ms) given ins k g.0 h g.1 in
      subst IsWhole (sym (get_is ins k d g.0 g.1)) s.2.whole
    where
      get_is : (xs : List Outcomes) (k : ℕ) (d x : Outcomes) → slice_get xs k ≡ Some x → get_or xs k d ≡ x
      get_is [] k d x e = absurd (let wrong : None ≡ Some x = e in cc)
      get_is (y ∷ xs) zero d x e = let some : Some y ≡ Some x = e in cc
      get_is (y ∷ xs) (suc k) d x e = get_is xs k d x e

  -- what a call makes has the sides of its declarations
  made_sides : (config : ConfigValue) (plans : Plans) (number : ℕ) (t : ProgTransform) (sizes : List ℕ) (ins : List Outcomes) (m : ℕ) (ds : List DeclValue) → HaveSides (map (sides_of_decl sizes) ds) (made_from config plans number t sizes ins m ds)
  made_sides config plans number t sizes ins m [] = tt
  made_sides config plans number t sizes ins m (d ∷ ds) = ((refl, refl, whole), made_sides config plans number t sizes ins (m + 1) ds)
    where
      cell : ℕ → ℕ → Cell
      cell x y = record { matrix = m; x = x; y = y }

      swap : (a b : ℕ) → b * a ≡ a * b
      swap a b = grind arith

      whole : length (map (cell_outcome config plans number t sizes ins) (matrix_cells sizes m d)) ≡ natural (exact_value d.w sizes) * natural (exact_value d.h sizes)
      whole = length-map (matrix_cells sizes m d) (cell_outcome config plans number t sizes ins) ∙ ap length (matrix_is sizes m d) ∙ rows_count (λ x y. record { matrix = m; x = x; y = y }) (natural (exact_value d.w sizes)) 0 (natural (exact_value d.h sizes)) ∙ swap (natural (exact_value d.w sizes)) (natural (exact_value d.h sizes))

  call_sides : (config : ConfigValue) (plans : Plans) (number : ℕ) (t : ProgTransform) (sizes : List ℕ) (ins : List Outcomes) → HaveSides (own_sides t sizes) (call_of config plans number t sizes ins)
  unfolding call_of
  call_sides config plans number t sizes ins = made_sides config plans number t sizes ins t.inputs (drop t.inputs t.matrices)

below_call : (p : List ProgTransform) (found : List AnalysisValue) (config : ConfigValue) (grain d : ℕ) → call_below (below_at p found config grain d) ≡ deeper_at p config d
below_call p found config grain zero = refl
below_call p found config grain (suc d) = refl

module _ (config : ConfigValue) (ms : List Outcomes) (p : List ProgTransform) (found : List AnalysisValue) (grain : ℕ) (well : IsWellFormed p) (sound : IsSound p) (valid : IsValid p config) (d : ℕ) (deeper : Option Unroll) (counter : Option Counter) (are_deeper : AreDeeper config ms p deeper (below_at p found config grain d) counter) (naturals : AreNatural config ms p)
    (number : ℕ) (t : ProgTransform) (a : AnalysisValue) (there : slice_get p number ≡ Some t) (analysis : IsAnalysis t a) (known : Cells) (n : Met) (given : List Seat) (ins : List Outcomes) (placed : AllZip (IsPlaced ms) given ins) (enters : can_enter t (map sides_of_matrix ins) ≡ true)
    (cells_known : (s : Seat) → Contains given s → (c : ℕ) → HasCell s c → known c) where
  abbrev sizes : List ℕ
  sizes = sizes_given t ins

  abbrev plans : Plans
  plans = plans_at p config d number t sizes

  abbrev below : Option Below
  below = below_at p found config grain d

  abbrev own : List Outcomes
  own = call_at p config d number ins

  abbrev lm : List Outcomes
  lm = ins ++ own

  abbrev i : Instance
  i = instance_of number t a sizes given n

  abbrev first : Met
  first = after_call n

  at : IsSituated config p i
  at = record { well = well; sound = sound; valid = valid; there = there; found = analysis; range = entered_range t ins enters }

  whole : All IsWhole ins
  whole = all_whole ms given ins placed

  given_is : AreGiven t sizes ins
  given_is = entered_given t ins enters (inputs_there p number t well there) whole

  own_is : own ≡ call_of config plans number t sizes ins
  own_is = call_is p config d number t ins there

  pub own_have : HaveSides (own_sides t sizes) own
  own_have = subst (HaveSides (own_sides t sizes)) (sym own_is) (call_sides ms config plans number t sizes ins)

  sided : AreSided sizes t.matrices lm
  sided = subst (λ l. AreSided sizes t.matrices (ins ++ l)) (sym own_is) (sides_are config plans number t sizes ins given_is (inputs_there p number t well there))

  settled : IsSettled config (plans_over p (call_below below) number t sizes) number t sizes lm
  settled = subst (λ c. IsSettled config (plans_over p c number t sizes) number t sizes lm) (sym (below_call p found config grain d)) (depth_settled p config d number t a ins well sound valid there analysis whole enters)

  count : length given ≡ t.inputs
  count = zip_length (IsPlaced ms) given ins placed ∙ given_is.count

  module _ (stands : Stands ms n (matrices_by p found config grain d below number ins t a)) where
    abbrev all_jobs : List JobValue
    all_jobs = jobs config p i grain at

    abbrev deep_mats : List Outcomes
    deep_mats = jobs_matrices p number t sizes below lm all_jobs

    stands_first : Stands ms first (own ++ deep_mats)
    stands_first = record { at = stands.at; cells = stands.cells }

    stands_own : Stands ms first own
    stands_own = stands_left ms first own deep_mats stands_first

    own_placed : AllZip (IsPlaced ms) (seats_from first (own_sides t sizes)) own
    own_placed = seats_placed ms first (own_sides t sizes) own own_have stands_own

    local : IsLocal ms i lm
    local = record { count = sided.count; seats = zip_append (IsPlaced ms) given (seats_from first (own_sides t sizes)) ins own placed own_placed; sides = sided.each }

    once : (c e : Cell) → IsMadeCell t sizes c → IsMadeCell t sizes e → number_at i c ≡ number_at i e → c ≡ e
    once c e made_c made_e same = own_once ms i given first own refl count own_have lm local c e made_c made_e same

    abbrev own_reach : Reaches ms first own (after_matrices first (own_sides t sizes))
    own_reach = seats_reach ms first (own_sides t sizes) own own_have

    -- what is given is known
    given_known : (c : Cell) → IsCell t sizes c → c.matrix < t.inputs → known (number_at i c)
    given_known c cell low =
        let h = has_matrix ms i lm local c.matrix cell.decl cell.there in
        let below_given : c.matrix < length given = omega (arith, low, count) in
        let s = some_at given c.matrix below_given in
        let seat : seat_in i c.matrix ≡ s.0 = index_at i.seats c.matrix s.0 no_seat (get_left given (seats_from first (own_sides t sizes)) c.matrix below_given ∙ s.1) in
        let on_x = side_below (exact_value cell.decl.w sizes) c.x cell.before_x in
        let on_y = side_below (exact_value cell.decl.h sizes) c.y cell.before_y in
        cells_known s.0 (in_at given c.matrix s.0 s.1) (number_at i c) (subst (λ q. HasCell q (number_at i c)) seat (c.x, c.y, omega (arith, on_x, h.sides.width, h.placed.width), omega (arith, on_y, h.sides.height, h.placed.height), refl))

    first_known : IsKnown config ms p i grain at (plans_over p (call_below below) number t sizes) lm local known 0
    first_known = record { given = given_known; before = λ u job less at_u c own. absurd (omega (arith, less)) }

    -- ---- the own cells of all jobs
    of_job : (j : ℕ) (job : JobValue) → slice_get all_jobs j ≡ Some job → (c : ℕ) → Contains (own_cells i job) c → (q : Cell) × (l : ℕ) × IsMadeBy all_jobs a.nodes q j l × (number_at i q ≡ c)
    of_job j job e c h =
        let s = map_in (stop_number i) (stops_of a.nodes a.order.layers job) c h in
        (stop_cell s.0, s.0.piece, stop_made config number t a sizes grain (inst config p i grain at) valid j job e s.0 s.1, s.2)

    jobs_once : Once (flat_map (own_cells i) all_jobs)
    jobs_once = once_flat (own_cells i) all_jobs (λ j job e. job_once config ms p i grain at (call_below below) lm local settled once j job e) (λ j l x y c at_j at_l in_x in_y.
        let q = of_job j x at_j c in_x in
        let r = of_job l y at_l c in_y in
        let made_q = made_cell config number t a sizes grain (inst config p i grain at) q.0 j q.1 q.2 in
        let made_r = made_cell config number t a sizes grain (inst config p i grain at) r.0 l r.1 r.2 in
        let same = once q.0 r.0 made_q made_r (q.3 ∙ sym r.3) in
        (made_once config number t a sizes grain (inst config p i grain at) r.0 j q.1 l r.1 (subst (λ z. IsMadeBy all_jobs a.nodes z j q.1) same q.2) r.2).0)

    jobs_count : (c : ℕ) → counted c (flat_map (own_cells i) all_jobs) ≡ counted c (range_with_len n.cells (total own))
    jobs_count c = counted_same c (flat_map (own_cells i) all_jobs) (range_with_len n.cells (total own)) jobs_once (row_once n.cells (total own))
        (λ h.
        let o = flat_in (own_cells i) all_jobs c h in
        let k = at_in all_jobs o.0 o.1 in
        let q = of_job k.0 o.0 k.1 c o.2 in
        subst (Contains (range_with_len n.cells (total own))) q.3 (own_in_row ms i given first own refl count own_have q.0 (made_cell config number t a sizes grain (inst config p i grain at) q.0 k.0 q.1 q.2)))
        (λ h.
        let row = in_row c n.cells (total own) h in
        let q = row_own ms i given first own refl count own_have at.range c row.0 row.1 in
        let m = made_by config number t a sizes grain (inst config p i grain at) valid q.0 q.1 in
        in_flat (own_cells i) all_jobs m.2.job c (in_at all_jobs m.0 m.2.job m.2.is) (subst (Contains (own_cells i m.2.job)) q.2 (made_own config ms p i grain at (plans_over p (call_below below) number t sizes) lm local m.0 m.1 q.0 m.2)))

    -- ---- the call
    abbrev n2 : Met
    n2 = after_matrices first (own_sides t sizes)

    all_done : IsDone config ms known n2 (jobs_done p deeper i all_jobs n2) (flat_map (own_cells i) all_jobs) deep_mats (all_of (map (λ (job : JobValue). job_tally p t sizes counter job.rule) all_jobs))
    all_done = jobs_are_done config ms p i grain at deeper below counter lm local settled once are_deeper naturals all_jobs 0 known n2 (λ k job e. ap (slice_get all_jobs) (number_is k) ∙ e) first_known (stands_right ms first n2 own deep_mats stands_first own_reach)
      where
        number_is : (k : ℕ) → 0 + k ≡ k
        number_is k = omega arith

    pub instance_deep : IsDeep config ms known n (unrolled_at p found config grain deeper number t a sizes given n) (matrices_by p found config grain d below number ins t a) own
    instance_deep =
        let done = all_done in
        record {
          placed = own_placed;
          within = λ s h c has. (let row = in_row c n.cells (total own) (seats_within ms first (own_sides t sizes) own own_have s h c has) in let sum = total_append own deep_mats in row_in c n.cells (total (own ++ deep_mats)) row.0 (omega (arith, row.1, sum)));
          sound = done.sound;
          counts = λ c.
              let here = done.counts c in
              let mine = jobs_count c in
              let start = ap (λ m. counted c (range_with_len m (total deep_mats))) own_reach.cells in
              let split = counted_row c n.cells (total own) (total deep_mats) in
              let sum = ap (λ m. counted c (range_with_len n.cells m)) (total_append own deep_mats) in
              omega (arith, here, mine, start, split, sum);
          reaches = (let r = reaches_both ms first n2 (jobs_done p deeper i all_jobs n2).next own deep_mats own_reach done.reaches in record { matrices = r.matrices; cells = r.cells });
        }

    -- it counts for itself, for its own matrices, and for its plans
    pub instance_tally : Tallies n (unrolled_at p found config grain deeper number t a sizes given n).next (matrices_by p found config grain d below number ins t a) (instance_count p config counter number t sizes)
    instance_tally =
        let mine = all_of (map matrix_of (own_sides t sizes)) in
        let jobs_tally = all_of (map (λ (job : JobValue). job_tally p t sizes counter job.rule) all_jobs) in
        let sum = tallies_both first n2 (jobs_done p deeper i all_jobs n2).next own deep_mats mine jobs_tally (seats_tally first (own_sides t sizes) own own_have) all_done.tally in
        let plans_are : jobs_tally ≡ all_of (map (plan_count p t sizes counter) (chosen_plans config number t sizes)) = plans_tally config p i grain at counter in
        let own_are : mine ≡ all_of (map (λ d. matrix_of (sides_of_decl sizes d)) (drop t.inputs t.matrices)) = ap all_of (map_map (drop t.inputs t.matrices)) in
        let whole_are : both mine jobs_tally ≡ both (all_of (map (λ d. matrix_of (sides_of_decl sizes d)) (drop t.inputs t.matrices))) (all_of (map (plan_count p t sizes counter) (chosen_plans config number t sizes))) = (λ z. both (own_are z) (plans_are z)) in
        let calls = ap (λ (c : Counted). c.calls) whole_are in
        let side = ap (λ (c : Counted). c.side) whole_are in
        let cells = ap (λ (c : Counted). c.cells) whole_are in
        record {
          calls = omega (arith, sum.calls, calls);
          side = omega (arith, sum.side, side);
          cells = omega (arith, sum.cells, cells);
        }
      where
        map_map : (ds : List DeclValue) → map matrix_of (map (sides_of_decl sizes) ds) ≡ map (λ d. matrix_of (sides_of_decl sizes d)) ds
        map_map [] = refl
        map_map (e ∷ ds) = ap (λ l. matrix_of (sides_of_decl sizes e) ∷ l) (map_map ds)

  pub sizes_same : sizes_from t (map sides_of_seat given) ≡ sizes_given t ins
  sizes_same = ap (sizes_from t) (sides_same ms given ins placed)
