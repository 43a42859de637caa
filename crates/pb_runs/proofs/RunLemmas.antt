-- Calls at each depth, and whole runs, are unrolled to what they mean.
use Rattle.std.proofs.Common.{◌≡◌, ◌∙◌, refl, sym, ap, subst, inl, inr, ◌⊎◌, ⊎_elim, ℕ, zero, suc, ◌+◌, ◌<◌, ◌≤◌, List, [], ◌∷◌, ◌++◌, length, map, take, slice_get, Option, Some, None, arith}
use Rattle.std.specs.List.{All, AllByRecursion, AllZip, Contains, range_with_len}
use Rattle.std.specs.Option.{option_map_or}
use Rattle.pb_linear.specs.Sizes.{leasts_of}
use Rattle.pb_program.specs.Configs.{ConfigValue, IsValid}
use Rattle.pb_program.specs.Trees.{ProgTransform}
use Rattle.pb_program.specs.WellFormed.{IsTransform, IsWellFormed}
use Rattle.pb_region.proofs.SmallLemmas.{at_place}
use Rattle.pb_model.specs.Calls.{Outcomes}
use Rattle.pb_check.specs.Orders.{AnalysisValue, AreFound, IsAnalysis}
use Rattle.pb_check.specs.Phases.{IsBounded, IsSound}
use Rattle.pb_check.proofs.FirstLemmas.{all_at}
use Rattle.pb_entry.specs.Fitting.{IsNatural}
use Rattle.pb_entry.proofs.SideLemmas.{natural_sides}
use Rattle.pb_recursion.specs.Counts.{Counter, all_of, count_at, instance_count, matrix_of, nothing, one_count, run_count}
use Rattle.pb_recursion.specs.Depths.{IsWhole, call_at, sides_of_matrix, sizes_given}
use Rattle.pb_recursion.specs.Shapes.{Sides, sizes_from}
use Rattle.pb_recursion.proofs.ShapeLemmas.{range_is}
use Rattle.pb_runs.specs.Matrices.{below_at, matrices_at, matrices_by, matrices_one, run_matrices}
use Rattle.pb_views.specs.declared.seat.Seat.{Seat}
use Rattle.pb_views.specs.Seats.{sides_of_seat}
use Rattle.pb_runs.specs.Steps.{Step, boxes_of, cells_in}
use Rattle.pb_runs.specs.Unrolled.{Met, Unroll, Unrolled, after_matrices, found_for, nothing_met, own_sides, seats_from, unroll, unroll_one, unrolled_at, unrolled_run}
use Rattle.pb_runs.proofs.BaseLemmas.{HaveSides, Reaches, Stands, before_first, before_right, total_append}
use Rattle.pb_runs.proofs.CalledLemmas.{AreDeeper, AreNatural, CountsSizes, IsDeeper}
use Rattle.pb_runs.proofs.FailedLemmas.{seats_placed, seats_reach, seats_tally, seats_within}
use Rattle.pb_runs.proofs.FitLemmas.{sizes_same as bound_same}
use Rattle.pb_runs.proofs.InstanceLemmas.{instance_deep, instance_tally, own_have, sizes_same}
use Rattle.pb_runs.proofs.SeatLemmas.{HasCell}
use Rattle.pb_runs.proofs.CountLemmas.{counted, counted_in, counted_once, in_counted, in_row, row_few, row_in}
use Rattle.pb_runs.proofs.SoundLemmas.{Cells, IsDeep, IsLaid, IsMade, MadeBefore, sound_at}
use Rattle.pb_runs.proofs.TallyLemmas.{Tallies, tallies_both}
use Rattle.pb_plan.proofs.OnceLemmas.{Once}
use Rattle.pb_links.specs.declared.places.Spot.{Spot}
use Rattle.pb_runs.specs.Laws.{IsEntered, IsThere}
use Rattle.pb_runs.specs.Placed.{IsPlaced, SpotCell, before, total}
use Rattle.pb_runs.specs.Right.{IsRight}

all_to : {A : Type 0} (P : A → Type 0) (xs : List A) → All P xs → AllByRecursion P xs
all_to P [] h = tt
all_to P (x ∷ xs) h = (h 0 x (omega arith), all_to P xs (λ k d below. h (suc k) d (omega (arith, below))))

take_all : {A : Type 0} (P : A → Type 0) (n : ℕ) (xs : List A) → AllByRecursion P xs → AllByRecursion P (take n xs)
take_all P zero xs h = tt
take_all P (suc n) [] h = tt
take_all P (suc n) (x ∷ xs) h = (h.0, take_all P n xs h.1)

module _ (config : ConfigValue) (ms : List Outcomes) (p : List ProgTransform) (found : List AnalysisValue) (grain : ℕ) (well : IsWellFormed p) (sound : IsSound p) (valid : IsValid p config) (are_found : AreFound p found) where
  -- no side of a transform is negative at sizes in range
  naturals : AreNatural config ms p
  naturals number t there sizes range =
      let fits = at_place (IsTransform (length p)) p number t well.transforms there in
      let bounded = all_at IsBounded p number t sound.bounded there in
      take_all (IsNatural sizes) t.inputs t.matrices (all_to (IsNatural sizes) t.matrices (natural_sides t sizes (record { transforms = length p; well_formed = fits; sides = bounded.sides }) (range_is (leasts_of t.ranges) sizes range)))

  -- what is found of a transform
  found_at : (ps : List ProgTransform) (fs : List AnalysisValue) (k : ℕ) (t : ProgTransform) → AllZip IsAnalysis ps fs → slice_get ps k ≡ Some t → (a : AnalysisValue) × (slice_get fs k ≡ Some a) × IsAnalysis t a
  found_at [] fs k t h e = absurd (let wrong : None ≡ Some t = e in cc)
  found_at (s ∷ ps) [] k t h e = absurd h
  found_at (s ∷ ps) (a ∷ fs) zero t h e = let some : Some s ≡ Some t = e in let same : s ≡ t = cc in (a, refl, subst (λ q. IsAnalysis q a) same h.0)
  found_at (s ∷ ps) (a ∷ fs) (suc k) t h e = found_at ps fs k t h.1 e

  -- a call, where those below it are unrolled to what they mean
  one_deep : (d : ℕ) (deeper : Option Unroll) (counter : Option Counter) → AreDeeper config ms p deeper (below_at p found config grain d) counter → IsDeeper config ms p (unroll_one p found config grain deeper) (matrices_one p found config grain d (below_at p found config grain d)) (call_at p config d) (one_count p config counter)
  one_deep d deeper counter are_deeper number t there known n given ins placed enters cells_known stands =
      let f = found_at p found number t are_found there in
      let a = f.0 in
      let below = below_at p found config grain d in
      let unrolled : unroll_one p found config grain deeper number given n ≡ unrolled_at p found config grain deeper number t a (sizes_given t ins) given n =
      ap (λ o. option_map_or (found_for p found config grain deeper number given n) o (record { seats = []; steps = []; next = n })) there
      ∙ ap (λ o. option_map_or (λ z. unrolled_at p found config grain deeper number t z (sizes_from t (map sides_of_seat given)) given n) o (record { seats = []; steps = []; next = n })) f.1
      ∙ ap (λ s. unrolled_at p found config grain deeper number t a s given n) (sizes_same config ms p found grain well sound valid d deeper counter are_deeper naturals number t a there f.2 known n given ins placed enters cells_known) in
      let mats : matrices_one p found config grain d below number ins ≡ matrices_by p found config grain d below number ins t a =
      ap (λ o. option_map_or (λ q. option_map_or (matrices_by p found config grain d below number ins q) (slice_get found number) []) o []) there ∙ ap (λ o. option_map_or (matrices_by p found config grain d below number ins t) o []) f.1 in
      let deep = instance_deep config ms p found grain well sound valid d deeper counter are_deeper naturals number t a there f.2 known n given ins placed enters cells_known (subst (Stands ms n) mats stands) in
      let tally = instance_tally config ms p found grain well sound valid d deeper counter are_deeper naturals number t a there f.2 known n given ins placed enters cells_known (subst (Stands ms n) mats stands) in
      let counts : one_count p config counter number (map sides_of_matrix ins) ≡ instance_count p config counter number t (sizes_given t ins) = ap (λ o. option_map_or (λ z. instance_count p config counter number z (sizes_from z (map sides_of_matrix ins))) o nothing) there in (
        subst (λ u. IsDeep config ms known n u (matrices_one p found config grain d below number ins) (call_at p config d number ins)) (sym unrolled) (subst (λ l. IsDeep config ms known n (unrolled_at p found config grain deeper number t a (sizes_given t ins) given n) l (call_at p config d number ins)) (sym mats) deep),
        own_have config ms p found grain well sound valid d deeper counter are_deeper naturals number t a there f.2 known n given ins placed enters cells_known,
        subst (λ u. Tallies n u.next (matrices_one p found config grain d below number ins) (one_count p config counter number (map sides_of_matrix ins))) (sym unrolled) (subst (λ l. Tallies n (unrolled_at p found config grain deeper number t a (sizes_given t ins) given n).next l (one_count p config counter number (map sides_of_matrix ins))) (sym mats) (subst (Tallies n (unrolled_at p found config grain deeper number t a (sizes_given t ins) given n).next (matrices_by p found config grain d below number ins t a)) (sym counts) tally)),
      )

  -- what is counted depends on the sizes alone
  one_sizes : (counter : Option Counter) → CountsSizes config ms p (one_count p config counter)
  one_sizes counter number t there ss mats have =
      ap (λ o. option_map_or (λ z. instance_count p config counter number z (sizes_from z ss)) o nothing) there
      ∙ ap (instance_count p config counter number t) (bound_same t ss mats have)
      ∙ sym (ap (λ o. option_map_or (λ z. instance_count p config counter number z (sizes_from z (map sides_of_matrix mats))) o nothing) there)

  depth_sizes : (d : ℕ) → CountsSizes config ms p (count_at p config d)
  unfolding count_at
  depth_sizes zero = one_sizes None
  depth_sizes (suc d) = one_sizes (Some (count_at p config d))

  -- at each depth
  pub depth_deep : (d : ℕ) → IsDeeper config ms p (unroll p found config grain d) (matrices_at p found config grain d) (call_at p config d) (count_at p config d)
  unfolding unroll matrices_at count_at
  depth_deep zero = one_deep zero None None (record { none = λ e. (refl, refl); some = λ u e. absurd (let wrong : None ≡ Some u = e in cc) })
  depth_deep (suc d) = one_deep (suc d) (Some (unroll p found config grain d)) (Some (count_at p config d)) (record {
    none = λ e. absurd (let wrong : Some (unroll p found config grain d) ≡ None = e in cc);
    some = λ u e. (record { call = call_at p config d; all = matrices_at p found config grain d }, refl, count_at p config d, refl, depth_sizes d, by u (let some : Some (unroll p found config grain d) ≡ Some u = e in cc) (depth_deep d));
  })
    where
      by : (u : Unroll) → unroll p found config grain d ≡ u → IsDeeper config ms p (unroll p found config grain d) (matrices_at p found config grain d) (call_at p config d) (count_at p config d) → IsDeeper config ms p u (matrices_at p found config grain d) (call_at p config d) (count_at p config d)
      by u same h = subst (λ v. IsDeeper config ms p v (matrices_at p found config grain d) (call_at p config d) (count_at p config d)) same h

-- ---- a run
module _ (p : List ProgTransform) (found : List AnalysisValue) (config : ConfigValue) (grain depth number : ℕ) (ins : List Outcomes) (h : IsEntered p found config number ins) where
  abbrev pub ms : List Outcomes
  ms = run_matrices p found config grain depth number ins

  abbrev pub run : Unrolled
  run = unrolled_run p found config grain depth number (map sides_of_matrix ins)

  abbrev inputs : List Sides
  inputs = map sides_of_matrix ins

  abbrev n : Met
  n = after_matrices nothing_met inputs

  abbrev pub given : Cells
  given c = c < total ins

  ins_have : (gs : List Outcomes) → AllByRecursion IsWhole gs → HaveSides (map sides_of_matrix gs) gs
  ins_have [] w = tt
  ins_have (g ∷ gs) w = ((refl, refl, w.0), ins_have gs w.1)

  have : HaveSides inputs ins
  have = ins_have ins (all_to IsWhole ins h.whole)

  get_first : (xs ys : List Outcomes) (k : ℕ) (g : Outcomes) → slice_get xs k ≡ Some g → slice_get (xs ++ ys) k ≡ Some g
  get_first [] ys k g e = absurd (let wrong : None ≡ Some g = e in cc)
  get_first (x ∷ xs) ys zero g e = e
  get_first (x ∷ xs) ys (suc k) g e = get_first xs ys k g e

  get_second : (xs ys : List Outcomes) (k : ℕ) → slice_get (xs ++ ys) (length xs + k) ≡ slice_get ys k
  get_second [] ys k = ap (slice_get ys) (omega arith)
  get_second (z ∷ xs) ys k = let here : suc (length xs) + k ≡ suc (length xs + k) = omega arith in ap (slice_get (z ∷ (xs ++ ys))) here ∙ get_second xs ys k

  abbrev pub made : List Outcomes
  made = matrices_at p found config grain depth number ins

  stands_ins : Stands ms nothing_met ins
  stands_ins = record { at = λ k g e. (let here : 0 + k ≡ k = omega arith in ap (slice_get ms) here ∙ get_first ins made k g e); cells = before_first ms }

  reach : Reaches ms nothing_met ins n
  reach = seats_reach ms nothing_met inputs ins have

  stands_made : Stands ms n made
  stands_made = record {
    at = λ k g e. (let here : n.matrices + k ≡ length ins + k = (let m = reach.matrices in omega (arith, m)) in ap (slice_get ms) here ∙ get_second ins made k ∙ e);
    cells = (let m : n.matrices ≡ length ins + 0 = (let r = reach.matrices in omega (arith, r)) in ap (before ms) m ∙ before_right ins made 0 ∙ (let c = reach.cells in let none = before_first made in omega (arith, c, none)));
  }

  placed_ins : AllZip (IsPlaced ms) (seats_from nothing_met inputs) ins
  placed_ins = seats_placed ms nothing_met inputs ins have stands_ins

  known_ins : (s : Seat) → Contains (seats_from nothing_met inputs) s → (c : ℕ) → HasCell s c → given c
  known_ins s there c has = let row = in_row c 0 (total ins) (seats_within ms nothing_met inputs ins have s there c has) in omega (arith, row.1)

  called : IsDeep config ms given n run made (call_at p config depth number ins) × HaveSides (own_sides h.transform (sizes_given h.transform ins)) (call_at p config depth number ins) × Tallies n run.next made (count_at p config depth number inputs)
  called = depth_deep config ms p found grain h.well h.sound h.valid h.are_found depth number h.transform h.there given n (seats_from nothing_met inputs) ins placed_ins h.enters known_ins stands_made

  deep : IsDeep config ms given n run made (call_at p config depth number ins)
  deep = called.0

  pub run_placed : AllZip (IsPlaced ms) run.seats (call_at p config depth number ins)
  run_placed = deep.placed

  pub run_made : (k : ℕ) (s : Step) → slice_get run.steps k ≡ Some s → IsMade config ms (λ c. given c ⊎ MadeBefore config ms run.steps k c) s
  run_made k s e = sound_at config ms given run.steps k s deep.sound e

  pub run_right : (k : ℕ) (s : Step) → slice_get run.steps k ≡ Some s → IsRight config ms s
  run_right k s e = (run_made k s e).right

  pub run_laid : (k : ℕ) (s : Step) → slice_get run.steps k ≡ Some s → IsLaid config ms s
  run_laid k s e = (run_made k s e).laid

  start : n.cells ≡ total ins
  start = let r = reach.cells in omega (arith, r)

  all_total : total ms ≡ total ins + total made
  all_total = total_append ins made

  pub run_few : (c : ℕ) → counted c (cells_in run.steps) ≤ 1
  run_few c = let counts = deep.counts c in let one = row_few c n.cells (total made) in omega (arith, counts, one)

  pub run_once : Once (cells_in run.steps)
  run_once = counted_once (cells_in run.steps) run_few

  pub run_only : (c : ℕ) → Contains (cells_in run.steps) c → (total ins ≤ c) × (c < total ms)
  run_only c there =
      let counts = deep.counts c in
      let some = in_counted c (cells_in run.steps) there in
      let row = in_row c n.cells (total made) (counted_in c (range_with_len n.cells (total made)) (omega (arith, counts, some))) in
      (omega (arith, row.0, start), omega (arith, row.1, start, all_total))

  pub run_each : (c : ℕ) → total ins ≤ c → c < total ms → Contains (cells_in run.steps) c
  run_each c low high =
      let counts = deep.counts c in
      let some = in_counted c (range_with_len n.cells (total made)) (row_in c n.cells (total made) (omega (arith, low, start)) (omega (arith, high, start, all_total))) in
      counted_in c (cells_in run.steps) (omega (arith, counts, some))

  pub run_before : (k : ℕ) (s : Step) → slice_get run.steps k ≡ Some s → (b : Spot) → Contains (boxes_of s) b → (c : ℕ) → SpotCell ms b c → IsThere ins run.steps k c
  run_before k s e b there c cell = ⊎_elim
      (⊎_elim
      (λ input. inl input)
      (λ earlier. inr (earlier.0, earlier.1, omega (arith, earlier.2), earlier.3, earlier.4)))
      (λ own. inr (k, s, omega arith, e, own.1))
      ((run_made k s e).reads b there c cell)

  pub run_tally : Tallies nothing_met run.next ms (run_count p config depth number inputs)
  run_tally = tallies_both nothing_met n run.next ins made (all_of (map matrix_of inputs)) (count_at p config depth number inputs) (seats_tally nothing_met inputs ins have) called.2
