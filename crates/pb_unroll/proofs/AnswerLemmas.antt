-- What a run's outcomes and views say of its answer.
use Rattle.std.proofs.Common.{◌≡◌, ◌∙◌, refl, sym, ap, subst, ℕ, zero, suc, ◌+◌, ◌^◌, ◌<◌, ◌≤◌, ℤ, List, [], ◌∷◌, ◌++◌, length, get_or, None, map, take, drop, slice_get, Some, arith, append_assoc, flat_map, length-append}
use Rattle.std.specs.List.{All, position}
use Rattle.std.specs.Option.{option_map}
use Rattle.std.specs.Prelude.{unwrap_or}
use Rattle.std.proofs.lemmas.Grind.{flat_map-append}
use Rattle.std.proofs.lemmas.List.{drop_at, length-drop, length-map, map-append, take_at}
use Rattle.std.proofs.lemmas.List.Elements.{All-cons, All-drop, All-head, All-tail}
use Rattle.std.proofs.lemmas.List.Quantifiers.{position-Some}
use Rattle.std.proofs.lemmas.List.Sums.{sum_by-cons}
use Rattle.std.proofs.lemmas.Option.{slice_get_within}
use Rattle.pb_values.specs.declared.outcome.Outcome.{Outcome}
use Rattle.pb_values.specs.declared.outcome.Outcome.TheVariants.{Value, Trapped}
use Rattle.pb_values.specs.declared.outcome.Trap.{Trap}
use Rattle.pb_values.specs.declared.shape.Shape.{Shape}
use Rattle.pb_values.specs.declared.shape.TheConstants.{MOST_SIDE}
use Rattle.pb_values.specs.declared.view.View.{View}
use Rattle.pb_program.specs.Forms.{DeclValue}
use Rattle.pb_program.specs.Trees.{ProgTransform, bare_transform}
use Rattle.pb_program.specs.WellFormed.{IsTransform}
use Rattle.pb_region.proofs.SmallLemmas.{at_place}
use Rattle.pb_matrix.specs.Header.{cell_count as cells_of_shape}
use Rattle.pb_model.specs.Calls.{Outcomes, Plans, call_of, cell_outcome, cells_from, first_trapped, made_cells, made_from, matrix_cells, no_outcome, outcome_in}
use Rattle.pb_model.specs.Cells.{Cell}
use Rattle.pb_model.proofs.CallLemmas.{here_is}
use Rattle.pb_check.specs.Orders.{AnalysisValue}
use Rattle.pb_check.proofs.FirstLemmas.{some_at}
use Rattle.pb_check.proofs.OrderLemmas.{found_length}
use Rattle.pb_recursion.specs.Depths.{call_at, plans_at, sizes_given}
use Rattle.pb_recursion.proofs.ShapeLemmas.{map_get}
use Rattle.pb_run_work.proofs.Handed.{total_is}
use Rattle.pb_run_work.specs.Handed.{plan_of_run}
use Rattle.pb_run_work.specs.Running.{IsRunning, RunValue, all_of, first_call, ins_of, of_sizes, of_transform, prog_of, run_plan}
use Rattle.pb_taskgraph.specs.Graphs.{GraphValue}
use Rattle.pb_taskgraph.specs.declared.limits.TheConstants.{MOST_CELLS}
use Rattle.pb_views.specs.Layouts.{AreInARow, HasShortSides, area_at, cell_count}
use Rattle.pb_solution.specs.Solutions.{all_matrices, outcomes_of}
use Rattle.pb_solution.proofs.MayLemmas.{map_same}
use Rattle.pb_solution.proofs.OutcomeLemmas.{AreSided, count_is, sides_are}
use Rattle.pb_unroll.specs.Answers.{matrices_text, results_in, results_of, trapped_in}
use Rattle.pb_unroll.specs.ShownCells.{IsShort, IsWritable, cells_shown, is_trapped, matrix_in, place_in, text_in}
use Rattle.pb_unroll.proofs.CallLemmas.{call_is, stands_first}
use Rattle.pb_unroll.proofs.PlaceLemmas.{as_place, matrix_count, place_is}
use Rattle.pb_unroll.proofs.TrapLemmas.{as_wanted, at_part, found_first, found_placed, found_trapped, not_found}
use Rattle.pb_unroll.proofs.TextLemmas.{are_writable, matrices_are, shapes_fit, texts_of}

-- ---- matrices in a row
module _ (sizes : List ℕ) where
  -- from one of them on
  row_after : (n first : ℕ) (ds : List DeclValue) (vs : List View) → AreInARow first sizes ds vs → (from : ℕ) × AreInARow from sizes (drop n ds) (drop n vs)
  row_after zero first ds vs row = (first, row)
  row_after (suc n) first [] vs row = (first, ap (drop (suc n)) row)
  row_after (suc n) first (d ∷ ds) [] row = absurd row
  row_after (suc n) first (d ∷ ds) (v ∷ vs) row = row_after n (first + area_at sizes d) ds vs row.1

  as_many : (first : ℕ) (ds : List DeclValue) (vs : List View) → AreInARow first sizes ds vs → length vs ≡ length ds
  as_many first [] vs row = ap length row
  as_many first (d ∷ ds) [] row = absurd row
  as_many first (d ∷ ds) (v ∷ vs) row = ap suc (as_many (first + area_at sizes d) ds vs row.1)

  are_short : (first : ℕ) (ds : List DeclValue) (vs : List View) → AreInARow first sizes ds vs → All (HasShortSides sizes) ds → All IsShort vs
  are_short first [] vs row short = subst (All IsShort) (sym row) (λ k d below. absurd (omega (arith, below)))
  are_short first (d ∷ ds) [] row short = absurd row
  are_short first (d ∷ ds) (v ∷ vs) row short =
      let sides = All-head (HasShortSides sizes) d ds short in
      All-cons IsShort v vs
      (record { width = subst (λ (s : Shape). s.w ≤ MOST_SIDE) (sym row.0.shape) sides.width; height = subst (λ (s : Shape). s.h ≤ MOST_SIDE) (sym row.0.shape) sides.height })
      (are_short (first + area_at sizes d) ds vs row.1 (All-tail (HasShortSides sizes) d ds short))

  -- how many cells they have
  shown_count : (first : ℕ) (ds : List DeclValue) (vs : List View) → AreInARow first sizes ds vs → cells_shown vs ≡ cell_count sizes ds
  shown_count first [] vs row = ap cells_shown row
  shown_count first (d ∷ ds) [] row = absurd row
  shown_count first (d ∷ ds) (v ∷ vs) row =
      sum_by-cons (λ (w : View). cells_of_shape w.shape) v vs ∙ (λ i. cells_of_shape (row.0.shape i) + shown_count (first + area_at sizes d) ds vs row.1 i)

  made_count : (m : ℕ) (ds : List DeclValue) → length (cells_from sizes m ds) ≡ cell_count sizes ds
  made_count m [] = refl
  made_count m (d ∷ ds) = omega (arith, length-append (matrix_cells sizes m d) (cells_from sizes (m + 1) ds), matrix_count sizes m d, made_count (m + 1) ds)

-- ---- a run
-- what is looked at for its first trapped cell: its outcomes, how many of them are given, its watched matrices, and how many cells they have
pub record IsLooked (v : RunValue) (outcomes : List Outcome) (given : ℕ) (watched : List View) (cells : ℕ) : Type 0 where
  pub solved : outcomes ≡ (run_plan v).solution
  pub inputs : given ≡ v.graph.inputs
  pub views : watched ≡ drop v.transform.inputs v.views
  pub count : cells ≡ cells_shown watched

module _ (v : RunValue) (is : IsRunning v) where
  abbrev t : ProgTransform
  t = of_transform v

  abbrev sizes : List ℕ
  sizes = of_sizes v

  abbrev ins : List Outcomes
  ins = ins_of v

  there : slice_get (prog_of v) v.number ≡ Some t
  there = map_get bare_transform v.accepted.program.transforms v.number v.transform is.there

  form : IsTransform (length (prog_of v)) t
  form = at_place (IsTransform (length (prog_of v))) (prog_of v) v.number t is.begun.entered.well.transforms there

  -- ---- its first call
  abbrev plans : Plans
  plans = plans_at (prog_of v) v.config v.depth v.number t (sizes_given t ins)

  abbrev own : Cell → Outcome
  own = cell_outcome v.config plans v.number t sizes ins

  abbrev made : List Outcomes
  made = call_of v.config plans v.number t sizes ins

  abbrev all : List Outcomes
  all = all_matrices v.config plans v.number t sizes ins

  made_is : call_at (prog_of v) v.config v.depth v.number ins ≡ made
  made_is = call_is (prog_of v) v.config v.number ins t there v.depth ∙ ap (λ s. call_of v.config plans v.number t s ins) is.sizes

  first_is : first_call v ≡ all
  first_is = ap (λ l. ins ++ l) made_is

  same_trap : first_trapped all (made_cells t sizes) ≡ trapped_in v
  same_trap = ap (λ ms. first_trapped ms (made_cells t sizes)) (sym first_is)

  found : (a : AnalysisValue) × (slice_get v.accepted.found v.number ≡ Some a)
  found = some_at v.accepted.found v.number (omega (arith, slice_get_within (prog_of v) v.number t there, found_length (prog_of v) v.accepted.found is.begun.entered.are_found))

  deeper : (rest : List Outcomes) × (all_of v ≡ all ++ rest)
  deeper =
      let first = stands_first (prog_of v) v.config v.number ins t there v.accepted.found v.grain found.0 found.1 v.depth in
      (first.0, ap (λ l. ins ++ l) (first.1 ∙ ap (λ l. l ++ first.0) made_is) ∙ sym (append_assoc ins made first.0))

  abbrev later : List Outcome
  later = outcomes_of deeper.0

  -- ---- its outcomes
  made_outcomes : (m : ℕ) (ds : List DeclValue) → outcomes_of (made_from v.config plans v.number t sizes ins m ds) ≡ map own (cells_from sizes m ds)
  unfolding outcomes_of
  made_outcomes m [] = refl
  made_outcomes m (d ∷ ds) = ap (λ l. map own (matrix_cells sizes m d) ++ l) (made_outcomes (m + 1) ds) ∙ sym (map-append own (matrix_cells sizes m d) (cells_from sizes (m + 1) ds))

  outcomes_made : outcomes_of made ≡ map (outcome_in all) (made_cells t sizes)
  unfolding call_of made_cells
  outcomes_made =
      made_outcomes t.inputs (drop t.inputs t.matrices)
      ∙ map_same own (outcome_in all) (made_cells t sizes) (λ c h. sym (ap (λ o. unwrap_or o no_outcome) (here_is v.config plans v.number t sizes ins is.given.count c h)))

  both : (xs ys : List Outcomes) → outcomes_of (xs ++ ys) ≡ outcomes_of xs ++ outcomes_of ys
  unfolding outcomes_of
  both xs ys = flat_map-append (λ (m : Outcomes). m.cells) xs ys

  solution_is : (run_plan v).solution ≡ outcomes_of (all_of v)
  unfolding run_plan plan_of_run
  solution_is = refl

  -- those of its first call stand first
  whole : (run_plan v).solution ≡ outcomes_of all ++ later
  whole = solution_is ∙ ap outcomes_of deeper.1 ∙ both all deeper.0

  split : (run_plan v).solution ≡ outcomes_of ins ++ (outcomes_of made ++ later)
  split = whole ∙ ap (λ l. l ++ later) (both ins made) ∙ append_assoc (outcomes_of ins) (outcomes_of made) later

  all_few : length (run_plan v).solution ≤ MOST_CELLS
  all_few = omega (arith, ap length solution_is, total_is (all_of v), is.begun.within.cells)

  -- ---- the matrices that are watched
  abbrev watched : List View
  watched = drop v.transform.inputs v.views

  watched_place : (k : ℕ) → place_in watched v.transform.inputs k ≡ option_map as_place (slice_get (made_cells t sizes) k)
  unfolding made_cells
  watched_place k = let row = row_after sizes t.inputs 0 t.matrices v.views is.row in place_is sizes row.0 (drop t.inputs t.matrices) watched row.1 t.inputs k

  pub watched_short : All IsShort watched
  watched_short = All-drop IsShort t.inputs v.views (are_short sizes 0 t.matrices v.views is.row is.short)

  pub watched_few : v.transform.inputs + length watched < 2 ^ 32
  watched_few = omega (arith, length-drop t.inputs v.views, as_many sizes 0 t.matrices v.views is.row, form.parts, form.few_matrices)

  watched_count : cells_shown watched ≡ length (outcomes_of made)
  unfolding made_cells
  watched_count =
      let row = row_after sizes t.inputs 0 t.matrices v.views is.row in
      omega (arith, shown_count sizes row.0 (drop t.inputs t.matrices) watched row.1, made_count sizes t.inputs (drop t.inputs t.matrices), ap length outcomes_made, length-map (made_cells t sizes) (outcome_in all))

  -- ---- its first trapped cell, among those of the cells that rules of the first call make
  module _ (outcomes : List Outcome) (inputs : ℕ) (views : List View) (count : ℕ) (looked : IsLooked v outcomes inputs views count) where
    given_count : length (outcomes_of ins) ≡ inputs
    given_count = total_is ins ∙ sym (ap (λ (g : GraphValue). g.inputs) is.begun.graph) ∙ sym looked.inputs

    many : count ≡ length (outcomes_of made)
    many = looked.count ∙ ap cells_shown looked.views ∙ watched_count

    all_there : length outcomes ≡ length (outcomes_of ins) + (length (outcomes_of made) + length later)
    all_there = omega (arith, ap length (looked.solved ∙ split), length-append (outcomes_of ins) (outcomes_of made ++ later), length-append (outcomes_of made) later)

    pub watched_cells : cells_shown views ≤ MOST_CELLS
    watched_cells = omega (arith, looked.count, many, all_few, ap length looked.solved, all_there)

    pub within : inputs + count ≤ length outcomes
    within = omega (arith, many, given_count, all_there)

    outcomes_few : length outcomes ≤ MOST_CELLS
    outcomes_few = omega (arith, ap length looked.solved, all_few)

    pub within_limits : inputs + count ≤ MOST_CELLS
    within_limits = omega (arith, within, outcomes_few)

    abbrev part : List Outcome
    part = take count (drop inputs outcomes)

    part_is : part ≡ map (outcome_in all) (made_cells t sizes)
    part_is =
        ap (λ l. take count (drop inputs l)) (looked.solved ∙ split) ∙ ap (take count) (drop_at (outcomes_of ins) (outcomes_of made ++ later) inputs given_count)
        ∙ take_at (outcomes_of made) later count (sym many) ∙ outcomes_made

    pub none_trapped : position is_trapped part ≡ None → None ≡ trapped_in v
    none_trapped none = sym (not_found all part (made_cells t sizes) part_is none) ∙ same_trap

    module _ (k : ℕ) (found_at : position is_trapped part ≡ Some k) where
      inside : k < count
      inside = let below = (position-Some is_trapped part k no_outcome found_at).0 in omega (arith, below, as_wanted outcomes inputs count within)

      pub is_there : inputs + k < length outcomes
      is_there = omega (arith, within, inside)

      pub is_small : inputs + k ≤ MOST_CELLS
      is_small = omega (arith, within_limits, inside)

      at : (o : Outcome) → slice_get outcomes (inputs + k) ≡ Some o → get_or part k no_outcome ≡ o
      at o = at_part outcomes inputs count within k o inside

      pub no_number : (z : ℤ) (o : Outcome) → slice_get outcomes (inputs + k) ≡ Some o → o ≡ Value z → ⊥
      no_number z o there number = found_trapped all part (made_cells t sizes) part_is k found_at z (at o there ∙ number)

      module _ (from : ℕ) (begins : from ≡ v.transform.inputs) where
        same_place : option_map as_place (slice_get (made_cells t sizes) k) ≡ place_in views from k
        same_place = sym (watched_place k) ∙ (λ i. place_in (sym looked.views i) (sym begins i) k)

        pub has_place : place_in views from k ≡ None → ⊥
        has_place none = found_placed all part (made_cells t sizes) part_is k found_at (same_place ∙ none)

        pub is_first : (trap : Trap) (o : Outcome) (p : ℕ × ℕ × ℕ) → slice_get outcomes (inputs + k) ≡ Some o → o ≡ Trapped trap → place_in views from k ≡ Some p
            → Some (record { cell = record { matrix = p.0; x = p.1; y = p.2 }; trap = trap }) ≡ trapped_in v
        is_first trap o p there trapped place = sym (found_first all part (made_cells t sizes) part_is k found_at trap p (at o there ∙ trapped) (same_place ∙ place)) ∙ same_trap

  -- ---- the matrices that it gives
  sided : AreSided sizes t.matrices all
  sided = sides_are v.config plans v.number t sizes ins is.given (omega (arith, form.parts))

  few : cell_count sizes t.matrices ≤ MOST_CELLS
  few = omega (arith, sym (count_is sizes t.matrices all sided), all_few, ap length whole, length-append (outcomes_of all) later)

  abbrev first : ℕ
  first = v.transform.inputs + v.transform.middles

  pub results_writable : All (IsWritable (run_plan v).solution) (drop first v.views)
  results_writable =
      All-drop (IsWritable (run_plan v).solution) first v.views (are_writable sizes (run_plan v).solution later 0 t.matrices v.views all is.row sided whole
      (shapes_fit sizes (length t.sizes) t.matrices form.matrices is.short few))

  pub results_are : map (matrix_in (run_plan v).solution) (drop first v.views) ≡ results_in v
  results_are = matrices_are sizes (run_plan v).solution later first 0 t.matrices v.views all is.row sided whole ∙ ap (results_of t) (sym first_is)

  pub texts_are : flat_map (text_in (run_plan v).solution) (drop first v.views) ≡ matrices_text (results_in v)
  texts_are = texts_of sizes (run_plan v).solution later (drop first v.views) ∙ ap matrices_text results_are
