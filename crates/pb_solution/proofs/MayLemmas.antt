-- What a task may read when it makes a cell, and that each outcome is what its rule makes.
use Rattle.std.proofs.Common.{◌≡◌, ◌∙◌, refl, sym, ap, subst, inl, inr, ◌⊎◌, ⊎_elim, ℕ, zero, suc, ◌+◌, ◌-◌, ◌≤◌, ◌<◌, ℤ, pos, negsuc, ◌<ℤ◌, List, [], ◌∷◌, length, map, drop, take, slice_get, Option, Some, None, arith}
use Rattle.std.specs.List.{Contains}
use Rattle.std.specs.Option.{option_map_or}
use Rattle.std.proofs.lemmas.Bool.{cases_lt}
use Rattle.std.proofs.lemmas.Int.{ints}
use Rattle.pb_linear.specs.Numbers.{exact_value}
use Rattle.pb_values.specs.Views.{cell_of}
use Rattle.pb_values.specs.declared.view.View.{View}
use Rattle.pb_graph.specs.Ranks.{Rank}
use Rattle.pb_program.specs.Configs.{ConfigValue}
use Rattle.pb_program.specs.Trees.{ProgRule, ProgTransform}
use Rattle.pb_program.specs.WellFormed.{IsTransform}
use Rattle.pb_region.proofs.SmallLemmas.{at_place}
use Rattle.pb_base.proofs.ListLemmas.{at_in, in_at, in_head, in_tail}
use Rattle.pb_model.specs.Calls.{Outcomes, Plans, cell_equation, cell_reads, made_cells, outcome_in, rule_of}
use Rattle.pb_model.specs.Cells.{Cell, IsCell, ReadsCell, natural, reads}
use Rattle.pb_model.specs.Chosen.{chosen_rule}
use Rattle.pb_model.proofs.CallLemmas.{in_made}
use Rattle.pb_model.proofs.LawfulLemmas.{in_lawful}
use Rattle.pb_model.proofs.ReadLemmas.{reads_are}
use Rattle.pb_frame.proofs.Handed.{call_settled, reads_inside}
use Rattle.pb_check.specs.Orders.{AnalysisValue}
use Rattle.pb_check.specs.Ranked.{HasRank, IsMadeCell, StandsBelow}
use Rattle.pb_check.proofs.FirstLemmas.{some_same}
use Rattle.pb_frame.specs.Choices.{IsInstance}
use Rattle.pb_frame.specs.Frames.{JobValue}
use Rattle.pb_taskgraph.specs.Graphs.{TaskValue, before_of, cells_of}
use Rattle.pb_taskgraph.specs.Plans.{outcome_at}
use Rattle.pb_taskgraph.specs.Turns.{MayRead}
use Rattle.pb_plan.specs.Made.{IsMadeBefore, IsMadeBy, jobs_for}
use Rattle.pb_plan.proofs.BeforeLemmas.{read_before}
use Rattle.pb_plan.proofs.JobLemmas.{at_map}
use Rattle.pb_plan.proofs.MadeLemmas.{chosen}
use Rattle.pb_views.specs.Windows.{number_in}
use Rattle.pb_walk.specs.declared.stop.Stop.{Stop}
use Rattle.pb_plan.specs.Tasks.{graph_of}
use Rattle.pb_plan.proofs.GraphLemmas.{before_in, cell_to}
use Rattle.pb_plan.proofs.NumberLemmas.{before_mono, number_within, view_at}
use Rattle.pb_solution.specs.Solutions.{IsRun, all_matrices, job_order, outcomes_of, own_order, plan_of, stop_cell, stops_of}
use Rattle.pb_solution.proofs.OrderLemmas.{IsAt, number_for, order_at}
use Rattle.pb_solution.proofs.OutcomeLemmas.{outcome_by, sides_are}
use Rattle.pb_solution.proofs.RankLemmas.{of_job as stop_of_job, of_made as stop_of_made, stands_before as stop_before}

-- ---- lists
pub taken_at : {A : Type 0} (xs : List A) (n k : ℕ) (x : A) → k < n → slice_get xs k ≡ Some x → slice_get (take n xs) k ≡ Some x
taken_at xs zero k x below e = absurd (omega (arith, below))
taken_at [] (suc n) k x below e = absurd (cc)
taken_at (y ∷ xs) (suc n) zero x below e = e
taken_at (y ∷ xs) (suc n) (suc k) x below e = taken_at xs n k x (omega (arith, below)) e

at_dropped : {A : Type 0} (xs : List A) (n k : ℕ) (x : A) → slice_get xs (n + k) ≡ Some x → slice_get (drop n xs) k ≡ Some x
at_dropped xs zero k x at = let here : 0 + k ≡ k = omega arith in subst (λ i. slice_get xs i ≡ Some x) here at
at_dropped [] (suc n) k x at = absurd (cc)
at_dropped (y ∷ xs) (suc n) k x at = let here : suc n + k ≡ suc (n + k) = omega arith in at_dropped xs n k x (subst (λ i. slice_get (y ∷ xs) i ≡ Some x) here at)

pub map_same : {A B : Type 0} (f g : A → B) (xs : List A) → ((x : A) → Contains xs x → f x ≡ g x) → map f xs ≡ map g xs
map_same f g [] h = refl
map_same f g (x ∷ xs) h = rw (h x (in_head x xs), map_same f g xs (λ y k. h y (in_tail x y xs k))) refl

side_below : (z : ℤ) (n : ℕ) → pos n <ℤ z → n < natural z
side_below (pos k) n h = omega (arith, ints, h)
side_below (negsuc k) n h = absurd (omega (arith, ints, h))

module _ (config : ConfigValue) (plans : Plans) (number : ℕ) (t : ProgTransform) (a : AnalysisValue) (sizes : List ℕ) (grain : ℕ) (ins : List Outcomes) (views : List View) (tasks : List TaskValue) (run : IsRun config plans number t a sizes grain ins views tasks) where
  abbrev jobs : List JobValue
  jobs = jobs_for config number t a sizes grain

  abbrev i : IsInstance number t a sizes
  i = run.instance

  abbrev matrices : List Outcomes
  matrices = all_matrices config plans number t sizes ins

  abbrev At : Cell → ℕ → Type 0
  At c n = IsAt config number t a sizes grain i run.valid views run.row c n

  fits : IsTransform (length i.program) t
  fits = at_place (IsTransform (length i.program)) i.program number t i.well_formed.transforms i.there

  -- ---- numbers of cells
  pub cell_number : (c : Cell) → IsCell t sizes c → At c (number_in views c)
  cell_number c cell =
      let v = view_at sizes 0 t.matrices views run.row c.matrix cell.decl cell.there in
      let is : At c (cell_of v.0 c.x c.y) = record { decl = cell.decl; there = cell.there; view = v.0; at = v.1; on_x = side_below (exact_value cell.decl.w sizes) c.x cell.before_x; on_y = side_below (exact_value cell.decl.h sizes) c.y cell.before_y; is = refl } in
      subst (At c) (sym (number_for config number t a sizes grain i run.valid views run.row c (cell_of v.0 c.x c.y) is)) is

  pub cell_value : (c : Cell) → IsCell t sizes c → outcome_at (outcomes_of matrices) (number_in views c) ≡ outcome_in matrices c
  cell_value c cell =
      outcome_by sizes t.matrices views run.row matrices (sides_are config plans number t sizes ins run.given (omega (arith, fits.parts))) c (number_in views c) (cell_number c cell)

  -- ---- what the chosen rule reads
  pub read_by : (c shown : Cell) → Contains (cell_reads config plans number t sizes c) shown → (rule : ProgRule) × (slice_get t.rules (chosen_rule config number t sizes c) ≡ Some rule) × ReadsCell t.matrices sizes c rule shown
  unfolding cell_reads
  read_by c shown h = by (rule_of config plans number t sizes c) refl h
    where
      by : (o : Option ProgRule) → rule_of config plans number t sizes c ≡ o → Contains (option_map_or (reads t.matrices sizes c) o []) shown → (rule : ProgRule) × (slice_get t.rules (chosen_rule config number t sizes c) ≡ Some rule) × ReadsCell t.matrices sizes c rule shown
      by None e k = absurd (none k)
        where
          none : Contains [] shown → ⊥
          none k = let p = at_in [] shown k in absurd (cc)
      by (Some r) e k = (r, e, (reads_are t.matrices sizes c shown r).0 k)

  pub read_inside : (c shown : Cell) → IsMadeCell t sizes c → Contains (cell_reads config plans number t sizes c) shown → IsCell t sizes shown
  read_inside c shown made h =
      let r = read_by c shown h in
      let k = chosen_rule config number t sizes c in
      reads_inside i.program number t sizes i.well_formed i.sound i.there c k r.0 made.cell (in_lawful t sizes c k (chosen config number t a sizes grain i run.valid c made)) r.1 shown r.2

  -- ---- each outcome is what its rule makes
  is_made : (c : Cell) → IsMadeCell t sizes c → Contains (made_cells t sizes) c
  unfolding made_cells
  is_made c m =
      let place : ℕ = c.matrix - t.inputs in
      let matrix : t.inputs + place ≡ c.matrix = omega (arith, m.made) in
      in_made sizes t.inputs (drop t.inputs t.matrices) c (record {
        place = place;
        decl = m.cell.decl;
        there = at_dropped t.matrices t.inputs place m.cell.decl (ap (slice_get t.matrices) matrix ∙ m.cell.there);
        matrix = matrix;
        across = side_below (exact_value m.cell.decl.w sizes) c.x m.cell.before_x;
        down = side_below (exact_value m.cell.decl.h sizes) c.y m.cell.before_y;
      })

  pub is_equation : (c : Cell) → IsMadeCell t sizes c → outcome_at (outcomes_of matrices) (number_in views c)
      ≡ cell_equation config plans number t sizes c (map (λ d. outcome_at (outcomes_of matrices) (number_in views d)) (cell_reads config plans number t sizes c))
  is_equation c made =
      let settled = call_settled i.program number t a sizes config plans ins i.well_formed i.sound i.there i.found run.valid i.in_range run.given in
      cell_value c made.cell ∙ settled.equation c (is_made c made)
      ∙ ap (cell_equation config plans number t sizes c) (map_same (outcome_in matrices) (λ d. outcome_at (outcomes_of matrices) (number_in views d)) (cell_reads config plans number t sizes c) (λ d h. sym (cell_value d (read_inside c d made h))))

  -- ---- what a task may read
  module _ (j : ℕ) (job : JobValue) (e : slice_get jobs j ≡ Some job) (k : ℕ) (s : Stop) (at : slice_get (stops_of a.nodes a.order.layers job) k ≡ Some s) where
    abbrev c : Cell
    c = stop_cell s

    pub of_job : IsMadeBy jobs a.nodes c j s.piece
    of_job = stop_of_job config number t a sizes grain i run.valid j job e k s at

    pub of_made : IsMadeCell t sizes c
    of_made = stop_of_made config number t a sizes grain i run.valid j job e k s at

    -- a cell that the job makes, of lower rank, is written before
    stands_before : (d : Cell) (l : ℕ) (m : IsMadeBy jobs a.nodes d j l) → job.rule ≡ None → ((rank : Rank) → HasRank t a sizes c rank → StandsBelow t a sizes rank d) → Contains (take k (job_order a.nodes a.order.layers views job)) (number_in views d)
    stands_before d l m none lower =
        let p = stop_before config number t a sizes grain i run.valid j job e k s at d l m none lower in
        in_at (take k (job_order a.nodes a.order.layers views job)) p.0 (number_in views d) (taken_at (job_order a.nodes a.order.layers views job) k p.0 (number_in views d) p.1 (at_map (λ (q : Stop). number_in views (stop_cell q)) (stops_of a.nodes a.order.layers job) p.0 (record { piece = l; base = d.matrix; x = d.x; y = d.y }) p.2))

    pub may_read : (n : ℕ) → (job.rule ≡ None → n ≡ k) → (shown : Cell) → Contains (cell_reads config plans number t sizes c) shown → MayRead (plan_of config plans number t a sizes grain ins views tasks) j n (number_in views shown)
    unfolding plan_of
    may_read n when shown h = ⊎_elim
        (λ (low : shown.matrix < t.inputs).
        let within = number_within sizes 0 t.matrices views run.row shown.matrix shown.x shown.y (number_in views shown) (cell_number shown inside) in
        inl (omega (arith, within.1, before_mono sizes t.matrices (shown.matrix + 1) t.inputs (omega (arith, low)))))
        (λ (high : t.inputs ≤ shown.matrix).
        let made : IsMadeCell t sizes shown = record { cell = inside; made = high } in
        inr (by (read_before config number t a sizes grain i run.valid c shown j s.piece of_job r.0 r.1 r.2 made)))
        (cases_lt shown.matrix t.inputs)
      where
        r : (rule : ProgRule) × (slice_get t.rules (chosen_rule config number t sizes c) ≡ Some rule) × ReadsCell t.matrices sizes c rule shown
        r = read_by c shown h

        inside : IsCell t sizes shown
        inside = read_inside c shown of_made h

        by : IsMadeBefore t a sizes jobs c shown j → ((u : ℕ) × Contains (before_of (graph_of t sizes tasks) j) u × Contains (cells_of (graph_of t sizes tasks) u) (number_in views shown)) ⊎ Contains (take n (own_order a.nodes a.order.layers views jobs j)) (number_in views shown)
        by b = ⊎_elim
            (λ pred. inl (b.job, before_in config number t a sizes grain i run.valid views run.row tasks run.are_tasks j b.job pred, cell_to config number t a sizes grain i run.valid views run.row tasks run.are_tasks shown b.job b.part (number_in views shown) b.made (cell_number shown inside)))
            (λ own.
            let none : job.rule ≡ None = ap (λ (q : JobValue). q.rule) (some_same job b.made.job (sym e ∙ ap (slice_get jobs) (sym own.0) ∙ b.made.is)) ∙ own.1 in
            let here : IsMadeBy jobs a.nodes shown j b.part = subst (λ q. IsMadeBy jobs a.nodes shown q b.part) own.0 b.made in
            inr (subst (λ xs. Contains xs (number_in views shown)) (ap (take n) (sym (order_at a views jobs j job e))) (subst (λ q. Contains (take q (job_order a.nodes a.order.layers views job)) (number_in views shown)) (sym (when none)) (stands_before shown b.part here none own.2))))
            b.before
