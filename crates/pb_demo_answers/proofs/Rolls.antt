-- The rolling sum has few tasks and links: at most one task a cell.
use Rattle.std.proofs.Common.{◌≡◌, ◌∙◌, refl, sym, ap, ap₂, subst, inl, inr, ◌⊎◌, ℕ, zero, suc, ◌-◌, ◌*◌, ◌≤◌, ◌<◌, nat_lt, pos, ◌<ℤ◌, Bool, true, false, List, [], ◌∷◌, ◌++◌, length, map, filter, slice_get, Option, Some, None, arith}
use Rattle.std.specs.Prelude.{get_or}
use Rattle.std.specs.List.{AllByRecursion, AllZip, Contains, enumerate_from, list_any, range_with_len}
use Rattle.std.specs.Option.{option_map_or}
use Rattle.std.proofs.lemmas.Bool.{and_parts, cases_lt}
use Rattle.std.proofs.lemmas.Bool.Decides.{nat_tests}
use Rattle.std.proofs.lemmas.Int.{ints}
use Rattle.std.proofs.lemmas.List.{length-map}
use Rattle.std.proofs.lemmas.List.FromFn.{length-range_with_len}
use Rattle.std.proofs.lemmas.List.Elements.{All-map}
use Rattle.std.proofs.lemmas.List.Sums.{sum_by-le}
use Rattle.std.proofs.lemmas.Option.{none-some, same_Some}
use Rattle.std.proofs.Math.Nat.{mul-le-mul}
use Rattle.pb_base.proofs.ListLemmas.{at_in, filter_in, flat_in, in_at, in_filter, in_map, in_range, in_tail, map_in}
use Rattle.pb_linear.specs.Numbers.{exact_value}
use Rattle.pb_linear.specs.Sizes.{InRange, leasts_of}
use Rattle.pb_links.specs.Links.{link_count, precedes, predecessors}
use Rattle.pb_taskgraph.specs.declared.limits.TheConstants.{MOST_LINKS, MOST_TASKS}
use Rattle.pb_values.specs.declared.rect.Rect.{Rect}
use Rattle.pb_graph.specs.Layerings.{LayerValue}
use Rattle.pb_graph.specs.Nodes.{NodeValue}
use Rattle.pb_program.specs.Configs.{ConfigValue, IsValid}
use Rattle.pb_program.specs.Forms.{DeclValue}
use Rattle.pb_program.specs.Trees.{ProgTransform}
use Rattle.pb_model.specs.Cells.{Cell}
use Rattle.pb_check.specs.Orders.{AnalysisValue, AreFound, IsAnalysis}
use Rattle.pb_check.specs.Ranked.{IsMadeCell}
use Rattle.pb_frame.specs.Choices.{IsInstance}
use Rattle.pb_frame.specs.Frames.{HoldsCell, JobValue, block_job, blocks, chosen_wides, cut_by, has_block, has_place, in_layer, is_block_part, is_in_layer, layer_jobs, parts_of, squares, wide_job, within}
use Rattle.pb_frame.specs.declared.part.FramePart.{FramePart}
use Rattle.pb_frame.proofs.ListLemmas.{as_long}
use Rattle.pb_frame.proofs.PartLemmas.{of_part}
use Rattle.pb_plan.specs.Made.{IsMadeBy, jobs_for}
use Rattle.pb_plan.proofs.MadeLemmas.{made_by, made_cell, made_once}
use Rattle.pb_recursion.specs.Shapes.{Sides, sizes_from}
use Rattle.pb_views.specs.declared.seat.Seat.{Seat}
use Rattle.pb_views.specs.Seats.{sides_of_seat}
use Rattle.pb_runs.specs.Steps.{Instance, Step, places_of}
use Rattle.pb_runs.specs.Unrolled.{Done, Met, Unroll, Unrolled, after_call, after_matrices, deeper_unroll, found_for, instance_of, job_done, jobs_done, no_unrolled, nothing_met, own_sides, seats_from, unroll, unroll_one, unrolled_at, unrolled_of, unrolled_run}
use Rattle.pb_grammar.specs.Want.{after_mark, expression, conjunction, compared, total, product, name_token, dimensions}
use Rattle.pb_demo.proofs.Accepted.{roll_accepted}
use Rattle.pb_demo.proofs.Entries.{roll_there}
use Rattle.pb_demo.proofs.Sound.{roll, roll_is, roll_leasts}
use Rattle.pb_demo.proofs.Trees.{program}
use Rattle.pb_demo_runs.proofs.Rolls.{made, made_there, no_third, one_input, sides_of_made, well}
use Rattle.pb_demo_answers.proofs.Lists.{each_in, kept_fewer}
use Rattle.pb_demo_answers.proofs.Steps.{same_sides}

-- none of its rules makes more than a cell at once
no_wides : (ps : List FramePart) → chosen_wides roll ps ≡ []
unfolding after_mark expression conjunction compared total product name_token dimensions
no_wides ps = refl

some_of : {A : Type 0} (p : A → Bool) (xs : List A) → list_any p xs ≡ true → (x : A) × Contains xs x × (p x ≡ true)
some_of p [] e = absurd (let both : false ≡ true = e in cc)
some_of p (x ∷ xs) e = by (p x) refl (some_of p xs)
  where
    by : (b : Bool) → p x ≡ b → (list_any p xs ≡ true → (y : _) × Contains xs y × (p y ≡ true)) → (y : _) × Contains (x ∷ xs) y × (p y ≡ true)
    by true passed later = (x, (0, omega arith, refl), passed)
    by false failed later = let rest = later (rw failed at e) in (rest.0, in_tail x rest.0 xs rest.1, rest.2)

module _ (a : AnalysisValue) (is : IsAnalysis roll a) (config : ConfigValue) (valid : IsValid (program 1) config) (n : ℕ) (some : 1 ≤ n) (few : n ≤ 256) where
  abbrev sizes : List ℕ
  sizes = n ∷ []

  range : InRange (leasts_of roll.ranges) sizes
  range = subst (λ l. InRange l sizes) (sym roll_leasts) (some, omega (arith, few), tt)

  abbrev instance : IsInstance 0 roll a sizes
  instance = record { program = program 1; well_formed = well; sound = roll_accepted.sound; there = roll_there; found = is; in_range = range }

  abbrev jobs : List JobValue
  jobs = jobs_for config 0 roll a sizes 16

  abbrev parts : List FramePart
  parts = parts_of config 0 roll sizes a.nodes

  abbrev here : ℕ → List FramePart
  here l = in_layer a.order parts l

  abbrev of_layer : ℕ × LayerValue → List JobValue
  of_layer l = layer_jobs roll 16 (here l.0) l

  blocks_alone : (l : ℕ × LayerValue) → of_layer l ≡ map (block_job roll l.0 (here l.0)) (blocks roll l.1 16 (here l.0))
  blocks_alone l = ap (λ (ks : List ℕ). map (wide_job l.0 (here l.0)) ks ++ map (block_job roll l.0 (here l.0)) (blocks roll l.1 16 (here l.0))) (no_wides (here l.0))

  -- a job is a block with a part that has a place
  pub record IsBlock (job : JobValue) : Type 0 where
    pub rule : job.rule ≡ None
    pub part : FramePart
    pub has : Contains job.parts part
    pub node : NodeValue
    pub there : slice_get a.nodes part.node ≡ Some node
    pub wide : part.rect.x0 < part.rect.x1
    pub high : part.rect.y0 < part.rect.y1

  block_is : (l : ℕ × LayerValue) (r : Rect) → Contains (blocks roll l.1 16 (here l.0)) r → IsBlock (block_job roll l.0 (here l.0) r)
  block_is l r has =
      let kept = filter_in (has_block roll (here l.0)) (squares l.1 16 (here l.0)) r has in
      let one = some_of (is_block_part roll r) (here l.0) kept.1 in
      let among = filter_in (is_in_layer a.order l.0) parts one.0 one.1 in
      let of = of_part 0 roll a sizes instance config one.0 among.0 in
      let place = and_parts _ (has_place (cut_by r one.0.rect)) one.2 in
      let both = and_parts (nat_lt (cut_by r one.0.rect).x0 (cut_by r one.0.rect).x1) (nat_lt (cut_by r one.0.rect).y0 (cut_by r one.0.rect).y1) place.1 in
      record {
        rule = refl;
        part = within r one.0;
        has = in_map (within r) (filter (is_block_part roll r) (here l.0)) one.0 (in_filter (is_block_part roll r) (here l.0) one.0 one.1 one.2);
        node = of.0;
        there = of.1;
        wide = grind (arith, nat_tests, both.0);
        high = grind (arith, nat_tests, both.1);
      }

  each_block : (job : JobValue) → Contains jobs job → IsBlock job
  each_block job has =
      let at = flat_in of_layer (enumerate_from 0 a.order.layers) job has in
      let from = map_in (block_job roll at.0.0 (here at.0.0)) (blocks roll at.0.1 16 (here at.0.0)) job (subst (λ js. Contains js job) (blocks_alone at.0) at.2) in
      subst IsBlock from.2 (block_is at.0 from.0 from.1)

  -- ---- each job makes a cell, and no two the same
  abbrev cell : ℕ → Cell
  cell x = record { matrix = 1; x = x; y = 0 }

  made_is : (c : Cell) → IsMadeCell roll sizes c → (c ≡ cell c.x) × (c.x < n)
  made_is c m = by c.matrix m.cell.decl m.cell.there (omega (arith, m.made, one_input)) refl m.cell.before_x m.cell.before_y
    where
      by : (k : ℕ) (d : DeclValue) → slice_get roll.matrices k ≡ Some d → 1 ≤ k → c.matrix ≡ k → pos c.x <ℤ exact_value d.w sizes → pos c.y <ℤ exact_value d.h sizes → (c ≡ cell c.x) × (c.x < n)
      by zero d at low e across down = absurd (omega (arith, low))
      by (suc (suc k)) d at low e across down = absurd (none-some d (sym (no_third k) ∙ at))
      by (suc zero) d at low e across down =
          let same : made ≡ d = same_Some _ _ (sym made_there ∙ at) in
          let wide : exact_value d.w sizes ≡ pos n = ap (λ (f : DeclValue). exact_value f.w sizes) (sym same) ∙ (sides_of_made n).0 in
          let flat : exact_value d.h sizes ≡ pos 1 = ap (λ (f : DeclValue). exact_value f.h sizes) (sym same) ∙ (sides_of_made n).1 in
          let low_y : c.y ≡ 0 = omega (arith, ints, down, flat) in
          (ap₂ (λ (q y : ℕ). (let r : Cell = record { matrix = q; x = c.x; y = y } in r)) e low_y, omega (arith, ints, across, wide))

  is_made : (x : ℕ) → x < n → IsMadeCell roll sizes (cell x)
  is_made x below = record {
    cell = record { in_range = range; decl = made; there = made_there; before_x = omega (arith, ints, below, (sides_of_made n).0); before_y = omega (arith, ints, (sides_of_made n).1) };
    made = omega (arith, one_input);
  }

  owner : (x : ℕ) → (x < n) ⊎ (n ≤ x) → ℕ
  owner x (inl below) = (made_by config 0 roll a sizes 16 instance valid (cell x) (is_made x below)).0
  owner x (inr past) = 0

  owner_is : (x : ℕ) (w : (x < n) ⊎ (n ≤ x)) → x < n → (j k : ℕ) → IsMadeBy jobs a.nodes (cell x) j k → owner x w ≡ j
  unfolding owner
  owner_is x (inl below) in_it j k m = let it = made_by config 0 roll a sizes 16 instance valid (cell x) (is_made x below) in (made_once config 0 roll a sizes 16 instance (cell x) it.0 it.1 j k it.2 m).0
  owner_is x (inr past) in_it j k m = absurd (omega (arith, in_it, past))

  abbrev owner_of : ℕ → ℕ
  owner_of x = owner x (cases_lt x n)

  has_owner : (j : ℕ) → j < length jobs → Contains (map owner_of (range_with_len 0 n)) j
  has_owner j below =
      let job = some_at jobs j below in
      let b = each_block job.0 (in_at jobs j job.0 job.1) in
      let k = at_in job.0.parts b.part b.has in
      let c : Cell = record { matrix = b.node.matrix; x = b.part.rect.x0; y = b.part.rect.y0 } in
      let holds : HoldsCell a.nodes b.part c = record { node = b.node; there = b.there; matrix = refl; place = record { left = omega arith; right = b.wide; low = omega arith; high = b.high } } in
      let makes : IsMadeBy jobs a.nodes c j k.0 = record { job = job.0; is = job.1; part = b.part; has = k.1; holds = holds } in
      let it = made_is c (made_cell config 0 roll a sizes 16 instance c j k.0 makes) in
      subst (Contains (map owner_of (range_with_len 0 n))) (owner_is c.x (cases_lt c.x n) it.1 j k.0 (subst (λ q. IsMadeBy jobs a.nodes q j k.0) it.0 makes))
      (in_map owner_of (range_with_len 0 n) c.x (in_range n c.x it.1))
    where
      some_at : {A : Type 0} (xs : List A) (k : ℕ) → k < length xs → (x : A) × (slice_get xs k ≡ Some x)
      some_at [] k b = absurd (omega (arith, b))
      some_at (x ∷ xs) zero b = (x, refl)
      some_at (x ∷ xs) (suc k) b = some_at xs k (omega (arith, b))

  jobs_few : length jobs ≤ n
  jobs_few = omega (arith, as_long (length jobs) (map owner_of (range_with_len 0 n)) has_owner, length-map (range_with_len 0 n) owner_of, length-range_with_len 0 n)

  -- ---- its steps
  module _ (i : Instance) (deeper : Option Unroll) where
    one_each : (js : List JobValue) (k : Met) → AllByRecursion (λ (job : JobValue). job.rule ≡ None) js → length (jobs_done (program 1) deeper i js k).steps ≡ length js
    one_each [] k each = refl
    one_each (job ∷ rest) k each =
        subst (λ (d : Done). length (d.steps ++ (jobs_done (program 1) deeper i rest d.next).steps) ≡ suc (length rest)) (sym (ap (λ (o : Option ℕ). job_done (program 1) deeper i o job k) each.0))
        (ap suc (one_each rest k each.1))

  module _ (found : List AnalysisValue) (there : slice_get found 0 ≡ Some a) (given : List Seat) (m : Met) (bound : sizes_from roll (map sides_of_seat given) ≡ sizes) where
    one_is : (deeper : Option Unroll) → unroll_one (program 1) found config 16 deeper 0 given m ≡ unrolled_at (program 1) found config 16 deeper 0 roll a sizes given m
    one_is deeper =
        ap (λ (o : Option ProgTransform). option_map_or (found_for (program 1) found config 16 deeper 0 given m) o (no_unrolled m)) roll_there
        ∙ ap (λ (o : Option AnalysisValue). option_map_or (unrolled_of (program 1) found config 16 deeper 0 given m roll) o (no_unrolled m)) there
        ∙ ap (λ (ks : List ℕ). unrolled_at (program 1) found config 16 deeper 0 roll a ks given m) bound

    unroll_is : (d : ℕ) → unroll (program 1) found config 16 d 0 given m ≡ unrolled_at (program 1) found config 16 (deeper_unroll (program 1) found config 16 d) 0 roll a sizes given m
    unfolding unroll
    unroll_is zero = one_is None
    unroll_is (suc d) = one_is (Some (unroll (program 1) found config 16 d))

    steps_few : (d : ℕ) → length (unroll (program 1) found config 16 d 0 given m).steps ≤ n
    steps_few d =
        subst (λ (u : Unrolled). length u.steps ≤ n) (sym (unroll_is d))
        (omega (arith, one_each (instance_of 0 roll a sizes given m) (deeper_unroll (program 1) found config 16 d) jobs (after_matrices (after_call m) (own_sides roll sizes)) (each_in (λ (job : JobValue). job.rule ≡ None) jobs (λ job has. (each_block job has).rule)), jobs_few))

-- ---- links
few_links : (ss : List Step) → link_count (map places_of ss) ≤ length ss * length ss
unfolding predecessors
few_links ss =
    let tasks = length-map ss places_of in
    let numbers = length-range_with_len 0 (length (map places_of ss)) in
    let lists = length-map (range_with_len 0 (length (map places_of ss))) (predecessors (map places_of ss)) in
    let each = All-map (λ (l : List ℕ). length l ≤ length ss) (predecessors (map places_of ss)) (range_with_len 0 (length (map places_of ss)))
    (λ k d below. omega (arith, kept_fewer (λ u. precedes (map places_of ss) u (get_or (range_with_len 0 (length (map places_of ss))) k d)) (range_with_len 0 (length (map places_of ss))), numbers, tasks)) in
    let most = sum_by-le length (length ss) (map (predecessors (map places_of ss)) (range_with_len 0 (length (map places_of ss)))) each in
    omega (arith, most, ap (λ (k : ℕ). k * length ss) (lists ∙ numbers ∙ tasks))

-- what is found of the rolling sum
first_found : (found : List AnalysisValue) → AllZip IsAnalysis (roll ∷ []) found → (a : AnalysisValue) × (slice_get found 0 ≡ Some a) × IsAnalysis roll a
first_found [] are = absurd are
first_found (a ∷ found) are = (a, refl, are.0)

one_size : (n : ℕ) → sizes_from roll ((pos n, pos 1) ∷ []) ≡ n ∷ []
unfolding after_mark expression conjunction compared total product name_token dimensions sizes_from
one_size n = refl

pub roll_within : (config : ConfigValue) → IsValid (program 1) config → (found : List AnalysisValue) → AreFound (program 1) found → (d n : ℕ) → 1 ≤ n → n ≤ 256
    → (let steps : List Step = (unrolled_run (program 1) found config 16 d 0 ((pos n, pos 1) ∷ [])).steps in (length steps ≤ MOST_TASKS) × (link_count (map places_of steps) ≤ MOST_LINKS))
roll_within config valid found are d n some few =
    let it = first_found found (subst (λ p. AllZip IsAnalysis p found) roll_is are) in
    let steps : List Step = (unrolled_run (program 1) found config 16 d 0 ((pos n, pos 1) ∷ [])).steps in
    let wide : n - 0 ≡ n = omega arith in
    let high : 1 - 0 ≡ 1 = omega arith in
    let bound : sizes_from roll (map sides_of_seat (seats_from nothing_met ((pos n, pos 1) ∷ []))) ≡ n ∷ [] = ap (λ (s : Sides). sizes_from roll (s ∷ [])) (same_sides wide high) ∙ one_size n in
    let less = steps_few it.0 it.2 config valid n some few found it.1 (seats_from nothing_met ((pos n, pos 1) ∷ [])) (after_matrices nothing_met ((pos n, pos 1) ∷ [])) bound d in
    let at_most : length steps ≤ 256 = omega (arith, less, few) in
    let most : length steps * length steps ≤ 256 * 256 = mul-le-mul at_most at_most in
    (omega (arith, less, few), omega (arith, few_links steps, most))
