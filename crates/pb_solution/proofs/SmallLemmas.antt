-- The outcomes of a run are small.
use Rattle.std.proofs.Common.{◌≡◌, ◌∙◌, refl, sym, ap, subst, inl, inr, ◌⊎◌, ⊎_elim, ℕ, zero, suc, ◌+◌, ◌-◌, ◌*◌, ◌≤◌, ◌<◌, ℤ, pos, negsuc, ◌<ℤ◌, Bool, true, false, ◌&&◌, List, [], ◌∷◌, length, map, drop, get_or, slice_get, Option, Some, None, arith}
use Rattle.std.specs.Prelude.{nat_lt, slice_index_or, unwrap_or}
use Rattle.std.specs.List.{All, AllByRecursion, Contains, flat_map, range_with_len}
use Rattle.std.specs.Option.{option_map, option_or}
use Rattle.std.proofs.Math.Bool.{cond}
use Rattle.std.proofs.lemmas.Bool.{cases_lt}
use Rattle.std.proofs.lemmas.Int.{ints}
use Rattle.std.proofs.lemmas.Option.{slice_get-get_or}
use Rattle.pb_linear.specs.Numbers.{exact_value}
use Rattle.pb_values.specs.declared.outcome.Outcome.{Outcome}
use Rattle.pb_values.specs.declared.view.View.{View}
use Rattle.pb_base.specs.Systems.{all_there, made, solved}
use Rattle.pb_base.proofs.ListLemmas.{at_in, flat_in, in_at, map_in, range_in}
use Rattle.pb_program.specs.Configs.{ConfigValue}
use Rattle.pb_program.specs.Forms.{DeclValue}
use Rattle.pb_program.specs.Trees.{ProgRule, ProgTransform}
use Rattle.pb_program.specs.declared.rule.RuleKind.TheVariants as kind
use Rattle.pb_model.specs.Calls.{Outcomes, Plans, call_of, cell_equation, cell_outcome, cell_reads, equations, in_matrices, made_cells, matrix_cells, no_outcome, rule_of}
use Rattle.pb_model.specs.Cells.{Cell, IsCell, natural}
use Rattle.pb_model.specs.Chosen.{chosen_rule}
use Rattle.pb_model.specs.Grids.{at_place as in_grid, no_grid}
use Rattle.pb_check.specs.Orders.{AnalysisValue}
use Rattle.pb_check.specs.Ranked.{IsMadeCell}
use Rattle.pb_check.proofs.FirstLemmas.{all_at, some_at}
use Rattle.pb_frame.specs.Choices.{IsInstance}
use Rattle.pb_taskgraph.specs.Graphs.{TaskValue}
use Rattle.pb_taskgraph.specs.Plans.{IsSmall}
use Rattle.pb_solution.specs.Solutions.{IsRun, all_matrices, outcomes_of}
use Rattle.pb_solution.proofs.MayLemmas.{read_inside}
use Rattle.pb_solution.proofs.RuleLemmas.{all_mapped, equation_small, zero_small}
use Rattle.pb_solution.proofs.OutcomeLemmas.{below_test, dropped_at, get_left, get_right, index_at, made_at as made_matrix_at, matrix_is, placed}

-- ---- what may be missing
abbrev SmallIf : Option Outcome → Type 0
SmallIf None = Unit {0}
SmallIf (Some o) = IsSmall o

abbrev AreSmallIf : Option (List Outcome) → Type 0
AreSmallIf None = Unit {0}
AreSmallIf (Some os) = AllByRecursion IsSmall os

small_or : (p q : Option Outcome) → SmallIf p → SmallIf q → SmallIf (option_or p q)
small_or None q h k = k
small_or (Some o) q h k = h

small_map : (f : List Outcome → Outcome) (r : Option (List Outcome)) → ((os : List Outcome) → AllByRecursion IsSmall os → IsSmall (f os)) → AreSmallIf r → SmallIf (option_map f r)
small_map f None small h = tt
small_map f (Some os) small h = small os h

small_there : (os : List (Option Outcome)) → AllByRecursion SmallIf os → AreSmallIf (all_there os)
small_there [] h = tt
small_there (None ∷ os) h = tt
small_there (Some o ∷ os) h = more (all_there os) (small_there os h.1)
  where
    more : (r : Option (List Outcome)) → AreSmallIf r → AreSmallIf (option_map (λ (xs : List Outcome). o ∷ xs) r)
    more None k = tt
    more (Some xs) k = (h.0, k)

-- ---- given matrices
abbrev AreSmall : Outcomes → Type 0
AreSmall g = All IsSmall g.cells

small_index : (ms : List Outcomes) → All AreSmall ms → (m : ℕ) → AreSmall (slice_index_or ms m no_grid)
small_index [] h m = λ k d below. absurd (omega (arith, below))
small_index (g ∷ ms) h zero = h 0 g (omega arith)
small_index (g ∷ ms) h (suc m) = small_index ms (λ k d below. h (suc k) d (omega (arith, below))) m

small_get : (os : List Outcome) → All IsSmall os → (k : ℕ) → SmallIf (slice_get os k)
small_get os h k = by (slice_get os k) refl
  where
    by : (o : Option Outcome) → slice_get os k ≡ o → SmallIf o
    by None e = tt
    by (Some o) e = all_at IsSmall os k o h e

small_place : (g : Outcomes) → AreSmall g → (x y : ℕ) → SmallIf (in_grid g x y)
small_place g h x y = by (nat_lt x g.width) (nat_lt y g.height)
  where
    by : (p q : Bool) → SmallIf (cond (p && q) (slice_get g.cells (y * g.width + x)) None)
    by true true = small_get g.cells h (y * g.width + x)
    by true false = tt
    by false q = tt

small_unwrap : (o : Option Outcome) → SmallIf o → IsSmall (unwrap_or o no_outcome)
small_unwrap None h = zero_small
small_unwrap (Some o) h = h

module _ (config : ConfigValue) (plans : Plans) (number : ℕ) (t : ProgTransform) (a : AnalysisValue) (sizes : List ℕ) (grain : ℕ) (ins : List Outcomes) (views : List View) (tasks : List TaskValue) (run : IsRun config plans number t a sizes grain ins views tasks) where
  abbrev i : IsInstance number t a sizes
  i = run.instance

  computes : (c : Cell) (r : ProgRule) → rule_of config plans number t sizes c ≡ Some r → r.kind ≡ kind.Plan → ⊥
  computes c r e = all_at (λ (q : ProgRule). q.kind ≡ kind.Plan → ⊥) t.rules (chosen_rule config number t sizes c) r run.computes e

  -- ---- round by round
  given_small : (c : Cell) → SmallIf (in_matrices ins c)
  unfolding in_matrices
  given_small c = small_place (slice_index_or ins c.matrix no_grid) (small_index ins run.small c.matrix) c.x c.y

  test_small : (b : Bool) (c : Cell) → SmallIf (cond b (in_matrices ins c) None)
  test_small true c = given_small c
  test_small false c = tt

  all_solved : (f : Cell → Option Outcome) (cs : List Cell) → ((d : Cell) → Contains cs d → SmallIf (f d)) → AllByRecursion SmallIf (map f cs)
  all_solved f cs h = all_mapped SmallIf f cs h

  -- a cell is given, or made
  abbrev IsHere : Cell → Type 0
  IsHere c = ((o : Outcome) × ((equations config plans number t sizes ins).given c ≡ Some o)) ⊎ IsMadeCell t sizes c

  -- what is read is
  here_is : (c d : Cell) → IsMadeCell t sizes c → Contains (cell_reads config plans number t sizes c) d → IsHere d
  unfolding in_matrices
  here_is c d made h = ⊎_elim
      (λ (low : d.matrix < t.inputs).
      let g = some_at ins d.matrix (omega (arith, low, run.given.count)) in
      let o = placed sizes inside.decl g.0 d.x d.y (run.given.each d.matrix inside.decl g.0 inside.there g.1) (side_below (exact_value inside.decl.w sizes) d.x inside.before_x) (side_below (exact_value inside.decl.h sizes) d.y inside.before_y) in
      inl (o.0, ap (λ b. cond b (in_matrices ins d) None) (below_test sizes d.matrix t.inputs low) ∙ ap (λ (q : Outcomes). in_grid q d.x d.y) (index_at ins d.matrix g.0 no_grid g.1) ∙ o.2))
      (λ (high : t.inputs ≤ d.matrix). inr (record { cell = inside; made = high }))
      (cases_lt d.matrix t.inputs)
    where
      inside : IsCell t sizes d
      inside = read_inside config plans number t a sizes grain ins views tasks run c d made h

      side_below : (z : ℤ) (n : ℕ) → pos n <ℤ z → n < natural z
      side_below (pos k) n h = omega (arith, ints, h)
      side_below (negsuc k) n h = absurd (omega (arith, ints, h))

  solved_small : (k : ℕ) (c : Cell) → IsHere c → SmallIf (solved (equations config plans number t sizes ins) k c)
  solved_small zero c here = test_small (nat_lt c.matrix t.inputs) c
  solved_small (suc k) c (inl g) = rw g.1 (subst SmallIf g.1 (test_small (nat_lt c.matrix t.inputs) c))
  solved_small (suc k) c (inr m) = small_or ((equations config plans number t sizes ins).given c) (made (equations config plans number t sizes ins) (solved (equations config plans number t sizes ins) k) c) (test_small (nat_lt c.matrix t.inputs) c)
      (small_map (cell_equation config plans number t sizes c) _ (equation_small config plans number t a sizes grain i run.valid run.room.sides c m (computes c)) (small_there _ (all_mapped SmallIf (solved (equations config plans number t sizes ins) k) (cell_reads config plans number t sizes c) (λ d h. solved_small k d (here_is c d m h)))))

  outcome_small : (c : Cell) → IsMadeCell t sizes c → IsSmall (cell_outcome config plans number t sizes ins c)
  unfolding cell_outcome
  outcome_small c m = small_unwrap (solved (equations config plans number t sizes ins) (suc (length (made_cells t sizes))) c) (solved_small (suc (length (made_cells t sizes))) c (inr m))

  -- ---- all of them
  all_contained : {A : Type 0} (P : A → Type 0) (xs : List A) → ((x : A) → Contains xs x → P x) → All P xs
  all_contained P xs f k d below = f (get_or xs k d) (in_at xs k (get_or xs k d) (slice_get-get_or xs k d below))

  below_side : (z : ℤ) (n : ℕ) → n < natural z → pos n <ℤ z
  below_side (pos k) n h = omega (arith, ints, h)
  below_side (negsuc k) n h = absurd (omega (arith, h))

  -- a cell of a matrix that rules make
  cell_made : (k : ℕ) (d : DeclValue) → slice_get (drop t.inputs t.matrices) k ≡ Some d → (c : Cell) → Contains (matrix_cells sizes (t.inputs + k) d) c → IsMadeCell t sizes c
  cell_made k d there c h =
      let m = t.inputs + k in
      let w = natural (exact_value d.w sizes) in
      let rows = subst (λ (l : List Cell). Contains l c) (matrix_is sizes m d) h in
      let r = flat_in (λ y. map (λ x. record { matrix = m; x = x; y = y }) (range_with_len 0 w)) (range_with_len 0 (natural (exact_value d.h sizes))) c rows in
      let q = map_in (λ x. record { matrix = m; x = x; y = r.0 }) (range_with_len 0 w) c r.2 in
      subst (IsMadeCell t sizes) q.2 (record {
        cell = record { in_range = i.in_range; decl = d; there = dropped_at config plans number t sizes ins t.matrices t.inputs k d there; before_x = below_side (exact_value d.w sizes) q.0 (range_in w q.0 q.1); before_y = below_side (exact_value d.h sizes) r.0 (range_in (natural (exact_value d.h sizes)) r.0 r.1) };
        made = omega arith;
      })

  matrix_small : (g : Outcomes) → Contains (all_matrices config plans number t sizes ins) g → (o : Outcome) → Contains g.cells o → IsSmall o
  unfolding call_of
  matrix_small g h o of = ⊎_elim
      (λ (low : p.0 < length ins).
      let small = all_at AreSmall ins p.0 g run.small (sym (get_left ins (call_of config plans number t sizes ins) p.0 low) ∙ p.1) in
      let q = at_in g.cells o of in
      all_at IsSmall g.cells q.0 o small q.1)
      (λ (high : length ins ≤ p.0).
      let k : ℕ = p.0 - length ins in
      let back : p.0 ≡ length ins + k = omega (arith, high) in
      let from = made_matrix_at config plans number t sizes ins t.inputs (drop t.inputs t.matrices) k g (sym (get_right ins (call_of config plans number t sizes ins) k) ∙ ap (slice_get (all_matrices config plans number t sizes ins)) (sym back) ∙ p.1) in
      let c = map_in (cell_outcome config plans number t sizes ins) (matrix_cells sizes (t.inputs + k) from.0) o (subst (λ (q : Outcomes). Contains q.cells o) from.2 of) in
      subst IsSmall c.2 (outcome_small c.0 (cell_made k from.0 from.1 c.0 c.1)))
      (cases_lt p.0 (length ins))
    where
      p : (m : ℕ) × (slice_get (all_matrices config plans number t sizes ins) m ≡ Some g)
      p = at_in (all_matrices config plans number t sizes ins) g h

  pub all_small : All IsSmall (outcomes_of (all_matrices config plans number t sizes ins))
  unfolding outcomes_of
  all_small = all_contained IsSmall (flat_map (λ (m : Outcomes). m.cells) (all_matrices config plans number t sizes ins)) (λ o h. let g = flat_in (λ (m : Outcomes). m.cells) (all_matrices config plans number t sizes ins) o h in matrix_small g.0 g.1 o g.2)
