-- The graph of two tasks that make given outcomes, and what they may read.
use Rattle.std.proofs.Common.{◌≡◌, ◌∙◌, refl, sym, ap, subst, ◌⊎◌, inl, inr, ⊎_elim, ℕ, zero, suc, ◌<◌, ◌≤◌, ◌+◌, ◌-◌, ◌*◌, List, [], ◌∷◌, ◌++◌, length, get_or, map, take, Some, slice_get, arith}
use Rattle.std.specs.List.{All, Contains, range_with_len}
use Rattle.std.proofs.lemmas.Bool.{cases_lt}
use Rattle.std.proofs.lemmas.List.{append-nil, get_or-take, length-take}
use Rattle.std.proofs.lemmas.List.Elements.{All-from_recursion}
use Rattle.std.proofs.lemmas.List.FromFn.{get_or-range_with_len, length-range_with_len}
use Rattle.std.proofs.lemmas.List.Sums.{sum_by-le}
use Rattle.pb_base.proofs.ListLemmas.{in_head, in_none}
use Rattle.pb_taskgraph.specs.Graphs.{EachOnce, GraphValue, IsGraph, TaskValue, after_of, before_of, cells_of}
use Rattle.pb_taskgraph.specs.Plans.{IsPlan, IsSmall, outcome_at}
use Rattle.pb_values.specs.Cells.{Turn}
use Rattle.pb_values.specs.declared.outcome.Outcome.{Outcome}
use Rattle.pb_taskgraph.specs.Turns.{Begins, MayRead, after_all, after_some, after_write}
use Rattle.pb_taskgraph.proofs.GraphLemmas.{after-at, after-past, before-at, before-past, cells-at, cells-past}
use Rattle.pb_taskgraph.proofs.TurnLemmas.{all-written, may-write, written}
use Rattle.pb_run_trials.specs.Given.{GivenValue, IsGiven, IsPiece, IsSplit, given_plan, width_of}
use Rattle.pb_run_trials.proofs.SumsLemmas.{none-once, one-in, one-once}

-- the cells of a view of one row
pub row_range : (first step w : ℕ) → (map (λ x. first + (x * 1 + 0 * step)) (range_with_len 0 w) ++ []) ++ [] ≡ range_with_len first w
row_range first step w =
    append-nil (map (λ x. first + (x * 1 + 0 * step)) (range_with_len 0 w) ++ [])
    ∙ (append-nil (map (λ x. first + (x * 1 + 0 * step)) (range_with_len 0 w))
    ∙ go 0 first w (omega arith))
  where
    go : (a b n : ℕ) → first + a ≡ b → map (λ x. first + (x * 1 + 0 * step)) (range_with_len a n) ≡ range_with_len b n
    go a b zero e = refl
    go a b (suc n) e = let here : first + (a * 1 + 0 * step) ≡ b = omega arith in
        ap (λ k. k ∷ map (λ x. first + (x * 1 + 0 * step)) (range_with_len (a + 1) n)) here ∙ ap (λ l. b ∷ l) (go (a + 1) (b + 1) n (omega arith))

-- consecutive numbers
range-in : (a n c : ℕ) → Contains (range_with_len a n) c → (a ≤ c) × (c < a + n)
range-in a n c (i, inside, at) =
    let below : i < n = omega (arith, length-range_with_len a n) in
    let is = get_or-range_with_len a n i c below in (omega arith, omega arith)

in-range : (a n c : ℕ) → a ≤ c → c < a + n → Contains (range_with_len a n) c
in-range a n c least most = let i = c - a in let below : i < n = omega arith in (i, omega (arith, length-range_with_len a n), omega (arith, get_or-range_with_len a n i c below))

range-once : (a n : ℕ) → EachOnce (range_with_len a n)
range-once a n i j below inside same =
    let size = length-range_with_len a n in
    omega (arith, get_or-range_with_len a n i 0 (omega arith), get_or-range_with_len a n j 0 (omega arith))

pub linked-piece : (first w : ℕ) (before after earlier later : List ℕ) (task : TaskValue) → IsPiece first w before after task → before ≡ earlier → after ≡ later → IsPiece first w earlier later task
linked-piece first w before after earlier later task is e f = record { cells = is.cells; before = is.before ∙ e; after = is.after ∙ f }

module _ (n : ℕ) (g : GraphValue) (s : IsSplit n g) where
  pub size : length g.tasks ≡ 2
  size = ap length s.tasks

  cells-one : cells_of g 0 ≡ range_with_len g.inputs 1
  cells-one = cells-at g 0 s.one (omega (arith, size)) (sym (ap (λ ts. get_or ts 0 s.one) s.tasks)) ∙ s.one_is.cells

  cells-two : cells_of g 1 ≡ range_with_len (g.inputs + 1) n
  cells-two = cells-at g 1 s.two (omega (arith, size)) (sym (ap (λ ts. get_or ts 1 s.two) s.tasks)) ∙ s.two_is.cells

  pub own-cells : (t : ℕ) → t < 2 → cells_of g t ≡ range_with_len (g.inputs + t) (width_of n t)
  own-cells zero below = cells-one ∙ (let e : g.inputs ≡ g.inputs + 0 = omega arith in ap (λ a. range_with_len a 1) e)
  own-cells (suc zero) below = cells-two
  own-cells (suc (suc t)) below = absurd (omega arith)

  -- a cell of a task
  inside : (t c : ℕ) → Contains (cells_of g t) c → (t < 2) × (g.inputs + t ≤ c) × (c < g.inputs + t + width_of n t)
  inside t c h = ⊎_elim
      (λ (below : t < 2). let at = range-in (g.inputs + t) (width_of n t) c (subst (λ l. Contains l c) (own-cells t below) h) in (below, at.0, at.1))
      (λ (past : 2 ≤ t). absurd (in_none c (subst (λ l. Contains l c) (cells-past g t (omega (arith, size))) h)))
      (cases_lt t 2)

  pub holds : (t c : ℕ) → t < 2 → g.inputs + t ≤ c → c < g.inputs + t + width_of n t → Contains (cells_of g t) c
  holds t c below least most = subst (λ l. Contains l c) (sym (own-cells t below)) (in-range (g.inputs + t) (width_of n t) c least most)

  once : (t : ℕ) → EachOnce (cells_of g t)
  once t = ⊎_elim
      (λ (below : t < 2). subst EachOnce (sym (own-cells t below)) (range-once (g.inputs + t) (width_of n t)))
      (λ (past : 2 ≤ t). subst EachOnce (sym (cells-past g t (omega (arith, size)))) none-once)
      (cases_lt t 2)

  bounds : (t c : ℕ) → Contains (cells_of g t) c → (t ≡ 0) × (c ≡ g.inputs) ⊎ (t ≡ 1) × (g.inputs + 1 ≤ c) × (c < g.cells)
  bounds zero c h = let at = inside 0 c h in inl (refl, omega arith)
  bounds (suc zero) c h = let at = inside 1 c h in inr (refl, omega arith, omega (arith, s.cells))
  bounds (suc (suc t)) c h = let at = inside (suc (suc t)) c h in absurd (omega arith)

  -- the links
  pub before-one : before_of g 0 ≡ []
  before-one = before-at g 0 s.one (omega (arith, size)) (sym (ap (λ ts. get_or ts 0 s.one) s.tasks)) ∙ s.one_is.before

  pub before-two : before_of g 1 ≡ 0 ∷ []
  before-two = before-at g 1 s.two (omega (arith, size)) (sym (ap (λ ts. get_or ts 1 s.two) s.tasks)) ∙ s.two_is.before

  pub after-one : after_of g 0 ≡ 1 ∷ []
  after-one = after-at g 0 s.one (omega (arith, size)) (sym (ap (λ ts. get_or ts 0 s.one) s.tasks)) ∙ s.one_is.after

  pub after-two : after_of g 1 ≡ []
  after-two = after-at g 1 s.two (omega (arith, size)) (sym (ap (λ ts. get_or ts 1 s.two) s.tasks)) ∙ s.two_is.after

  successor : Contains (after_of g 0) 1
  successor = subst (λ l. Contains l 1) (sym after-one) (in_head 1 [])

  successors : (t u : ℕ) → Contains (after_of g t) u → (t ≡ 0) × (u ≡ 1)
  successors zero u h = (refl, sym (one-in 1 u (subst (λ l. Contains l u) after-one h)))
  successors (suc zero) u h = absurd (in_none u (subst (λ l. Contains l u) after-two h))
  successors (suc (suc t)) u h = absurd (in_none u (subst (λ l. Contains l u) (after-past g (suc (suc t)) (omega (arith, size))) h))

  predecessor : Contains (before_of g 1) 0
  predecessor = subst (λ l. Contains l 0) (sym before-two) (in_head 0 [])

  predecessors : (t u : ℕ) → Contains (before_of g t) u → (t ≡ 1) × (u ≡ 0)
  predecessors zero u h = absurd (in_none u (subst (λ l. Contains l u) before-one h))
  predecessors (suc zero) u h = (refl, sym (one-in 0 u (subst (λ l. Contains l u) before-two h)))
  predecessors (suc (suc t)) u h = absurd (in_none u (subst (λ l. Contains l u) (before-past g (suc (suc t)) (omega (arith, size))) h))

  before-once : (t : ℕ) → EachOnce (before_of g t)
  before-once zero = subst EachOnce (sym before-one) none-once
  before-once (suc zero) = subst EachOnce (sym before-two) (one-once 0)
  before-once (suc (suc t)) = subst EachOnce (sym (before-past g (suc (suc t)) (omega (arith, size)))) none-once

  after-once : (t : ℕ) → EachOnce (after_of g t)
  after-once zero = subst EachOnce (sym after-one) (one-once 1)
  after-once (suc zero) = subst EachOnce (sym after-two) none-once
  after-once (suc (suc t)) = subst EachOnce (sym (after-past g (suc (suc t)) (omega (arith, size)))) none-once

  few-links : All (λ (t : TaskValue). length t.before ≤ 1) g.tasks
  few-links = subst (All (λ (t : TaskValue). length t.before ≤ 1)) (sym s.tasks) few
    where
      few : All (λ (t : TaskValue). length t.before ≤ 1) (s.one ∷ s.two ∷ [])
      few zero d below = omega (arith, ap length s.one_is.before)
      few (suc zero) d below = omega (arith, ap length s.two_is.before)
      few (suc (suc i)) d below = absurd (omega arith)

  pub split-graph : IsGraph g
  split-graph = record {
    partition = record {
      inputs = omega (arith, s.cells);
      past = λ t c h. ⊎_elim (λ (one : (t ≡ 0) × (c ≡ g.inputs)). (omega arith, omega (arith, s.cells))) (λ (two : (t ≡ 1) × (g.inputs + 1 ≤ c) × (c < g.cells)). (omega arith, two.2)) (bounds t c h);
      some = λ c least below. ⊎_elim
          (λ (one : c < g.inputs + 1). (0, omega (arith, size), holds 0 c (omega arith) (omega arith) (omega arith)))
          (λ (two : g.inputs + 1 ≤ c). (1, omega (arith, size), holds 1 c (omega arith) (omega arith) (omega (arith, s.cells))))
          (cases_lt c (g.inputs + 1));
      one = λ t u c h k. ⊎_elim
          (λ (one : (t ≡ 0) × (c ≡ g.inputs)). ⊎_elim (λ (same : (u ≡ 0) × (c ≡ g.inputs)). omega arith) (λ (other : (u ≡ 1) × (g.inputs + 1 ≤ c) × (c < g.cells)). omega arith) (bounds u c k))
          (λ (two : (t ≡ 1) × (g.inputs + 1 ≤ c) × (c < g.cells)). ⊎_elim (λ (other : (u ≡ 0) × (c ≡ g.inputs)). omega arith) (λ (same : (u ≡ 1) × (g.inputs + 1 ≤ c) × (c < g.cells)). omega arith) (bounds u c k))
          (bounds t c h);
      once = once;
    };
    linked = record {
      smaller = λ t u h. let at = predecessors t u h in omega arith;
      mirrored = λ t u. (
        λ h. let at = predecessors t u h in subst (λ k. Contains (after_of g u) k) (sym at.0) (subst (λ k. Contains (after_of g k) 1) (sym at.1) successor),
        λ h. let at = successors u t h in subst (λ k. Contains (before_of g t) k) (sym at.0) (subst (λ k. Contains (before_of g k) 0) (sym at.1) predecessor),
      );
      before_once = before-once;
      after_once = after-once;
    };
    few_cells = omega (arith, s.few);
    few_tasks = omega (arith, size);
    few_links = let most = sum_by-le (λ (t : TaskValue). length t.before) 1 g.tasks few-links in omega (arith, size);
  }

-- the plan
module _ (w : GivenValue) (is : IsGiven w) where
  abbrev n : ℕ
  n = is.others

  pub given-is-plan : IsPlan (given_plan w)
  unfolding given_plan
  given-is-plan = record {
    graph = split-graph n w.graph is.split;
    size = is.size;
    small = All-from_recursion IsSmall w.outcomes is.small;
    listed = λ t c below. (λ h. h, λ h. h);
    once = λ t below. (split-graph n w.graph is.split).partition.once t;
  }

  module _ (t : ℕ) (task : t < length w.graph.tasks) where
    two : t < 2
    two = omega (arith, size n w.graph is.split)

    own : cells_of w.graph t ≡ range_with_len (w.graph.inputs + t) (width_of n t)
    own = own-cells n w.graph is.split t two

    wide : length (cells_of w.graph t) ≡ width_of n t
    wide = ap length own ∙ length-range_with_len (w.graph.inputs + t) (width_of n t)

    -- where its cells end
    pub given-first : t ≡ 0 → length (cells_of w.graph t) ≡ 1
    given-first e = wide ∙ ap (width_of n) e

    pub given-second : (t ≡ 0 → ⊥) → w.graph.inputs + t + length (cells_of w.graph t) ≡ w.graph.cells
    given-second e = let one : t ≡ 1 = omega (arith, two) in let others : length (cells_of w.graph t) ≡ n = wide ∙ ap (width_of n) one in omega (arith, is.split.cells)

    pub given-below : (k : ℕ) → k < length (cells_of w.graph t) → w.graph.inputs + t + k < w.graph.cells
    given-below k below = (is-graph.partition.past t (w.graph.inputs + t + k) (holds n w.graph is.split t (w.graph.inputs + t + k) two (omega arith) (omega (arith, wide)))).1
      where
        is-graph : IsGraph w.graph
        is-graph = split-graph n w.graph is.split

    pub given-next : (k : ℕ) → k < length (cells_of w.graph t) → get_or (cells_of w.graph t) k 0 ≡ w.graph.inputs + t + k
    given-next k below = ap (λ l. get_or l k 0) own ∙ get_or-range_with_len (w.graph.inputs + t) (width_of n t) k 0 (omega (arith, wide))

    -- every cell before the next one may be read
    pub given-reads : (k c : ℕ) → k ≤ length (cells_of w.graph t) → c < w.graph.inputs + t + k → MayRead (given_plan w) t k c
    unfolding given_plan
    given-reads k c few below = ⊎_elim
        (λ (input : c < w.graph.inputs). inl input)
        (λ (made : w.graph.inputs ≤ c). inr (⊎_elim
        (λ (earlier : c < w.graph.inputs + t). inl (0, before t (omega arith) two, holds n w.graph is.split 0 c (omega arith) (omega arith) (omega (arith, two))))
        (λ (now : w.graph.inputs + t ≤ c). inr (first (c - (w.graph.inputs + t)) (omega arith) (omega arith)))
        (cases_lt c (w.graph.inputs + t))))
        (cases_lt c w.graph.inputs)
      where
        before : (u : ℕ) → 0 < u → u < 2 → Contains (before_of w.graph u) 0
        before zero some few_u = absurd (omega arith)
        before (suc zero) some few_u = predecessor n w.graph is.split
        before (suc (suc u)) some few_u = absurd (omega arith)

        first : (i : ℕ) → i < k → w.graph.inputs + t + i ≡ c → Contains (take k (cells_of w.graph t)) c
        first i less at = (
          i,
          omega (arith, length-take k (cells_of w.graph t)),
          get_or-take k (cells_of w.graph t) i c less ∙ (ap (λ l. get_or l i c) own ∙ (get_or-range_with_len (w.graph.inputs + t) (width_of n t) i c (omega (arith, wide)) ∙ at)),
        )

    -- while it is run
    module _ (start : Turn) (b : Begins (given_plan w) t start) (first cell end : ℕ) (from : first ≡ w.graph.inputs + t) (to : end ≡ w.graph.inputs + t + length (cells_of w.graph t)) (least : first ≤ cell) (turn : Turn) (now : turn ≡ after_some (cell - first) start) where
      module _ (below : cell < end) where
        pub run-below : cell < w.graph.cells
        run-below = let less = given-below (cell - first) (omega arith) in omega (arith, less)

        pub run-write : (v : Outcome) → v ≡ outcome_at w.outcomes cell → slice_get turn.left 0 ≡ Some (cell, v)
        unfolding given_plan
        run-write v is_right = may-write (given_plan w) t start b (cell - first) turn now cell v (omega arith) (given-next (cell - first) (omega arith) ∙ omega arith) is_right

        pub run-more : (v : Outcome) (new : Turn) → v ≡ outcome_at w.outcomes cell → new ≡ after_write turn cell v → new ≡ after_some (cell + 1 - first) start
        run-more v new is_right wrote = let e : cell - first + 1 ≡ cell + 1 - first = omega arith in
            wrote ∙ (written (given_plan w) t start b (cell - first) turn now cell v (run-write v is_right) ∙ ap (λ k. after_some k start) e)

      pub run-over : end ≤ cell → turn ≡ after_all start
      unfolding given_plan
      run-over past = all-written (given_plan w) t start b (cell - first) turn now (omega arith)
