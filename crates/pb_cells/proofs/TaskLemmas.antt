-- What is known of the task of a seat.
use Rattle.std.proofs.Common.{◌≡◌, ◌∙◌, sym, ap, subst, inl, inr, ⊎_elim, ℕ, ◌+◌, ◌<◌, ◌≤◌, true, false, List, [], ◌∷◌, length, take, get_or, Option, Some, None, IsSome, arith}
use Rattle.std.specs.List.{Contains}
use Rattle.std.proofs.lemmas.Bool.{cases_lt}
use Rattle.std.proofs.lemmas.List.{get_or-take, get_or_default, length-take, take_all, take_more}
use Rattle.std.proofs.lemmas.List.Elements.{Contains-get_or, Contains-push, Contains-append_left}
use Rattle.pb_base.proofs.ListLemmas.{in_none}
use Rattle.pb_values.specs.declared.outcome.Outcome.{Outcome}
use Rattle.pb_taskgraph.specs.Graphs.{EachOnce, after_of, before_of, cells_of}
use Rattle.pb_taskgraph.specs.Plans.{IsPlan, Plan, outcome_at}
use Rattle.pb_taskgraph.specs.Turns.{MayRead}
use Rattle.pb_taskgraph.proofs.GraphLemmas.{before-past}
use Rattle.pb_taskgraph.proofs.PlanLemmas.{own-below}
use Rattle.pb_core.proofs.KeepLemmas.{finished-before, released-all, started-count}
use Rattle.pb_core.proofs.WithLemmas.{none-of, not-none, of-some, some-of}
use Rattle.pb_cells.specs.declared.view.TaskView.{TaskView}
use Rattle.pb_cells.specs.Banks.{Bank}
use Rattle.pb_cells.specs.Stories.{FitsTask, Story, TellsCell, Tells, next_cell}
use Rattle.pb_cells.specs.Words.{mark_of, word_of}
use Rattle.pb_cells.proofs.SeatLemmas.{some-one}

-- the element at a place isn't among those before it
pub not-before : (xs : List ℕ) (k : ℕ) → EachOnce xs → k < length xs → Contains (take k xs) (get_or xs k 0) → ⊥
not-before xs k once below (i, inside, is) =
    let short = length-take k xs in
    let before : i < k = omega arith in
    let there : get_or xs i 0 ≡ get_or xs k 0 = get_or_default xs i 0 (get_or xs k 0) (omega arith) ∙ sym (get_or-take k xs i (get_or xs k 0) before) ∙ is in
    let same : i ≡ k = once i k (omega arith) below there in
    omega arith

-- one more of the first
pub first-more : (xs : List ℕ) (k c : ℕ) → k < length xs → Contains (take k xs) c → Contains (take (k + 1) xs) c
first-more xs k c below h = subst (λ l. Contains l c) (sym (take_more xs k 0 below)) (Contains-append_left (take k xs) (get_or xs k 0 ∷ []) c h)

pub first-new : (xs : List ℕ) (k : ℕ) → k < length xs → Contains (take (k + 1) xs) (get_or xs k 0)
first-new xs k below = subst (λ l. Contains l (get_or xs k 0)) (sym (take_more xs k 0 below)) (Contains-push (take k xs) (get_or xs k 0))

-- what a cell tells that is written
pub told : (o : Option Outcome) (v : Outcome) (mark word : ℕ) → o ≡ Some v → TellsCell o mark word → (mark ≡ mark_of v) × (word ≡ word_of v)
told o v mark word is tells = subst (λ x. TellsCell x mark word) is tells

module _ (p : Plan) (is : IsPlan p) (b : Bank) (y : Story) (tells : Tells p b y) where
  pub written-word : (c : ℕ) → IsSome (y.core.value c) → (b.mark c ≡ mark_of (outcome_at p.solution c)) × (b.value c ≡ word_of (outcome_at p.solution c))
  written-word c some =
      let there = of-some (y.core.value c) some in
      let right : there.0 ≡ outcome_at p.solution c = tells.sound.written.right c there.0 there.1 in
      told (y.core.value c) (outcome_at p.solution c) (b.mark c) (b.value c) (there.1 ∙ ap (λ v. Some v) right) (tells.cells c (tells.sound.written.cells c some))

  -- a successor that isn't released waits, so nobody holds or has begun it
  module _ (t next : ℕ) (after : Contains (after_of p.graph t) next) (owed : y.core.released t next ≡ false) where
    pub before-next : Contains (before_of p.graph next) t
    before-next = (is.graph.linked.mirrored next t).1 after

    pub next-waits : y.core.count next ≡ 0 → ⊥
    next-waits none = let wrong : false ≡ true = sym owed ∙ released-all p is y.core tells.sound next t none before-next in cc

    pub next-below : next < length p.graph.tasks
    next-below = ⊎_elim
        (λ (inside : next < length p.graph.tasks). inside)
        (λ (past : length p.graph.tasks ≤ next). absurd (in_none t (subst (λ l. Contains l t) (before-past p.graph next past) before-next)))
        (cases_lt next (length p.graph.tasks))

    pub next-free : y.core.holder next ≡ None
    next-free = none-of (y.core.holder next) (λ some. next-waits (tells.sound.held.tasks next some).1)

    pub next-unbegun : y.core.runner next ≡ None
    next-unbegun = none-of (y.core.runner next) (λ some. next-waits (started-count p is y.core tells.sound next some))

    pub next-unopened : y.opener next ≡ None
    next-unopened = none-of (y.opener next) (λ some. let there = of-some (y.opener next) some in next-waits (tells.opened next there.0 there.1).0)

  module _ (id : ℕ) (j : TaskView) (fits : FitsTask p b y id j) where
    pub begun : IsSome (y.core.runner j.task)
    begun = some-of (y.core.runner j.task) id fits.runs.0

    pub task-below : j.task < length p.graph.tasks
    task-below = (tells.sound.held.tasks j.task (tells.sound.held.started j.task begun)).0

    -- no other seat runs it
    pub task-other : (o : ℕ) (i : TaskView) → (o ≡ id → ⊥) → FitsTask p b y o i → i.task ≡ j.task → ⊥
    task-other o i apart others same = apart (some-one (y.core.runner j.task) o id (ap y.core.runner (sym same) ∙ others.runs.0) fits.runs.0)

    module _ (more : j.written < length (p.order j.task)) where
      pub next-own : Contains (p.order j.task) (next_cell p j)
      next-own = Contains-get_or (p.order j.task) j.written 0 more

      pub next-task : Contains (cells_of p.graph j.task) (next_cell p j)
      next-task = (is.listed j.task (next_cell p j) task-below).0 next-own

      pub next-cell-below : next_cell p j < p.graph.cells
      next-cell-below = own-below p is j.task task-below (next_cell p j) next-own

      pub next-empty : y.core.value (next_cell p j) ≡ None
      next-empty = none-of (y.core.value (next_cell p j)) (λ some. not-before (p.order j.task) j.written (is.once j.task task-below) more
          (subst (λ k. Contains (take k (p.order j.task)) (next_cell p j)) fits.wrote ((tells.order j.task task-below (next_cell p j) next-own).0 some)))

      -- a finished task has no next cell
      pub next-unfinished : y.core.number j.task ≡ None
      next-unfinished = none-of (y.core.number j.task) (λ there. not-none (y.core.value (next_cell p j)) next-empty (tells.sound.written.whole j.task (next_cell p j) there next-task))

    -- all its cells are written
    pub all-own : length (p.order j.task) ≤ j.written → (c : ℕ) → Contains (cells_of p.graph j.task) c → IsSome (y.core.value c)
    all-own all c own =
        let there = (is.listed j.task c task-below).1 own in
        (tells.order j.task task-below c there).1 (subst (λ k. Contains (take k (p.order j.task)) c) (sym fits.wrote) (subst (λ l. Contains l c) (sym (take_all j.written (p.order j.task) all)) there))

    -- what it may read is written
    pub may-written : (c : ℕ) → MayRead p j.task j.written c → IsSome (y.core.value c)
    may-written c (inl input) = tells.sound.written.inputs c input
    may-written c (inr (inl (u, before, own))) =
        tells.sound.written.whole u c (finished-before p is y.core tells.sound j.task u (started-count p is y.core tells.sound j.task begun) before) own
    may-written c (inr (inr own)) =
        (tells.order j.task task-below c (first-own (p.order j.task) j.written c own)).1 (subst (λ k. Contains (take k (p.order j.task)) c) (sym fits.wrote) own)
      where
        first-own : (xs : List ℕ) (k d : ℕ) → Contains (take k xs) d → Contains xs d
        first-own xs k d (i, inside, at) =
            let short = length-take k xs in
            let before : i < k = omega arith in
            (i, omega arith, sym (get_or-take k xs i d before) ∙ at)

    pub read-word : (c : ℕ) → MayRead p j.task j.written c → (b.mark c ≡ mark_of (outcome_at p.solution c)) × (b.value c ≡ word_of (outcome_at p.solution c))
    read-word c may = written-word c (may-written c may)

    pub read-below : (c : ℕ) → MayRead p j.task j.written c → c < p.graph.cells
    read-below c may = tells.sound.written.cells c (may-written c may)
