-- Finishes, and the end.
use Rattle.std.proofs.Common.{◌≡◌, ◌∙◌, refl, sym, ap, subst, ⊎_elim, ℕ, ◌+◌, ◌<◌, ◌≤◌, ◌^◌, eqb, Bool, true, false, List, ◌∷◌, length, map, get_or, slice_set, Option, Some, None, IsSome, Result, Ok, Err, zero-add, arith}
use Rattle.std.specs.Prelude.{is_ok, unwrap_or}
use Rattle.std.specs.List.{Contains, range_with_len}
use Rattle.std.proofs.Math.Bool.{cond}
use Rattle.std.proofs.lemmas.Bool.{eqb-true}
use Rattle.std.proofs.lemmas.Bool.Decides.{nat_tests}
use Rattle.std.proofs.lemmas.List.{get_or_default}
use Rattle.std.proofs.lemmas.List.FromFn.{get_or-map-range_with_len, length-map-range_with_len}
use Rattle.std.proofs.lemmas.Map.Keys.{IsDistinct-from_apart}
use Rattle.std.proofs.lemmas.Map.Steps.{length-le_from_distinct_below}
use Rattle.std.proofs.lemmas.Map.Views.{Contains-from_any}
use Rattle.pb_base.proofs.ListLemmas.{in_cases, in_none, map_in, range_in}
use Rattle.pb_values.specs.declared.outcome.Outcome.{Outcome}
use Rattle.pb_taskgraph.specs.Graphs.{EachOnce, TaskValue, cells_of, task_cells}
use Rattle.pb_taskgraph.specs.Plans.{Plan, outcome_at}
use Rattle.pb_taskgraph.proofs.GraphLemmas.{cells-at, cells-past}
use Rattle.pb_core.specs.declared.event.Event.TheVariants.{Finish}
use Rattle.pb_core.specs.declared.event.NotEnabled.{NotEnabled}
use Rattle.pb_core.specs.declared.progress.Progress.{Progress}
use Rattle.pb_core.specs.States.{State, happens}
use Rattle.pb_core.specs.Events.{AllFinished, IsFinishedOrder, by_number}
use Rattle.pb_core.specs.Sound.{IsSound}
use Rattle.pb_core.specs.Cores.{CanFinish, Changes, CoreValue, IsMachine, Steps, TellsWritten, ended, state_of, untouched}
use Rattle.pb_core.proofs.CountLemmas.{one-more}
use Rattle.pb_core.proofs.OrderLemmas.{finished-order}
use Rattle.pb_core.proofs.StateLemmas.{changes-length, field-kept, field-set, is-inside, state-path}
use Rattle.pb_core.proofs.StepLemmas.{machine-after}
use Rattle.pb_core.proofs.WithLemmas.{of-some, some-of}
use Rattle.pb_core.proofs.WriteLemmas.{cond-is, sound}

-- numbers below another, each once, are at most so many
pub few : (xs : List ℕ) (n : ℕ) → EachOnce xs → ((x : ℕ) → Contains xs x → x < n) → length xs ≤ n
few xs n once below = length-le_from_distinct_below xs n
    (IsDistinct-from_apart eqb xs (λ i j d before inside. grind (arith, nat_tests, once i j (omega arith) inside, get_or_default xs i 0 d (omega arith), get_or_default xs j 0 d inside)))
    (λ q h. below q (Contains-from_any eqb-true q xs h))

module _ (p : Plan) (s : State) (is : IsSound p s) where
  pub is-order : IsFinishedOrder p.graph s (by_number p.graph s.number s.finished)
  is-order = finished-order p s is

  size : length (by_number p.graph s.number s.finished) ≡ s.finished
  size = length-map-range_with_len _ 0 s.finished

  pub finished-few : s.finished ≤ length p.graph.tasks
  finished-few = omega (arith, size, few (by_number p.graph s.number s.finished) (length p.graph.tasks) is-order.once (λ t h. (is-order.only t h).0))

  -- all are finished where as many are finished as there are tasks
  pub all-finished : s.finished ≡ length p.graph.tasks → AllFinished p.graph s
  all-finished same t below = go (s.number t) refl
    where
      go : (o : Option ℕ) → s.number t ≡ o → IsSome (s.number t)
      go (Some n) e = some-of (s.number t) n e
      go None e =
          let never : Contains (by_number p.graph s.number s.finished) t → ⊥ = λ h. let there = of-some (s.number t) (is-order.only t h).1 in let wrong : None ≡ Some there.0 = sym e ∙ there.1 in cc in
          let most = few (t ∷ by_number p.graph s.number s.finished) (length p.graph.tasks) (one-more t (by_number p.graph s.number s.finished) is-order.once never)
          (λ u h. ⊎_elim (λ (this : t ≡ u). omega arith) (λ (rest : Contains (by_number p.graph s.number s.finished) u). (is-order.only u rest).0) (in_cases t u (by_number p.graph s.number s.finished) h)) in
          absurd (omega (arith, most, size))

  abbrev number_of : ℕ → ℕ
  number_of t = unwrap_or (s.number t) 0

  pub finished-all : AllFinished p.graph s → s.finished ≡ length p.graph.tasks
  finished-all all = omega (arith, finished-few, most, length-map-range_with_len number_of 0 (length p.graph.tasks))
    where
      told : (t : ℕ) → t < length p.graph.tasks → s.number t ≡ Some (number_of t)
      told t below = let there = of-some (s.number t) (all t below) in there.1 ∙ ap (λ n. Some n) (sym (ap (λ o. unwrap_or o 0) there.1))

      at : (i : ℕ) → i < length p.graph.tasks → get_or (map number_of (range_with_len 0 (length p.graph.tasks))) i 0 ≡ number_of i
      at i below = get_or-map-range_with_len number_of 0 (length p.graph.tasks) i i 0 below (zero-add i)

      most : length (map number_of (range_with_len 0 (length p.graph.tasks))) ≤ s.finished
      most = few (map number_of (range_with_len 0 (length p.graph.tasks))) s.finished
          (λ i j below inside same.
          let a : i < length p.graph.tasks = omega (arith, length-map-range_with_len number_of 0 (length p.graph.tasks)) in
          let b : j < length p.graph.tasks = omega (arith, length-map-range_with_len number_of 0 (length p.graph.tasks)) in
          is.numbers.once i j (number_of i) (told i a) (told j b ∙ ap (λ n. Some n) (sym (sym (at i a) ∙ same ∙ at j b))))
          (λ n h. let there = map_in number_of (range_with_len 0 (length p.graph.tasks)) n h in
          let inside = range_in (length p.graph.tasks) there.0 there.1 in
          is.numbers.below there.0 n (told there.0 inside ∙ ap (λ k. Some k) there.2))

-- the cells of a task are written
module _ (p : Plan) (self : CoreValue) (t : ℕ) (tasks : List TaskValue) (are : tasks ≡ p.graph.tasks) where
  pub whole-some : (written : List Bool) (cells : List ℕ) (task : TaskValue) (b : Bool) → written ≡ self.written → cells ≡ task_cells task → t < length tasks → task ≡ get_or tasks t task
      → TellsWritten written cells b → TellsWritten self.written (cells_of p.graph t) b
  whole-some written cells task b same own below is tells =
      let here : cells ≡ cells_of p.graph t = own ∙ sym (cells-at p.graph t task (omega (arith, ap (λ (l : List TaskValue). length l) are)) (is ∙ ap (λ (l : List TaskValue). get_or l t task) are)) in
      subst (λ l. TellsWritten l (cells_of p.graph t) b) same (subst (λ l. TellsWritten written l b) here tells)

  pub whole-none : length tasks ≤ t → TellsWritten self.written (cells_of p.graph t) true
  whole-none past c own = absurd (in_none c (subst (λ l. Contains l c) (cells-past p.graph t (omega (arith, ap (λ (l : List TaskValue). length l) are))) own))

abbrev pub with_finish : CoreValue → List Progress → ℕ → CoreValue
with_finish v tasks finished = record v { tasks = tasks; finished = finished }

module _ (p work : Plan) (Fits : Type 0) (v : CoreValue) (ran : List Bool) (outcomes : List Outcome) (is : IsMachine p work Fits v ran outcomes) where
  pub finish-room : v.finished + 1 < 2 ^ 64
  unfolding state_of
  finish-room = omega (arith, finished-few p (state_of p v) (sound p work Fits v ran outcomes is), is.core.plan.graph.few_tasks)

  module _ (self : CoreValue) (same : v ≡ self) (hand t : ℕ) where
    pub not-whole : TellsWritten self.written (cells_of p.graph t) false → Steps p self (Finish hand t) (Err record {}) self
    unfolding state_of
    not-whole (c, own, none) = ((λ (runs, open_, all). let wrong : false ≡ true = sym none ∙ cond-is (get_or self.written c false) (outcome_at p.solution c) (all c own) in cc), refl)

    module _ (whole : TellsWritten self.written (cells_of p.graph t) true) where
      all-written : (w : CoreValue) → v ≡ w → (c : ℕ) → Contains (cells_of p.graph t) c → IsSome ((state_of p w).value c)
      unfolding state_of
      all-written w e c own =
          let written : get_or w.written c false ≡ true = ap (λ (x : CoreValue). get_or x.written c false) (sym e ∙ same) ∙ whole c own in
          subst (λ b. IsSome (cond b (Some (outcome_at p.solution c)) None)) (sym written) refl

      finish-state : t < length v.tasks → state_of p (with_finish v (slice_set v.tasks t (ended v.finished (get_or v.tasks t untouched))) (v.finished + 1)) ≡ happens p (state_of p v) (Finish hand t)
      unfolding state_of
      finish-state below =
          let x = ended v.finished (get_or v.tasks t untouched) in
          state-path (state_of p (with_finish v (slice_set v.tasks t x) (v.finished + 1))) (happens p (state_of p v) (Finish hand t))
          (field-kept (λ (a : Progress). a.count) untouched v.tasks t x below refl)
          (field-kept (λ (a : Progress). a.holder) untouched v.tasks t x below refl)
          (field-kept (λ (a : Progress). a.runner) untouched v.tasks t x below refl)
          (field-set (λ (a : Progress). a.number) untouched v.tasks t x below)
          (field-kept (λ (a : Progress). a.given) untouched v.tasks t x below refl)
          refl refl refl

      step : (w : CoreValue) → v ≡ w → (result : Result (Unit {0}) NotEnabled) (tasks : List Progress) (finished : ℕ) → Changes (CanFinish hand) (ended v.finished) t v.tasks result tasks
          → finished ≡ cond (is_ok result) (v.finished + 1) v.finished → Steps p w (Finish hand t) result (with_finish v tasks finished)
      unfolding state_of
      step w e (Ok done) tasks finished changes now =
          let inside = is-inside (λ (a : Progress). a.runner) v.tasks t hand refl changes.0.0 in (
            (ap (λ (y : CoreValue). (get_or y.tasks t untouched).runner) (sym e) ∙ changes.0.0, ap (λ (y : CoreValue). (get_or y.tasks t untouched).number) (sym e) ∙ changes.0.1, all-written w e),
            ap (λ l. state_of p (with_finish v l finished)) changes.1 ∙ ap (λ n. state_of p (with_finish v (slice_set v.tasks t (ended v.finished (get_or v.tasks t untouched))) n)) now
                ∙ finish-state inside ∙ ap (λ (y : CoreValue). happens p (state_of p y) (Finish hand t)) e,
          )
      step w e (Err refused) tasks finished changes now = (
        (λ enabled. changes.0 (ap (λ (y : CoreValue). (get_or y.tasks t untouched).runner) e ∙ enabled.0, ap (λ (y : CoreValue). (get_or y.tasks t untouched).number) e ∙ enabled.1)),
        ap (λ l. with_finish v l finished) changes.1 ∙ ap (with_finish v v.tasks) now ∙ e,
      )

      module _ (result : Result (Unit {0}) NotEnabled) (tasks : List Progress) (finished : ℕ) (changes : Changes (CanFinish hand) (ended v.finished) t v.tasks result tasks)
          (now : finished ≡ cond (is_ok result) (v.finished + 1) v.finished) where
        pub finish-steps : Steps p self (Finish hand t) result (with_finish v tasks finished)
        finish-steps = step self same result tasks finished changes now

        pub finish-machine : IsMachine p work Fits (with_finish v tasks finished) ran outcomes
        finish-machine = machine-after p work Fits v ran outcomes is (Finish hand t) result (with_finish v tasks finished) (step v refl result tasks finished changes now)
            (changes-length (CanFinish hand) (ended v.finished) t v.tasks result tasks changes) refl (λ u. refl) refl
