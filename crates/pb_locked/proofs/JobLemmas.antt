-- What a worker keeps of the task that it runs.
use Rattle.std.proofs.Common.{◌≡◌, ◌∙◌, refl, sym, ap, subst, inl, inr, ⊎_elim, ℕ, ◌<◌, ◌≤◌, ◌+◌, ◌^◌, List, [], ◌∷◌, ◌++◌, length, take, get_or, map, slice_set, length-set, Bool, true, false, Some, None, IsSome, slice_get, pos, arith}
use Rattle.std.specs.List.{Contains}
use Rattle.std.proofs.Math.Bool.{cond}
use Rattle.std.proofs.lemmas.Bool.{cases_eq}
use Rattle.std.proofs.lemmas.List.{ext_get_or, get_or-map, get_or-set_other, get_or-set_same, get_or_default, length-map, take-append-drop, take_all, take_more}
use Rattle.std.proofs.lemmas.List.Elements.{Contains-append_cases, Contains-append_left, Contains-get_or}
use Rattle.pb_base.proofs.ListLemmas.{in_cases, in_none}
use Rattle.pb_values.specs.declared.outcome.Outcome.{Outcome}
use Rattle.pb_values.specs.declared.outcome.Outcome.TheVariants.{Value}
use Rattle.pb_taskgraph.specs.Graphs.{cells_of}
use Rattle.pb_taskgraph.specs.Plans.{IsPlan, Plan, outcome_at}
use Rattle.pb_taskgraph.specs.Known.{known_turn}
use Rattle.pb_taskgraph.specs.Turns.{Begins, MayRead, after_all, after_write}
use Rattle.pb_taskgraph.proofs.KnownLemmas.{known-begins, known-ends, known-next, known-write, some-known, told-known}
use Rattle.pb_taskgraph.proofs.PlanLemmas.{own-few}
use Rattle.pb_core.specs.States.{State}
use Rattle.pb_core.specs.Sound.{IsSound}
use Rattle.pb_core.specs.Cores.{CoreValue, state_of}
use Rattle.pb_core.proofs.KeepLemmas.{finished-before, started-count}
use Rattle.pb_core.proofs.StateLemmas.{reached-sound}
use Rattle.pb_core.proofs.WithLemmas.{some-of}
use Rattle.pb_locked.specs.Boards.{HasBegun, IsBoard, outcomes_of}
use Rattle.pb_locked.specs.Jobs.{IsJob, IsOthers, JobValue, job_turn}
use Rattle.pb_locked.specs.Places.{PlacesValue}

abbrev pub job_of : ℕ → ℕ → JobValue
job_of t k = record { task = t; written = k }

-- the turn of a task begins, and what is told is the solution
pub job-begins : (p : Plan) (t : ℕ) → Begins p t (job_turn p (job_of t 0))
unfolding job_turn
job-begins p t = known-begins p t

pub job-may : (p : Plan) (job : JobValue) (c : ℕ) → IsSome ((job_turn p job).outcomes c) → MayRead p job.task job.written c
unfolding job_turn
job-may p job c some = some-known p job.task job.written c some

pub job-read : (p : Plan) (job : JobValue) (c : ℕ) (v : Outcome) → IsSome ((job_turn p job).outcomes c) → v ≡ outcome_at p.solution c → (job_turn p job).outcomes c ≡ Some v
unfolding job_turn
job-read p job c v some is = told-known p job.task job.written c (job-may p job c some) ∙ ap (λ o. Some o) (sym is)

-- all cells are written where the turn is over
pub job-over : (p : Plan) (job : JobValue) (t : ℕ) → job_turn p job ≡ after_all (job_turn p (job_of t 0)) → (job.task ≡ t) × (length (p.order t) ≤ job.written)
unfolding job_turn known_turn after_all
job-over p job t ended =
    let task : job.task ≡ t = ap (λ turn. turn.task) ended in
    (task, subst (λ u. length (p.order u) ≤ job.written) task (known-ends p job.task job.written (known_turn p t 0) ended))

module _ (p : Plan) (v : PlacesValue) (t k : ℕ) (values : List Outcome) (is : IsJob p v t k values) where
  abbrev cells : List ℕ
  cells = cells_of p.graph t

  -- a cell of the task has its place
  place-is : (c : ℕ) → Contains cells c → (i : ℕ) × (i < length cells) × (get_or cells i 0 ≡ c) × (get_or v.places c 0 ≡ i)
  place-is c h =
      let at : get_or cells h.0 0 ≡ c = sym (get_or_default cells h.0 c 0 h.1) ∙ h.2 in
      (h.0, h.1, at, ap (λ d. get_or v.places d 0) (sym at) ∙ is.table.place t h.0 is.task h.1)

  own-cell : (c : ℕ) → Contains (take k (p.order t)) c → Contains cells c
  own-cell c h = (is.plan.listed t c is.task).0 (subst (λ l. Contains l c) (take-append-drop k (p.order t)) (Contains-append_left (take k (p.order t)) (Rattle.std.proofs.Common.drop k (p.order t)) c h))

  module _ (self : JobValue) (same : job_of t k ≡ self) (c : ℕ) where
    abbrev Told : Type 0
    Told = IsSome ((job_turn p self).outcomes c)

    may : Told → MayRead p t k c
    may some = subst (λ (j : JobValue). MayRead p j.task j.written c) (sym same) (job-may p self c some)

    pub job-below : Told → c < p.graph.cells
    job-below some = go (may some)
      where
        go : MayRead p t k c → c < p.graph.cells
        go (inl input) = omega (arith, input, is.plan.graph.partition.inputs)
        go (inr (inl (u, before, own))) = (is.plan.graph.partition.past u c own).1
        go (inr (inr own)) = (is.plan.graph.partition.past t c (own-cell c own)).1

    -- a cell of another task is others'
    pub job-others : (o : ℕ) → Told → Contains (cells_of p.graph o) c → (o ≡ t → ⊥) → IsOthers p self.task c
    job-others o some has other = subst (λ (j : JobValue). IsOthers p j.task c) same (go (may some))
      where
        go : MayRead p t k c → IsOthers p t c
        go (inl input) = inl input
        go (inr (inl before)) = inr before
        go (inr (inr own)) = absurd (other (is.plan.graph.partition.one o t c has (own-cell c own)))

    -- one of the task's is written
    pub job-own : (read : Outcome) → Told → p.graph.inputs ≤ c → Contains cells c → read ≡ get_or values (get_or v.places c 0) read → (get_or v.places c 0 < length values) × (read ≡ outcome_at p.solution c)
    job-own read some past has at =
        let there = place-is c has in
        let below : get_or v.places c 0 < length values = omega (arith, there.1, there.3, is.room) in (
          below,
          at ∙ get_or_default values (get_or v.places c 0) read (Value (pos 0)) below ∙ ap (λ i. get_or values i (Value (pos 0))) there.3
              ∙ is.written there.0 there.1 (subst (Contains (take k (p.order t))) (sym there.2) (go (may some))) ∙ ap (outcome_at p.solution) there.2,
        )
      where
        go : MayRead p t k c → Contains (take k (p.order t)) c
        go (inl input) = absurd (omega (arith, input, past))
        go (inr (inl (u, before, own))) =
            let smaller = is.plan.graph.linked.smaller t u before in
            let one = is.plan.graph.partition.one u t c own has in absurd (omega (arith, smaller, one))
        go (inr (inr own)) = own

    pub job-inside : p.graph.inputs ≤ c → Contains cells c → get_or v.places c 0 < length values
    job-inside past has = let there = place-is c has in omega (arith, there.1, there.3, is.room)

  -- the next cell is written
  module _ (self : JobValue) (same : job_of t k ≡ self) (c : ℕ) (o : Outcome) (first : slice_get (job_turn p self).left 0 ≡ Some (c, o)) where
    at-first : slice_get (known_turn p t k).left 0 ≡ Some (c, o)
    unfolding job_turn
    at-first = subst (λ (j : JobValue). slice_get (known_turn p j.task j.written).left 0 ≡ Some (c, o)) (sym same) first

    next-cell : (k < length (p.order t)) × (get_or (p.order t) k 0 ≡ c) × (outcome_at p.solution c ≡ o)
    next-cell = known-next p t k c o at-first

    next-own : Contains cells c
    next-own = (is.plan.listed t c is.task).0 (subst (Contains (p.order t)) next-cell.1 (Contains-get_or (p.order t) k 0 next-cell.0))

    pub put-below : c < p.graph.cells
    put-below = (is.plan.graph.partition.past t c next-own).1

    pub put-inside : get_or v.places c 0 < length values
    put-inside = let there = place-is c next-own in omega (arith, there.1, there.3, is.room)

    pub put-room : k + 1 < 2 ^ 64
    put-room = omega (arith, next-cell.0, own-few p is.plan t is.task)

    pub put-turn : job_turn p (job_of t (k + 1)) ≡ after_write (job_turn p self) c o
    unfolding job_turn
    put-turn = known-write p t k c o at-first ∙ ap (λ (j : JobValue). after_write (known_turn p j.task j.written) c o) same

    pub put-job : IsJob p v t (k + 1) (slice_set values (get_or v.places c 0) o)
    put-job = record {
      plan = is.plan;
      table = is.table;
      task = is.task;
      room = length-set values (get_or v.places c 0) o ∙ is.room;
      written = λ j below h. ⊎_elim
          (λ (this : j ≡ there.0).
          ap (λ i. get_or (slice_set values i o) j (Value (pos 0))) there.3
          ∙ ap (λ i. get_or (slice_set values there.0 o) i (Value (pos 0))) this
          ∙ get_or-set_same values there.0 o (Value (pos 0)) (omega (arith, there.1, is.room))
          ∙ sym next-cell.2 ∙ ap (outcome_at p.solution) (sym there.2 ∙ ap (λ i. get_or cells i 0) (sym this)))
          (λ (other : j ≡ there.0 → ⊥).
          ap (λ i. get_or (slice_set values i o) j (Value (pos 0))) there.3
          ∙ get_or-set_other values there.0 j o (Value (pos 0)) other
          ∙ is.written j below (old j below other (subst (λ l. Contains l (get_or cells j 0)) (take_more (p.order t) k 0 next-cell.0) h)))
          (cases_eq j there.0);
    }
      where
        there : (i : ℕ) × (i < length cells) × (get_or cells i 0 ≡ c) × (get_or v.places c 0 ≡ i)
        there = place-is c next-own

        old : (j : ℕ) → j < length cells → (j ≡ there.0 → ⊥) → Contains (take k (p.order t) ++ get_or (p.order t) k 0 ∷ []) (get_or cells j 0) → Contains (take k (p.order t)) (get_or cells j 0)
        old j below other h = ⊎_elim
            (λ (before : Contains (take k (p.order t)) (get_or cells j 0)). before)
            (λ (last : Contains (get_or (p.order t) k 0 ∷ []) (get_or cells j 0)). ⊎_elim
            (λ (this : get_or (p.order t) k 0 ≡ get_or cells j 0). absurd (other (is.plan.graph.partition.once t j there.0 below there.1 (sym this ∙ next-cell.1 ∙ sym there.2))))
            (λ (none : Contains [] (get_or cells j 0)). absurd (in_none (get_or cells j 0) none))
            (in_cases (get_or (p.order t) k 0) (get_or cells j 0) [] last))
            (Contains-append_cases (take k (p.order t)) (get_or (p.order t) k 0 ∷ []) (get_or cells j 0) h)

  -- all are written
  pub job-values : length (p.order t) ≤ k → values ≡ outcomes_of p cells
  job-values past = ext_get_or (Value (pos 0)) values (outcomes_of p cells) (is.room ∙ sym (length-map cells (λ (c : ℕ). outcome_at p.solution c))) (λ i below.
      let under : i < length cells = omega (arith, is.room) in
      is.written i under (subst (λ l. Contains l (get_or cells i 0)) (sym (take_all k (p.order t) past)) ((is.plan.listed t (get_or cells i 0) is.task).1 (Contains-get_or cells i 0 under)))
      ∙ sym (get_or-map (λ (c : ℕ). outcome_at p.solution c) cells i 0 (Value (pos 0)) under))

pub others-below : (p : Plan) → IsPlan p → (t c : ℕ) → IsOthers p t c → c < p.graph.cells
others-below p is t c (inl input) = omega (arith, input, is.graph.partition.inputs)
others-below p is t c (inr (u, before, own)) = (is.graph.partition.past u c own).1

-- what a begun task reads of others is written
module _ (p : Plan) (is : IsPlan p) (s : State) (b : IsBoard p s) (hand t : ℕ) (begun : HasBegun s hand t) where
  sound : IsSound p s
  sound = reached-sound p is s b.reached

  pub others-written : (c : ℕ) → IsOthers p t c → IsSome (s.value c)
  others-written c (inl input) = sound.written.inputs c input
  others-written c (inr (u, before, own)) =
      sound.written.whole u c (finished-before p is s sound t u (started-count p is s sound t (some-of (s.runner t) hand begun.0)) before) own

  pub others-right : (c : ℕ) (v : Outcome) → s.value c ≡ Some v → v ≡ outcome_at p.solution c
  others-right c v at = sound.written.right c v at

-- what a board tells is the solution
pub value-right : (p : Plan) (v : CoreValue) (c : ℕ) (o : Outcome) → Some o ≡ (state_of p v).value c → o ≡ outcome_at p.solution c
unfolding state_of
value-right p v c o at = go (get_or v.written c false) at
  where
    go : (b : Bool) → Some o ≡ cond b (Some (outcome_at p.solution c)) None → o ≡ outcome_at p.solution c
    go true e = cc
    go false e = absurd (cc)
