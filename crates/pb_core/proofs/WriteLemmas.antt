-- Writes.
use Rattle.std.proofs.Common.{◌≡◌, ◌∙◌, refl, sym, ap, subst, ⊎_elim, ℕ, ◌<◌, ◌≤◌, Bool, true, false, List, length, get_or, slice_set, length-set, Some, None, IsSome, slice_get, Ok, arith}
use Rattle.std.specs.List.{Contains}
use Rattle.std.proofs.Math.Bool.{cond}
use Rattle.std.proofs.Math.Path.{fun_ext}
use Rattle.std.proofs.lemmas.Bool.{cases_eq}
use Rattle.std.proofs.lemmas.Grind.{common_steps}
use Rattle.std.proofs.lemmas.List.{get_or-set_other, get_or-set_same}
use Rattle.std.proofs.lemmas.Option.{gets}
use Rattle.pb_values.specs.declared.outcome.Outcome.{Outcome}
use Rattle.pb_taskgraph.specs.Graphs.{cells_of}
use Rattle.pb_taskgraph.specs.Plans.{IsPlan, Plan, outcome_at}
use Rattle.pb_core.specs.declared.event.Event.TheVariants.{Write}
use Rattle.pb_core.specs.declared.progress.Progress.{Progress}
use Rattle.pb_core.specs.States.{State, happens}
use Rattle.pb_core.specs.Events.{IsReached}
use Rattle.pb_core.specs.Sound.{IsSound}
use Rattle.pb_core.specs.Cores.{AreLearned, CanRun, CoreValue, FindsWriter, IsMachine, IsTold, Steps, state_of, untouched}
use Rattle.pb_core.proofs.KeepLemmas.{finished-before, started-count}
use Rattle.pb_core.proofs.StateLemmas.{is-inside, reached-more, reached-sound, state-path}
use Rattle.pb_core.proofs.WithLemmas.{some-of, with-each}

abbrev pub with_written : CoreValue → List Bool → CoreValue
with_written v written = record v { written = written }

-- an outcome that is there where a test holds
module _ {X : Type 0} where
  pub cond-none : (b : Bool) (x : X) → cond b (Some x) None ≡ None → b ≡ false
  cond-none true x e = absurd (cc)
  cond-none false x e = refl

  pub cond-is : (b : Bool) (x : X) → IsSome (cond b (Some x) None) → b ≡ true
  cond-is true x e = refl
  cond-is false x e = absurd (cc)

  pub none-cond : (b : Bool) (x : X) → b ≡ false → cond b (Some x) None ≡ None
  none-cond b x e = ap (λ y. cond y (Some x) None) e

-- the task that may be written
module _ (p : Plan) (is : IsPlan p) (v self : CoreValue) (same : v ≡ self) (hand cell : ℕ) where
  pub writer-input : cell < p.graph.inputs → FindsWriter p self hand cell None
  writer-input below enabled = let past = (is.graph.partition.past enabled.0 cell enabled.1).0 in omega arith

  pub writer-past : p.graph.cells ≤ cell → FindsWriter p self hand cell None
  writer-past past enabled = let below = (is.graph.partition.past enabled.0 cell enabled.1).1 in omega arith

  module _ (t : ℕ) (own : Contains (cells_of p.graph t) cell) (at : Progress) (at-is : at ≡ get_or v.tasks t untouched) (w : Bool) (w-is : w ≡ get_or v.written cell false) where
    pub writer-none : ((at.runner ≡ Some hand) × (at.number ≡ None) × (w ≡ false) → ⊥) → FindsWriter p self hand cell None
    unfolding state_of
    writer-none never (u, h, runs, open_, empty) =
        let this : t ≡ u = is.graph.partition.one t u cell own h in
        let here : at ≡ get_or self.tasks u untouched = at-is ∙ ap (λ (x : CoreValue). get_or x.tasks t untouched) same ∙ ap (λ k. get_or self.tasks k untouched) this in
        never (ap (λ (a : Progress). a.runner) here ∙ runs, ap (λ (a : Progress). a.number) here ∙ open_, w-is ∙ ap (λ (x : CoreValue). get_or x.written cell false) same ∙ cond-none (get_or self.written cell false) (outcome_at p.solution cell) empty)

    pub writer-some : (at.runner ≡ Some hand) × (at.number ≡ None) × (w ≡ false) → FindsWriter p self hand cell (Some t)
    unfolding state_of
    writer-some (runs, open_, empty) =
        let here : get_or self.tasks t untouched ≡ at = sym (at-is ∙ ap (λ (x : CoreValue). get_or x.tasks t untouched) same) in
        (own, ap (λ (a : Progress). a.runner) here ∙ runs, ap (λ (a : Progress). a.number) here ∙ open_, none-cond (get_or self.written cell false) (outcome_at p.solution cell) (ap (λ (x : CoreValue). get_or x.written cell false) (sym same) ∙ sym w-is ∙ empty))

-- the machine after a write
module _ (p work : Plan) (Fits : Type 0) (v : CoreValue) (ran : List Bool) (outcomes : List Outcome) (is : IsMachine p work Fits v ran outcomes) where
  pub sound : IsSound p (state_of p v)
  sound = reached-sound p is.core.plan (state_of p v) is.core.reached

  -- what is written is told
  pub told-of : (c : ℕ) → IsSome ((state_of p v).value c) → get_or v.written c false ≡ true
  unfolding state_of
  told-of c some = cond-is (get_or v.written c false) (outcome_at p.solution c) some

  pub task-of : (t hand : ℕ) → (state_of p v).runner t ≡ Some hand → t < length p.graph.tasks
  unfolding state_of
  task-of t hand runs = let inside = is-inside (λ (a : Progress). a.runner) v.tasks t hand refl runs in omega (arith, is.core.tasks)

  module _ (hand cell t : ℕ) (self : CoreValue) (same : v ≡ self) (finds : FindsWriter p self hand cell (Some t)) where
    mine : FindsWriter p v hand cell (Some t)
    mine = subst (λ (w : CoreValue). FindsWriter p w hand cell (Some t)) (sym same) finds

    pub write-task : t < length p.graph.tasks
    write-task = task-of t hand mine.1

    pub write-cell : cell < p.graph.cells
    write-cell = (is.core.plan.graph.partition.past t cell mine.0).1

    pub write-can : CanRun p t outcomes
    write-can = record {
      task = write-task;
      room = is.learned.room;
      inputs = λ c input. is.told c (told-of c (sound.written.inputs c input));
      before = λ u c h own. is.told c (told-of c (sound.written.whole u c (finished-before p is.core.plan (state_of p v) sound t u (started-count p is.core.plan (state_of p v) sound t (some-of ((state_of p v).runner t) hand mine.1)) h) own));
    }

    write-state : state_of p (with_written v (slice_set v.written cell true)) ≡ happens p (state_of p v) (Write hand cell)
    unfolding state_of
    write-state = state-path (state_of p (with_written v (slice_set v.written cell true))) (happens p (state_of p v) (Write hand cell)) refl refl refl refl refl refl
        (fun_ext (λ c. with-each (state_of p v).value cell (Some (outcome_at p.solution cell)) c (λ o. cond (get_or (slice_set v.written cell true) c false) (Some (outcome_at p.solution c)) None ≡ o)
        (λ this. let set : get_or (slice_set v.written cell true) c false ≡ true = ap (λ k. get_or (slice_set v.written cell true) k false) this ∙ get_or-set_same v.written cell true false (omega (arith, is.core.written, write-cell)) in
        ap (λ b. cond b (Some (outcome_at p.solution c)) None) set ∙ ap (λ k. Some (outcome_at p.solution k)) this)
        (λ other. ap (λ b. cond b (Some (outcome_at p.solution c)) None) (get_or-set_other v.written cell c true false other))))
        refl

    pub write-steps : Steps p self (Write hand cell) (Ok tt) (with_written v (slice_set v.written cell true))
    write-steps = ((t, finds.0, finds.1, finds.2, finds.3), write-state ∙ ap (λ (w : CoreValue). happens p (state_of p w) (Write hand cell)) same)

    pub write-machine : (NowFits : Type 0) (now : List Bool) (new : List Outcome) → NowFits → AreLearned p now new → ((c : ℕ) → IsTold p outcomes c → IsTold p new c) → IsTold p new cell
        → IsMachine p work NowFits (with_written v (slice_set v.written cell true)) now new
    write-machine NowFits now new fits learned kept told = record {
      is_work = is.is_work;
      fits = fits;
      core = record {
        plan = is.core.plan;
        tasks = is.core.tasks;
        released = is.core.released;
        links = is.core.links;
        written = length-set v.written cell true ∙ is.core.written;
        reached = subst (λ (s : State). IsReached p s) (sym write-state) (reached-more p (state_of p v) (Write hand cell) is.core.reached (t, mine.0, mine.1, mine.2, mine.3));
      };
      learned = learned;
      told = λ c w. ⊎_elim
          (λ (this : c ≡ cell). subst (IsTold p new) (sym this) told)
          (λ (other : c ≡ cell → ⊥). kept c (is.told c (sym (get_or-set_other v.written cell c true false other) ∙ w)))
          (cases_eq c cell);
    }

    -- an outcome that is handed in
    module _ (o : Outcome) (is-o : o ≡ outcome_at p.solution cell) where
      set-told : IsTold p (slice_set outcomes cell o) cell
      set-told = let below = write-cell in let room = is.learned.room in let inside : cell < length outcomes = omega arith in
          let set : slice_get (slice_set outcomes cell o) cell ≡ Some o = grind (arith, common_steps, gets) in set ∙ ap (λ x. Some x) is-o

      set-kept : (c : ℕ) → IsTold p outcomes c → IsTold p (slice_set outcomes cell o) c
      set-kept c told = ⊎_elim
          (λ (this : c ≡ cell). subst (IsTold p (slice_set outcomes cell o)) (sym this) set-told)
          (λ (other : c ≡ cell → ⊥). grind (arith, common_steps, gets))
          (cases_eq c cell)

      pub store-machine : IsMachine p work Fits (with_written v (slice_set v.written cell true)) ran (slice_set outcomes cell o)
      store-machine = write-machine Fits ran (slice_set outcomes cell o) is.fits (record {
        room = length-set outcomes cell o ∙ is.learned.room;
        tasks = is.learned.tasks;
        run = λ u c run own. set-kept c (is.learned.run u c run own);
      }) set-kept set-told

  -- a cell's outcome
  module _ (self : CoreValue) (same : v ≡ self) (c : ℕ) (w : Bool) (w-is : w ≡ get_or v.written c w) (below : c < p.graph.cells) where
    here : get_or self.written c false ≡ w
    here = ap (λ (x : CoreValue). get_or x.written c false) (sym same) ∙ grind (arith, common_steps, is.core.written)

    pub value-none : w ≡ false → None ≡ (state_of p self).value c
    unfolding state_of
    value-none e = sym (none-cond (get_or self.written c false) (outcome_at p.solution c) (here ∙ e))

    pub value-some : (o : Outcome) → o ≡ get_or outcomes c o → w ≡ true → Some o ≡ (state_of p self).value c
    unfolding state_of
    value-some o o-is e =
        let told : slice_get outcomes c ≡ Some (outcome_at p.solution c) = is.told c (ap (λ (x : CoreValue). get_or x.written c false) same ∙ here ∙ e) in
        let same_o : o ≡ outcome_at p.solution c = grind (arith, common_steps, gets) in
        ap (λ x. Some x) same_o ∙ ap (λ b. cond b (Some (outcome_at p.solution c)) None) (sym (here ∙ e))
