-- Steps of the machine.
use Rattle.std.proofs.Common.{◌≡◌, ◌∙◌, refl, sym, ap, subst, ℕ, ◌+◌, ◌<◌, Bool, List, [], length, get_or, slice_set, Option, Some, None, Result, Ok, Err, arith}
use Rattle.pb_values.specs.declared.outcome.Outcome.{Outcome}
use Rattle.pb_taskgraph.specs.Plans.{Plan}
use Rattle.pb_core.specs.declared.event.Event.{Event}
use Rattle.pb_core.specs.declared.event.Event.TheVariants.{Give, Start}
use Rattle.pb_core.specs.declared.event.NotEnabled.{NotEnabled}
use Rattle.pb_core.specs.declared.progress.Progress.{Progress}
use Rattle.pb_core.specs.States.{State, happens}
use Rattle.pb_core.specs.Events.{IsReached}
use Rattle.pb_core.specs.Cores.{CanGive, CanStart, Changes, CoreValue, IsMachine, Steps, handed, started, state_of, untouched}
use Rattle.pb_core.proofs.StateLemmas.{changes-length, field-kept, field-set, is-inside, reached-more, state-path}

-- the machine with other tasks
abbrev pub with_tasks : CoreValue → List Progress → CoreValue
with_tasks v tasks = record v { tasks = tasks }

module _ (p : Plan) (v : CoreValue) where
  start-state : (hand t : ℕ) → t < length v.tasks → state_of p (with_tasks v (slice_set v.tasks t (started hand (get_or v.tasks t untouched)))) ≡ happens p (state_of p v) (Start hand t)
  unfolding state_of
  start-state hand t below =
      let x = started hand (get_or v.tasks t untouched) in
      state-path (state_of p (with_tasks v (slice_set v.tasks t x))) (happens p (state_of p v) (Start hand t))
      (field-kept (λ (a : Progress). a.count) untouched v.tasks t x below refl)
      (field-kept (λ (a : Progress). a.holder) untouched v.tasks t x below refl)
      (field-set (λ (a : Progress). a.runner) untouched v.tasks t x below)
      (field-kept (λ (a : Progress). a.number) untouched v.tasks t x below refl)
      (field-kept (λ (a : Progress). a.given) untouched v.tasks t x below refl)
      refl refl refl

  give-state : (giver taker t : ℕ) → t < length v.tasks → state_of p (with_tasks v (slice_set v.tasks t (handed taker (get_or v.tasks t untouched)))) ≡ happens p (state_of p v) (Give giver taker t)
  unfolding state_of
  give-state giver taker t below =
      let x = handed taker (get_or v.tasks t untouched) in
      state-path (state_of p (with_tasks v (slice_set v.tasks t x))) (happens p (state_of p v) (Give giver taker t))
      (field-kept (λ (a : Progress). a.count) untouched v.tasks t x below refl)
      (field-set (λ (a : Progress). a.holder) untouched v.tasks t x below)
      (field-kept (λ (a : Progress). a.runner) untouched v.tasks t x below refl)
      (field-kept (λ (a : Progress). a.number) untouched v.tasks t x below refl)
      (field-set (λ (a : Progress). a.given) untouched v.tasks t x below)
      refl refl refl

  start-step : (hand t : ℕ) (result : Result (Unit {0}) NotEnabled) (tasks : List Progress) → Changes (CanStart hand) (started hand) t v.tasks result tasks → Steps p v (Start hand t) result (with_tasks v tasks)
  unfolding state_of
  start-step hand t (Ok done) tasks changes =
      (changes.0, ap (λ l. state_of p (with_tasks v l)) changes.1 ∙ start-state hand t (is-inside (λ (a : Progress). a.holder) v.tasks t hand refl changes.0.0))
  start-step hand t (Err refused) tasks changes = (changes.0, ap (with_tasks v) changes.1)

  give-step : (giver taker t : ℕ) (result : Result (Unit {0}) NotEnabled) (tasks : List Progress) → Changes (CanGive giver) (handed taker) t v.tasks result tasks → Steps p v (Give giver taker t) result (with_tasks v tasks)
  unfolding state_of
  give-step giver taker t (Ok done) tasks changes =
      (changes.0, ap (λ l. state_of p (with_tasks v l)) changes.1 ∙ give-state giver taker t (is-inside (λ (a : Progress). a.holder) v.tasks t giver refl changes.0.0))
  give-step giver taker t (Err refused) tasks changes = (changes.0, ap (with_tasks v) changes.1)

  -- as callers see it
  module _ (self : CoreValue) (same : v ≡ self) where
    pub start-steps : (hand t : ℕ) (result : Result (Unit {0}) NotEnabled) (tasks : List Progress) → Changes (CanStart hand) (started hand) t v.tasks result tasks → Steps p self (Start hand t) result (with_tasks v tasks)
    start-steps hand t result tasks changes = subst (λ (w : CoreValue). Steps p w (Start hand t) result (with_tasks v tasks)) same (start-step hand t result tasks changes)

    pub give-steps : (giver taker t : ℕ) (result : Result (Unit {0}) NotEnabled) (tasks : List Progress) → Changes (CanGive giver) (handed taker) t v.tasks result tasks → Steps p self (Give giver taker t) result (with_tasks v tasks)
    give-steps giver taker t result tasks changes = subst (λ (w : CoreValue). Steps p w (Give giver taker t) result (with_tasks v tasks)) same (give-step giver taker t result tasks changes)

-- a step that writes nothing leaves a machine
module _ (p work : Plan) (Fits : Type 0) (v : CoreValue) (ran : List Bool) (outcomes : List Outcome) (is : IsMachine p work Fits v ran outcomes) where
  pub machine-after : (e : Event) (result : Result (Unit {0}) NotEnabled) (new : CoreValue) → Steps p v e result new
      → length new.tasks ≡ length v.tasks → length new.released ≡ length v.released → ((t : ℕ) → length (get_or new.released t []) ≡ length (get_or v.released t [])) → new.written ≡ v.written
      → IsMachine p work Fits new ran outcomes
  machine-after e (Ok done) new steps tasks rows links written = record {
    is_work = is.is_work;
    fits = is.fits;
    core = record {
      plan = is.core.plan;
      tasks = tasks ∙ is.core.tasks;
      released = rows ∙ is.core.released;
      links = λ t below. links t ∙ is.core.links t below;
      written = ap (λ (l : List Bool). length l) written ∙ is.core.written;
      reached = subst (λ (s : State). IsReached p s) (sym steps.1) (reached-more p (state_of p v) e is.core.reached steps.0);
    };
    learned = is.learned;
    told = λ c w. is.told c (subst (λ (l : List Bool). get_or l c Rattle.std.proofs.Common.false ≡ Rattle.std.proofs.Common.true) written w);
  }
  machine-after e (Err refused) new steps tasks rows links written = subst (λ (w : CoreValue). IsMachine p work Fits w ran outcomes) (sym steps.1) is

  -- where only tasks are changed
  pub machine-tasks : (e : Event) (result : Result (Unit {0}) NotEnabled) (tasks : List Progress) (Can : Progress → Type 0) (change : Progress → Progress) (t : ℕ)
      → Changes Can change t v.tasks result tasks → Steps p v e result (with_tasks v tasks) → IsMachine p work Fits (with_tasks v tasks) ran outcomes
  machine-tasks e result tasks Can change t changes steps = machine-after e result (with_tasks v tasks) steps (changes-length Can change t v.tasks result tasks changes) refl (λ t. refl) refl

module _ (p work : Plan) (Fits : Type 0) (v : CoreValue) (ran : List Bool) (outcomes : List Outcome) (is : IsMachine p work Fits v ran outcomes) where
  pub start-machine : (hand t : ℕ) (result : Result (Unit {0}) NotEnabled) (tasks : List Progress) → Changes (CanStart hand) (started hand) t v.tasks result tasks → IsMachine p work Fits (with_tasks v tasks) ran outcomes
  start-machine hand t result tasks changes = machine-tasks p work Fits v ran outcomes is (Start hand t) result tasks (CanStart hand) (started hand) t changes (start-steps p v v refl hand t result tasks changes)

  pub give-machine : (giver taker t : ℕ) (result : Result (Unit {0}) NotEnabled) (tasks : List Progress) → Changes (CanGive giver) (handed taker) t v.tasks result tasks → IsMachine p work Fits (with_tasks v tasks) ran outcomes
  give-machine giver taker t result tasks changes = machine-tasks p work Fits v ran outcomes is (Give giver taker t) result tasks (CanGive giver) (handed taker) t changes (give-steps p v v refl giver taker t result tasks changes)
