-- The state that is held, and what a change of one task makes of it.
use Rattle.std.proofs.Common.{◌≡◌, ◌∙◌, refl, sym, ap, subst, ⊎_elim, ℕ, ◌<◌, ◌≤◌, List, [], ◌∷◌, ◌++◌, length, get_or, slice_set, length-set, Option, Some, None, Result, Ok, Err}
use Rattle.std.proofs.Math.Path.{fun_ext}
use Rattle.std.proofs.lemmas.Bool.{cases_eq, cases_lt}
use Rattle.std.proofs.lemmas.List.{get_or-set_other, get_or-set_same, get_or_past}
use Rattle.pb_taskgraph.specs.Plans.{IsPlan, Plan}
use Rattle.pb_core.specs.declared.event.Event.{Event}
use Rattle.pb_core.specs.declared.event.NotEnabled.{NotEnabled}
use Rattle.pb_core.specs.declared.progress.Progress.{Progress}
use Rattle.pb_core.specs.States.{Enabled, State, first_state, happens, with}
use Rattle.pb_core.specs.Events.{AllEnabled, IsReached, all_happen}
use Rattle.pb_core.specs.Sound.{IsSound}
use Rattle.pb_core.specs.Cores.{Changes, untouched}
use Rattle.pb_core.proofs.FirstLemmas.{first-sound}
use Rattle.pb_core.proofs.OnceLemmas.{all-sound}
use Rattle.pb_core.proofs.WithLemmas.{with-each}

-- states are equal where their parts are
pub state-path : (s t : State) → s.count ≡ t.count → s.holder ≡ t.holder → s.runner ≡ t.runner → s.number ≡ t.number → s.given ≡ t.given → s.released ≡ t.released → s.value ≡ t.value → s.finished ≡ t.finished → s ≡ t
state-path s t a b c d e f g h = λ i. record { count = a i; holder = b i; runner = c i; number = d i; given = e i; released = f i; value = g i; finished = h i }

-- an entry of a list is changed
module _ {A X : Type 0} (f : A → X) (d : A) (xs : List A) (t : ℕ) (x : A) (below : t < length xs) where
  pub field-set : ◌≡◌ {A = ℕ → X} (λ k. f (get_or (slice_set xs t x) k d)) (with (λ k. f (get_or xs k d)) t (f x))
  field-set = fun_ext (λ k. with-each (λ j. f (get_or xs j d)) t (f x) k (λ y. f (get_or (slice_set xs t x) k d) ≡ y)
      (λ same. ap f (subst (λ j. get_or (slice_set xs t x) j d ≡ x) (sym same) (get_or-set_same xs t x d below)))
      (λ other. ap f (get_or-set_other xs t k x d other)))

  pub field-kept : f x ≡ f (get_or xs t d) → ◌≡◌ {A = ℕ → X} (λ k. f (get_or (slice_set xs t x) k d)) (λ k. f (get_or xs k d))
  field-kept is = fun_ext (λ k. ⊎_elim
      (λ (same : k ≡ t). subst (λ j. f (get_or (slice_set xs t x) j d) ≡ f (get_or xs j d)) (sym same) (ap f (get_or-set_same xs t x d below) ∙ is))
      (λ (other : k ≡ t → ⊥). ap f (get_or-set_other xs t k x d other))
      (cases_eq k t))

-- whoever differs from an untouched task is a task
pub is-inside : {X : Type 0} (f : Progress → Option X) (tasks : List Progress) (t : ℕ) (x : X) → f untouched ≡ None → f (get_or tasks t untouched) ≡ Some x → t < length tasks
is-inside f tasks t x none is = ⊎_elim
    (λ (inside : t < length tasks). inside)
    (λ (past : length tasks ≤ t). let wrong : None ≡ Some x = sym none ∙ ap f (sym (get_or_past tasks t untouched past)) ∙ is in absurd (cc))
    (cases_lt t (length tasks))

pub changes-length : (Can : Progress → Type 0) (change : Progress → Progress) (t : ℕ) (old : List Progress) (result : Result (Unit {0}) NotEnabled) (new : List Progress) → Changes Can change t old result new → length new ≡ length old
changes-length Can change t old (Ok done) new changes = ap (λ (l : List Progress). length l) changes.1 ∙ length-set old t (change (get_or old t untouched))
changes-length Can change t old (Err refused) new changes = ap (λ (l : List Progress). length l) changes.1

-- events more
module _ (p : Plan) where
  pub enabled-more : (es : List Event) (e : Event) (s : State) → AllEnabled p s es → Enabled p (all_happen p s es) e → AllEnabled p s (es ++ e ∷ [])
  enabled-more [] e s all enabled = (enabled, tt)
  enabled-more (d ∷ es) e s all enabled = (all.0, enabled-more es e (happens p s d) all.1 enabled)

  pub happen-more : (es : List Event) (e : Event) (s : State) → all_happen p s (es ++ e ∷ []) ≡ happens p (all_happen p s es) e
  happen-more [] e s = refl
  happen-more (d ∷ es) e s = happen-more es e (happens p s d)

  pub reached-more : (s : State) (e : Event) → IsReached p s → Enabled p s e → IsReached p (happens p s e)
  reached-more s e reached enabled = record {
    hands = reached.hands;
    some = reached.some;
    few = reached.few;
    events = reached.events ++ e ∷ [];
    enabled = enabled-more reached.events e (first_state p reached.hands) reached.enabled (subst (λ (state : State). Enabled p state e) reached.is enabled);
    is = ap (λ (state : State). happens p state e) reached.is ∙ sym (happen-more reached.events e (first_state p reached.hands));
  }

  pub reached-sound : IsPlan p → (s : State) → IsReached p s → IsSound p s
  reached-sound is s reached = subst (λ (state : State). IsSound p state) (sym reached.is) (all-sound p is reached.events (first_state p reached.hands) (first-sound p is reached.hands) reached.enabled)
