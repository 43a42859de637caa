-- A task is taken by a Give and a Start.
use Rattle.std.proofs.Common.{◌≡◌, ◌∙◌, refl, sym, ap, subst, inl, inr, ◌⊎◌, ℕ, eqb, false, List, [], ◌∷◌, get_or, Option, Some, None, Result, Ok, Err}
use Rattle.std.proofs.Math.Bool.{cond}
use Rattle.std.proofs.lemmas.Bool.{eq-eqb}
use Rattle.pb_taskgraph.specs.Plans.{IsPlan, Plan}
use Rattle.pb_core.specs.declared.event.Event.{Event}
use Rattle.pb_core.specs.declared.event.Event.TheVariants.{Give, Start}
use Rattle.pb_core.specs.declared.event.NotEnabled.{NotEnabled}
use Rattle.pb_core.specs.declared.progress.Progress.{Progress}
use Rattle.pb_core.specs.States.{Enabled, State, happens}
use Rattle.pb_core.specs.Events.{AllEnabled, all_happen}
use Rattle.pb_core.specs.Cores.{CoreValue, Steps, state_of, untouched}
use Rattle.pb_locked.specs.Boards.{HasBegun, IsBoard, Takes, taken_from}
use Rattle.pb_locked.proofs.BoardLemmas.{take}

-- an enabled event happens
pub did : (p : Plan) (old : CoreValue) (e : Event) (result : Result (Unit {0}) NotEnabled) (new : CoreValue) → Steps p old e result new → Enabled p (state_of p old) e → state_of p new ≡ happens p (state_of p old) e
did p old e (Ok done) new steps enabled = steps.1
did p old e (Err refused) new steps enabled = absurd (steps.0 enabled)

module _ (p : Plan) (old : CoreValue) (hand t : ℕ) (at : Progress) (is : at ≡ get_or old.tasks t untouched) (all : AllEnabled p (state_of p old) (taken_from ((state_of p old).holder t) hand t)) where
  held : at.holder ≡ (state_of p old).holder t
  unfolding state_of
  held = ap (λ (a : Progress). a.holder) is

  module _ (events : List Event) (are : taken_from ((state_of p old).holder t) hand t ≡ events) where
    enabled : AllEnabled p (state_of p old) events
    enabled = subst (λ (l : List Event). AllEnabled p (state_of p old) l) are all

    ends : (new : CoreValue) → state_of p new ≡ all_happen p (state_of p old) events → state_of p new ≡ all_happen p (state_of p old) (taken_from ((state_of p old).holder t) hand t)
    ends new e = e ∙ ap (λ (l : List Event). all_happen p (state_of p old) l) (sym are)

  pub take-other : (giver : ℕ) → (at.holder ≡ Some giver) × (eqb giver hand ≡ false) → (a b : Result (Unit {0}) NotEnabled) (mid new : CoreValue)
      → Steps p old (Give giver hand t) a mid → Steps p mid (Start hand t) b new → state_of p new ≡ all_happen p (state_of p old) (taken_from ((state_of p old).holder t) hand t)
  take-other giver other a b mid new first second =
      let events = Give giver hand t ∷ (Start hand t ∷ []) in
      let are : taken_from ((state_of p old).holder t) hand t ≡ Give giver hand t ∷ (Start hand t ∷ []) =
      ap (λ (o : Option ℕ). taken_from o hand t) (sym held ∙ other.0) ∙ ap (λ c. cond c (Start hand t ∷ []) (Give giver hand t ∷ (Start hand t ∷ []))) other.1 in
      let on = enabled (Give giver hand t ∷ (Start hand t ∷ [])) are in
      let one = did p old (Give giver hand t) a mid first on.0 in
      let two = did p mid (Start hand t) b new second (subst (λ (s : State). Enabled p s (Start hand t)) (sym one) on.1.0) in
      ends (Give giver hand t ∷ (Start hand t ∷ [])) are new (two ∙ ap (λ (s : State). happens p s (Start hand t)) one)

  pub take-own : (at.holder ≡ None) ⊎ (at.holder ≡ Some hand) → (b : Result (Unit {0}) NotEnabled) (new : CoreValue)
      → Steps p old (Start hand t) b new → state_of p new ≡ all_happen p (state_of p old) (taken_from ((state_of p old).holder t) hand t)
  take-own own b new second = ends (Start hand t ∷ []) (are own) new (did p old (Start hand t) b new second (enabled (Start hand t ∷ []) (are own)).0)
    where
      are : (at.holder ≡ None) ⊎ (at.holder ≡ Some hand) → taken_from ((state_of p old).holder t) hand t ≡ Start hand t ∷ []
      are (inl none) = ap (λ (o : Option ℕ). taken_from o hand t) (sym held ∙ none)
      are (inr mine) = ap (λ (o : Option ℕ). taken_from o hand t) (sym held ∙ mine) ∙ ap (λ c. cond c (Start hand t ∷ []) (Give hand hand t ∷ (Start hand t ∷ []))) (eq-eqb hand hand refl)

-- a task that was taken is begun
pub took-begun : (p : Plan) → IsPlan p → (old new : CoreValue) (hand t : ℕ) → IsBoard p (state_of p old) → Takes p old hand (Some t) new → HasBegun (state_of p new) hand t
took-begun p is old new hand t board takes = subst (λ (s : State). HasBegun s hand t) (sym takes.1) (take p is (state_of p old) board hand t takes.0.0).begun
