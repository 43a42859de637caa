-- Tasks that are looked through by number.
use Rattle.std.proofs.Common.{◌≡◌, ◌∙◌, sym, ap, ⊎_elim, ℕ, ◌<◌, ◌≤◌, length, get_or, Some, None}
use Rattle.std.proofs.lemmas.Bool.{cases_lt}
use Rattle.pb_taskgraph.specs.Plans.{IsPlan, Plan}
use Rattle.pb_core.specs.declared.progress.Progress.{Progress}
use Rattle.pb_core.specs.Cores.{CoreValue, state_of, untouched}
use Rattle.pb_core.proofs.StateLemmas.{reached-sound}
use Rattle.pb_core.proofs.WithLemmas.{some-of}
use Rattle.pb_locked.specs.Boards.{FindsBegun, FindsReady, HasBegun, IsBoard, IsReady}

module _ (p : Plan) (v self : CoreValue) (same : v ≡ self) (t : ℕ) (at : Progress) (is : at ≡ get_or v.tasks t untouched) where
  here : at ≡ get_or self.tasks t untouched
  here = is ∙ ap (λ (w : CoreValue). get_or w.tasks t untouched) same

  runner-is : at.runner ≡ (state_of p self).runner t
  unfolding state_of
  runner-is = ap (λ (a : Progress). a.runner) here

  count-is : at.count ≡ (state_of p self).count t
  unfolding state_of
  count-is = ap (λ (a : Progress). a.count) here

  number-is : at.number ≡ (state_of p self).number t
  unfolding state_of
  number-is = ap (λ (a : Progress). a.number) here

  pub found-ready : t < length p.graph.tasks → ((k : ℕ) → k < t → IsReady p (state_of p self) k → ⊥) → (at.runner ≡ None) × (at.count ≡ 0) → FindsReady p (state_of p self) (Some t)
  found-ready below before ready = (
    (below, sym runner-is ∙ ready.0, sym count-is ∙ ready.1),
    λ u other. ⊎_elim
        (λ (less : u < t). absurd (before u less other))
        (λ (more : t ≤ u). more)
        (cases_lt u t),
  )

  pub not-ready : ((at.runner ≡ None) × (at.count ≡ 0) → ⊥) → IsReady p (state_of p self) t → ⊥
  not-ready never ready = never (runner-is ∙ ready.1, count-is ∙ ready.2)

  pub found-begun : (hand : ℕ) → (at.runner ≡ Some hand) × (at.number ≡ None) → FindsBegun (state_of p self) (Some (hand, t))
  found-begun hand begun = (sym runner-is ∙ begun.0, sym number-is ∙ begun.1)

  pub not-begun : ((hand : ℕ) → (at.runner ≡ Some hand) × (at.number ≡ None) → ⊥) → (hand : ℕ) → HasBegun (state_of p self) hand t → ⊥
  not-begun never hand begun = never hand (runner-is ∙ begun.0, number-is ∙ begun.1)

-- who has been begun is a task
pub none-begun : (p : Plan) → IsPlan p → (v self : CoreValue) → v ≡ self → IsBoard p (state_of p v) → ((k : ℕ) → k < length p.graph.tasks → (hand : ℕ) → HasBegun (state_of p self) hand k → ⊥) → FindsBegun (state_of p self) None
none-begun p is v self same board none hand t begun =
    let s = reached-sound p is (state_of p v) board.reached in
    let runs = ap (λ (w : CoreValue). (state_of p w).runner t) same ∙ begun.0 in
    none t (s.held.tasks t (s.held.started t (some-of ((state_of p v).runner t) hand runs))).0 hand begun
