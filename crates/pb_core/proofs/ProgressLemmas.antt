-- While a task is unfinished, some event that isn't a Give is enabled.
use Rattle.std.proofs.Common.{◌≡◌, ◌∙◌, refl, sym, inl, inr, ◌⊎◌, ℕ, ◌<◌, Bool, true, false, not, List, [], ◌∷◌, length, Option, Some, None, IsSome, arith}
use Rattle.std.specs.Prelude.{is_none}
use Rattle.std.specs.List.{Contains}
use Rattle.pb_base.proofs.ListLemmas.{in_head, in_tail}
use Rattle.pb_base.proofs.WayLemmas.{Decided, first-below}
use Rattle.pb_taskgraph.specs.Graphs.{before_of, cells_of}
use Rattle.pb_taskgraph.specs.Plans.{IsPlan, Plan}
use Rattle.pb_core.specs.declared.event.Event.{Event}
use Rattle.pb_core.specs.declared.event.Event.TheVariants.{Finish, Release, Start, Write}
use Rattle.pb_core.specs.States.{Enabled, State, counted}
use Rattle.pb_core.specs.Events.{IsWork}
use Rattle.pb_core.specs.Sound.{IsSound}
use Rattle.pb_core.proofs.CountLemmas.{count-none}
use Rattle.pb_core.proofs.WithLemmas.{of-some}

-- some number of a list passes a test, or none is counted
search-list : (test : ℕ → Bool) (xs : List ℕ) → ((x : ℕ) × Contains xs x × (test x ≡ true)) ⊎ (counted test xs ≡ 0)
search-list test [] = inr refl
search-list test (x ∷ xs) = go (test x) refl (search-list test xs)
  where
    go : (b : Bool) → test x ≡ b → ((y : ℕ) × Contains xs y × (test y ≡ true)) ⊎ (counted test xs ≡ 0) → ((y : ℕ) × Contains (x ∷ xs) y × (test y ≡ true)) ⊎ (counted test (x ∷ xs) ≡ 0)
    go true e rest = inl (x, in_head x xs, e)
    go false e rest = elim rest [
      | inl there ↦ inl (there.0, in_tail x there.0 xs there.1, there.2)
      | inr none ↦ inr (rw e (omega (arith, none)))
    ]

none-or : {X : Type 0} (o : Option X) → (o ≡ None) ⊎ IsSome o
none-or None = inl refl
none-or (Some x) = inr refl

decided-none : {X : Type 0} (o : Option X) → Decided (o ≡ None)
decided-none None = inl refl
decided-none (Some x) = inr (λ e. cc)

not-true : (b : Bool) → not b ≡ true → b ≡ false
not-true true e = sym e
not-true false e = refl

is-none : {X : Type 0} (o : Option X) → is_none o ≡ true → o ≡ None
is-none None e = refl
is-none (Some x) e = absurd (cc)

isnt-none : {X : Type 0} (o : Option X) → is_none o ≡ false → IsSome o
isnt-none None e = absurd (cc)
isnt-none (Some x) e = refl

module _ (p : Plan) (is : IsPlan p) (s : State) (sound : IsSound p s) where
  abbrev Goes : Type 0
  Goes = (e : Event) × IsWork e × Enabled p s e

  -- a started task goes on
  started-goes : (t hand : ℕ) → s.runner t ≡ Some hand → s.number t ≡ None → Goes
  started-goes t hand runs open_ = elim (search-list (λ c. is_none (s.value c)) (cells_of p.graph t)) [
    | inl there ↦ (Write hand there.0, tt, (t, there.1, runs, open_, is-none (s.value there.0) there.2))
    | inr none ↦ (Finish hand t, tt, (runs, open_, λ c own. isnt-none (s.value c) (count-none (λ d. is_none (s.value d)) (cells_of p.graph t) c none own)))
  ]

  -- the least unfinished task is released, started or goes on
  least-goes : (t : ℕ) → t < length p.graph.tasks → s.number t ≡ None → ((u : ℕ) → u < t → s.number u ≡ None → ⊥) → Goes
  least-goes t task open_ least = elim (search-list (λ u. not (s.released u t)) (before_of p.graph t)) [
    | inl there ↦
        let ended : IsSome (s.number there.0) = elim (none-or (s.number there.0)) [ inl none ↦ absurd (least there.0 (is.graph.linked.smaller t there.0 there.1) none) | inr some ↦ some ] in
        let hand = of-some (s.runner there.0) (sound.held.ended there.0 ended) in
        (Release hand.0 there.0 t, tt, (ended, hand.1, (is.graph.linked.mirrored t there.0).0 there.1, not-true (s.released there.0 t) there.2))
    | inr none ↦
        let hand = of-some (s.holder t) (sound.held.ready t task (sound.counts.counts t ∙ none)) in
        elim (none-or (s.runner t)) [
          | inl waits ↦ (Start hand.0 t, tt, (hand.1, waits))
          | inr some ↦ let runs = of-some (s.runner t) some in started-goes t runs.0 runs.1 open_
        ]
  ]

  pub goes : (t : ℕ) → t < length p.graph.tasks → s.number t ≡ None → (e : Event) × IsWork e × Enabled p s e
  goes t task open_ = elim (first-below (λ u. s.number u ≡ None) (λ u. decided-none (s.number u)) (length p.graph.tasks)) [
    | inl there ↦ least-goes there.0 there.1 there.2 there.3
    | inr none ↦ absurd (none t task open_)
  ]
