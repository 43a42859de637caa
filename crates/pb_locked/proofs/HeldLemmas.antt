-- The ready tasks of a board, as its steps change them.
use Rattle.std.proofs.Common.{◌≡◌, ◌∙◌, refl, sym, ap, subst, inl, inr, ◌⊎◌, ⊎_elim, ◌↔◌, ℕ, ◌<◌, ◌≤◌, ◌-◌, eqb, Bool, true, false, List, [], ◌∷◌, length, Option, Some, None, arith}
use Rattle.std.specs.List.{All, Contains}
use Rattle.std.specs.List.Sorted.{IsPermutation}
use Rattle.std.proofs.Math.Bool.{cond}
use Rattle.std.proofs.lemmas.Bool.{cases_eq, cases_lt}
use Rattle.std.proofs.lemmas.List.Elements.{All-contains}
use Rattle.std.proofs.lemmas.List.Sorted.{Contains-permutation, IsPermutation-sym}
use Rattle.pb_base.proofs.ListLemmas.{in_cases, in_head, in_none, in_tail}
use Rattle.pb_taskgraph.specs.Graphs.{EachOnce, after_of, before_of}
use Rattle.pb_taskgraph.specs.Plans.{IsPlan, Plan}
use Rattle.pb_taskgraph.proofs.GraphLemmas.{before-past}
use Rattle.pb_core.specs.declared.event.Event.TheVariants.{Finish, Give, Release, Start}
use Rattle.pb_core.specs.States.{State, first_state, happens, with}
use Rattle.pb_core.specs.Events.{all_happen}
use Rattle.pb_core.specs.Sound.{IsSound}
use Rattle.pb_core.proofs.BlockLemmas.{HasWritten, both-happen, release_all, releases-done, write_all, writes-done}
use Rattle.pb_core.proofs.KeepLemmas.{finished-before, started-count}
use Rattle.pb_core.proofs.StateLemmas.{reached-sound}
use Rattle.pb_core.proofs.WithLemmas.{none-of, not-none, with-other, with-same}
use Rattle.pb_locked.specs.Boards.{FindsReady, HasBegun, IsBoard, IsReady, completed_by, taken_from}
use Rattle.pb_locked.specs.Ready.{Adds, Holds, HoldsReady, ReadyValue}
use Rattle.pb_locked.proofs.ReadyLemmas.{holds-less, holds-same}

module _ (p : Plan) (s : State) (v : ReadyValue) (h : HoldsReady p s v) where
  -- the least is found, or none
  pub found-least : (t : ℕ) (new : ReadyValue) → IsPermutation v.tasks (t ∷ new.tasks) → All (λ u. t ≤ u) new.tasks → FindsReady p s (Some t)
  found-least t new moved least = (
    (h.each t).0 (Contains-permutation (t ∷ new.tasks) v.tasks t (IsPermutation-sym v.tasks (t ∷ new.tasks) moved) (in_head t new.tasks)),
    λ u ready. ⊎_elim
        (λ (this : t ≡ u). omega (arith, this))
        (λ (rest : Contains new.tasks u). All-contains (λ w. t ≤ w) new.tasks u least rest)
        (in_cases t u new.tasks (Contains-permutation v.tasks (t ∷ new.tasks) u moved ((h.each u).1 ready))),
  )

  pub found-none : v.tasks ≡ [] → FindsReady p s None
  found-none empty u ready = in_none u (subst (λ l. Contains l u) empty ((h.each u).1 ready))

  -- one is taken
  module _ (hand t : ℕ) where
    taken : (o : Option ℕ) → ((all_happen p s (taken_from o hand t)).runner ≡ with s.runner t (Some hand)) × ((all_happen p s (taken_from o hand t)).count ≡ s.count)
    taken None = (refl, refl)
    taken (Some holder) = go (eqb holder hand)
      where
        go : (b : Bool) → ((all_happen p s (cond b (Start hand t ∷ []) (Give holder hand t ∷ (Start hand t ∷ [])))).runner ≡ with s.runner t (Some hand))
            × ((all_happen p s (cond b (Start hand t ∷ []) (Give holder hand t ∷ (Start hand t ∷ [])))).count ≡ s.count)
        go true = (refl, refl)
        go false = (refl, refl)

    pub taken-holds : (new : ReadyValue) → IsPermutation v.tasks (t ∷ new.tasks) → new.room ≡ v.room → HoldsReady p (all_happen p s (taken_from (s.holder t) hand t)) new
    taken-holds new moved room =
        let less = holds-less (IsReady p s) (length p.graph.tasks) v h new t moved room in
        let now = taken (s.holder t) in
        holds-same (λ u. IsReady p s u × (u ≡ t → ⊥)) (length p.graph.tasks) new less.1 (IsReady p (all_happen p s (taken_from (s.holder t) hand t)))
        (λ u. (
          (λ one. (one.0.0, ap (λ (g : ℕ → Option ℕ). g u) now.0 ∙ with-other s.runner t (Some hand) u one.1 ∙ one.0.1, ap (λ (g : ℕ → ℕ). g u) now.1 ∙ one.0.2)),
          (λ ready.
              let other : u ≡ t → ⊥ = λ same. let wrong : Some hand ≡ None = sym (with-same s.runner t (Some hand) u same) ∙ ap (λ (g : ℕ → Option ℕ). g u) (sym now.0) ∙ ready.1 in cc in
              ((ready.0, sym (with-other s.runner t (Some hand) u other) ∙ ap (λ (g : ℕ → Option ℕ). g u) (sym now.0) ∙ ready.1, ap (λ (g : ℕ → ℕ). g u) (sym now.1) ∙ ready.2), other)),
        ))

-- before any event
pub first-holds : (p : Plan) (hands : ℕ) (v : ReadyValue) → Holds (λ t. (t < length p.graph.tasks) × (length (before_of p.graph t) ≡ 0)) (length p.graph.tasks) v → HoldsReady p (first_state p hands) v
first-holds p hands v h = holds-same (λ t. (t < length p.graph.tasks) × (length (before_of p.graph t) ≡ 0)) (length p.graph.tasks) v h (IsReady p (first_state p hands))
    (λ t. ((λ one. (one.0, refl, one.1)), (λ ready. (ready.0, ready.2))))

-- the count of a task that isn't released stays
count-stays : (p : Plan) (hand t : ℕ) (nexts : List ℕ) (s : State) (u : ℕ) → (Contains nexts u → ⊥) → (all_happen p s (release_all hand t nexts)).count u ≡ s.count u
count-stays p hand t [] s u out = refl
count-stays p hand t (next ∷ nexts) s u out =
    count-stays p hand t nexts (happens p s (Release hand t next)) u (λ h. out (in_tail next u nexts h))
    ∙ with-other s.count next (s.count next - 1) u (λ same. out (subst (λ w. Contains (next ∷ nexts) w) (sym same) (in_head next nexts)))

-- a task is completed
module _ (p : Plan) (is : IsPlan p) (s : State) (b : IsBoard p s) (hand t : ℕ) (begun : HasBegun s hand t) where
  sound : IsSound p s
  sound = reached-sound p is s b.reached

  abbrev end : State
  end = all_happen p s (completed_by p hand t)

  abbrev mid : State
  mid = happens p (all_happen p s (write_all hand (p.order t))) (Finish hand t)

  is-end : end ≡ all_happen p mid (release_all hand t (after_of p.graph t))
  is-end = both-happen p (write_all hand (p.order t)) (Finish hand t ∷ release_all hand t (after_of p.graph t)) s

  w : HasWritten s (all_happen p s (write_all hand (p.order t))) (p.order t)
  w = writes-done p hand (p.order t) s

  runner-end : end.runner ≡ s.runner
  runner-end = ap (λ (x : State). x.runner) is-end ∙ (releases-done p hand t (after_of p.graph t) mid).runner ∙ w.runner

  count-end : (u : ℕ) → (Contains (after_of p.graph t) u → ⊥) → end.count u ≡ s.count u
  count-end u out = ap (λ (x : State). x.count u) is-end ∙ count-stays p hand t (after_of p.graph t) mid u out ∙ ap (λ (g : ℕ → ℕ). g u) w.quiet.count

  -- a successor waits
  pub waits : (u : ℕ) → Contains (after_of p.graph t) u → s.count u ≡ 0 → ⊥
  waits u h none = not-none (s.number t) begun.1 (finished-before p is s sound u t none ((is.graph.linked.mirrored u t).1 h))

  pub next-task : (u : ℕ) → Contains (after_of p.graph t) u → u < length p.graph.tasks
  next-task u h = ⊎_elim
      (λ (inside : u < length p.graph.tasks). inside)
      (λ (past : length p.graph.tasks ≤ u). absurd (in_none t (subst (λ l. Contains l t) (before-past p.graph u past) ((is.graph.linked.mirrored u t).1 h))))
      (cases_lt u (length p.graph.tasks))

  pub end-ready : (u : ℕ) → (IsReady p s u ⊎ (Contains (after_of p.graph t) u × (end.count u ≡ 0))) ↔ IsReady p end u
  end-ready u = (
    (λ one. ⊎_elim
        (λ (ready : IsReady p s u). (ready.0, ap (λ (g : ℕ → Option ℕ). g u) runner-end ∙ ready.1, count-end u (λ h. waits u h ready.2) ∙ ready.2))
        (λ (freed : Contains (after_of p.graph t) u × (end.count u ≡ 0)). (
          next-task u freed.0,
          ap (λ (g : ℕ → Option ℕ). g u) runner-end ∙ none-of (s.runner u) (λ some. waits u freed.0 (started-count p is s sound u some)),
          freed.1,
        ))
        one),
    (λ ready. elim (in-or-not (after_of p.graph t) u) [
      | inl h ↦ inr (h, ready.2)
      | inr out ↦ inl (ready.0, ap (λ (g : ℕ → Option ℕ). g u) (sym runner-end) ∙ ready.1, sym (count-end u out) ∙ ready.2)
    ]),
  )
    where
      in-or-not : (xs : List ℕ) (x : ℕ) → Contains xs x ⊎ (Contains xs x → ⊥)
      in-or-not [] x = inr (in_none x)
      in-or-not (y ∷ ys) x = elim (cases_eq y x) [
        | inl same ↦ inl (subst (λ z. Contains (y ∷ ys) z) same (in_head y ys))
        | inr other ↦ elim (in-or-not ys x) [
          | inl rest ↦ inl (in_tail y x ys rest)
          | inr never ↦ inr (λ h. ⊎_elim (λ (this : y ≡ x). other this) (λ (rest : Contains ys x). never rest) (in_cases y x ys h))
        ]
      ]

  module _ (v : ReadyValue) (h : HoldsReady p s v) (nexts : List ℕ) (same : after_of p.graph t ≡ nexts) where
    own : (u : ℕ) → Contains nexts u → Contains (after_of p.graph t) u
    own u c = subst (λ l. Contains l u) (sym same) c

    pub complete-adds : Adds p v nexts
    complete-adds = record {
      there = holds-same (IsReady p s) (length p.graph.tasks) v h (Contains v.tasks) (λ u. ((h.each u).1, (h.each u).0));
      tasks = λ u c. ((h.each u).0 c).0;
      fresh = λ u c. next-task u (own u c);
      one = subst EachOnce same (is.graph.linked.after_once t);
      apart = λ u c held. waits u (own u c) ((h.each u).0 held).2;
    }

    pub complete-holds : (now : State) → now ≡ end → (new : ReadyValue) → Holds (λ u. Contains v.tasks u ⊎ (Contains nexts u × (now.count u ≡ 0))) (length p.graph.tasks) new → HoldsReady p now new
    complete-holds now is-now new held = subst (λ (x : State). HoldsReady p x new) (sym is-now)
        (holds-same (λ u. Contains v.tasks u ⊎ (Contains nexts u × (now.count u ≡ 0))) (length p.graph.tasks) new held (IsReady p end) (λ u. (
          (λ one. (end-ready u).0 (⊎_elim
              (λ (old : Contains v.tasks u). inl ((h.each u).0 old))
              (λ (freed : Contains nexts u × (now.count u ≡ 0)). inr (own u freed.0, ap (λ (x : State). x.count u) (sym is-now) ∙ freed.1))
              one)),
          (λ ready. ⊎_elim
              (λ (old : IsReady p s u). inl ((h.each u).1 old))
              (λ (freed : Contains (after_of p.graph t) u × (end.count u ≡ 0)). inr (subst (λ l. Contains l u) same freed.0, ap (λ (x : State). x.count u) is-now ∙ freed.1))
              ((end-ready u).1 ready)),
        )))
