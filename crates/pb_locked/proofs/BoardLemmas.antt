-- What is done under the lock.
use Rattle.std.proofs.Common.{◌≡◌, ◌∙◌, refl, sym, ap, subst, inl, inr, ◌⊎◌, ⊎_elim, ℕ, ◌<◌, ◌≤◌, eqb, Bool, true, false, List, [], ◌∷◌, length, Option, Some, None, IsSome, arith}
use Rattle.std.specs.List.{Contains}
use Rattle.std.proofs.Math.Bool.{cond}
use Rattle.std.proofs.lemmas.Bool.{eqb-true}
use Rattle.std.proofs.lemmas.Bool.Decides.{nat_tests}
use Rattle.pb_values.specs.declared.outcome.Outcome.{Outcome}
use Rattle.pb_taskgraph.specs.Graphs.{after_of, cells_of}
use Rattle.pb_taskgraph.specs.Plans.{IsPlan, Plan}
use Rattle.pb_core.specs.declared.event.Event.{Event}
use Rattle.pb_core.specs.declared.event.Event.TheVariants.{Finish, Give, Release, Start, Write}
use Rattle.pb_core.specs.States.{Enabled, State, first_state, happens, with}
use Rattle.pb_core.specs.Events.{AllEnabled, IsReached, IsWork, all_happen}
use Rattle.pb_core.specs.Sound.{IsSound}
use Rattle.pb_core.proofs.BlockLemmas.{HasReleased, HasWritten, both-enabled, both-happen, release_all, releases-done, releases-enabled, write_all, writes-done, writes-enabled}
use Rattle.pb_core.proofs.ListedLemmas.{not-true}
use Rattle.pb_core.proofs.ProgressLemmas.{goes}
use Rattle.pb_core.proofs.StateLemmas.{reached-more, reached-sound}
use Rattle.pb_core.proofs.WithLemmas.{none-of, not-none, some-of, some-was, with-other, with-same}
use Rattle.pb_locked.specs.Boards.{HasBegun, IsBoard, IsReady, completed_by, taken_from}

-- before any event
pub board-first : (p : Plan) (hands : ℕ) → IsPlan p → 1 ≤ hands → hands ≤ 64 → IsBoard p (first_state p hands)
board-first p hands is some few = record {
  reached = record { hands = hands; some = some; few = few; events = []; enabled = tt; is = refl };
  ungiven = λ t none. refl;
  empty = λ t c none own. let past = (is.graph.partition.past t c own).0 in grind (arith, nat_tests);
  paid = λ u t some h. absurd (not-none {X = ℕ} None refl some);
}

-- several events more
pub reached-all : (p : Plan) (es : List Event) (s : State) → IsReached p s → AllEnabled p s es → IsReached p (all_happen p s es)
reached-all p [] s reached enabled = reached
reached-all p (e ∷ es) s reached enabled = reached-all p es (happens p s e) (reached-more p s e reached enabled.0) enabled.1

module _ (p : Plan) (is : IsPlan p) (s : State) (b : IsBoard p s) where
  sound : IsSound p s
  sound = reached-sound p is s b.reached

  -- a ready task is taken
  module _ (hand t : ℕ) (ready : IsReady p s t) where
    pub record IsTaken (events : List Event) : Type 0 where
      pub enabled : AllEnabled p s events
      pub board : IsBoard p (all_happen p s events)
      pub begun : HasBegun (all_happen p s events) hand t

    not-done : s.number t ≡ None
    not-done = none-of (s.number t) (λ some. not-none (s.runner t) ready.1 (sound.held.ended t some))

    apart : (u : ℕ) → with s.runner t (Some hand) u ≡ None → u ≡ t → ⊥
    apart u none same = let wrong : Some hand ≡ None = sym (with-same s.runner t (Some hand) u same) ∙ none in cc

    taken : (o : Option ℕ) → s.holder t ≡ o → IsTaken (taken_from o hand t)
    taken None held = absurd (not-none (s.holder t) held (sound.held.ready t ready.0 ready.2))
    taken (Some holder) held = go (eqb holder hand) refl
      where
        starts : s.holder t ≡ Some hand → IsTaken (Start hand t ∷ [])
        starts mine = record {
          enabled = ((mine, ready.1), tt);
          board = record {
            reached = reached-more p s (Start hand t) b.reached (mine, ready.1);
            ungiven = λ u none. b.ungiven u (sym (with-other s.runner t (Some hand) u (apart u none)) ∙ none);
            empty = b.empty;
            paid = b.paid;
          };
          begun = (with-same s.runner t (Some hand) t refl, not-done);
        }

        gives : IsTaken (Give holder hand t ∷ (Start hand t ∷ []))
        gives =
            let give : Enabled p s (Give holder hand t) = (held, ready.1, b.ungiven t ready.1) in
            let start : Enabled p (happens p s (Give holder hand t)) (Start hand t) = (with-same s.holder t (Some hand) t refl, ready.1) in
            record {
              enabled = (give, (start, tt));
              board = record {
                reached = reached-more p (happens p s (Give holder hand t)) (Start hand t) (reached-more p s (Give holder hand t) b.reached give) start;
                ungiven = λ u none. with-other s.given t true u (apart u none) ∙ b.ungiven u (sym (with-other s.runner t (Some hand) u (apart u none)) ∙ none);
                empty = b.empty;
                paid = b.paid;
              };
              begun = (with-same s.runner t (Some hand) t refl, not-done);
            }

        go : (same : Bool) → eqb holder hand ≡ same → IsTaken (cond same (Start hand t ∷ []) (Give holder hand t ∷ (Start hand t ∷ [])))
        go true e = starts (held ∙ ap (λ k. Some k) (eqb-true holder hand e))
        go false e = gives

    pub take : IsTaken (taken_from (s.holder t) hand t)
    take = taken (s.holder t) refl

  -- a begun task is completed
  module _ (hand t : ℕ) (begun : HasBegun s hand t) where
    pub begun-task : t < length p.graph.tasks
    begun-task = (sound.held.tasks t (sound.held.started t (some-of (s.runner t) hand begun.0))).0

    own : (c : ℕ) → Contains (p.order t) c → Contains (cells_of p.graph t) c
    own c = (is.listed t c begun-task).0

    abbrev nexts : List ℕ
    nexts = after_of p.graph t

    abbrev s2 : State
    s2 = all_happen p s (write_all hand (p.order t))

    abbrev s3 : State
    s3 = happens p s2 (Finish hand t)

    abbrev s4 : State
    s4 = all_happen p s3 (release_all hand t nexts)

    w : HasWritten s s2 (p.order t)
    w = writes-done p hand (p.order t) s

    r : HasReleased hand s3 s4 t nexts
    r = releases-done p hand t nexts s3

    run-2 : s2.runner t ≡ Some hand
    run-2 = ap (λ (g : ℕ → Option ℕ). g t) w.runner ∙ begun.0

    pub complete-enabled : AllEnabled p s (completed_by p hand t)
    complete-enabled =
        both-enabled p (write_all hand (p.order t)) (Finish hand t ∷ release_all hand t nexts) s
        (writes-enabled p hand t (p.order t) s own (is.once t begun-task) begun.0 begun.1 (λ c h. b.empty t c begun.1 (own c h))) (
          (run-2, ap (λ (g : ℕ → Option ℕ). g t) w.quiet.number ∙ begun.1, λ c h. w.new c ((is.listed t c begun-task).1 h)),
          releases-enabled p hand t nexts s3 (is.graph.linked.after_once t) (λ v h. h)
              (λ v h. ap (λ (g : ℕ → ℕ → Bool). g t v) w.quiet.released ∙ not-true (s.released t v) (λ e. not-none (s.number t) begun.1 (sound.counts.releases t v e)))
              (some-of (s3.number t) s2.finished (with-same s2.number t (Some s2.finished) t refl)) run-2,
        )

    complete-happens : s4 ≡ all_happen p s (completed_by p hand t)
    complete-happens = sym (both-happen p (write_all hand (p.order t)) (Finish hand t ∷ release_all hand t nexts) s)

    number-4 : s4.number ≡ with s.number t (Some s2.finished)
    number-4 = r.number ∙ ap (λ (g : ℕ → Option ℕ). with g t (Some s2.finished)) w.quiet.number

    board-4 : IsBoard p s4
    board-4 = record {
      reached = subst (λ (x : State). IsReached p x) (sym complete-happens) (reached-all p (completed_by p hand t) s b.reached complete-enabled);
      ungiven = λ u none. ap (λ (g : ℕ → Bool). g u) (r.given ∙ w.quiet.given) ∙ b.ungiven u (ap (λ (g : ℕ → Option ℕ). g u) (sym (r.runner ∙ w.runner)) ∙ none);
      empty = λ u c none h.
          let now : with s.number t (Some s2.finished) u ≡ None = ap (λ (g : ℕ → Option ℕ). g u) (sym number-4) ∙ none in
          let other : u ≡ t → ⊥ = λ same. let wrong : Some s2.finished ≡ None = sym (with-same s.number t (Some s2.finished) u same) ∙ now in cc in
          let open_ : s.number u ≡ None = sym (with-other s.number t (Some s2.finished) u other) ∙ now in
          ap (λ (g : ℕ → Option Outcome). g c) r.value ∙ none-of (s2.value c) (λ some. ⊎_elim
          (λ (mine : Contains (p.order t) c). other (is.graph.partition.one u t c h (own c mine)))
          (λ (old : IsSome (s.value c)). not-none (s.value c) (b.empty u c open_ h) old)
          (w.was c some));
      paid = λ u v some h. ⊎_elim
          (λ (this : u ≡ t). subst (λ x. s4.released x v ≡ true) (sym this) (r.new v (subst (λ x. Contains (after_of p.graph x) v) this h)))
          (λ (old : IsSome (s.number u)). r.kept u v (ap (λ (g : ℕ → ℕ → Bool). g u v) w.quiet.released ∙ b.paid u v old h))
          (some-was s.number t s2.finished u (subst (λ (g : ℕ → Option ℕ). IsSome (g u)) number-4 some));
    }

    pub complete-board : IsBoard p (all_happen p s (completed_by p hand t))
    complete-board = subst (λ (x : State). IsBoard p x) complete-happens board-4

  -- some task is ready or begun
  by-event : (e : Event) → IsWork e → Enabled p s e → ((u : ℕ) × IsReady p s u) ⊎ ((hand : ℕ) × ((u : ℕ) × HasBegun s hand u))
  by-event (Start hand u) work (held, waits) = let task = sound.held.tasks u (some-of (s.holder u) hand held) in inl (u, (task.0, waits, task.1))
  by-event (Write hand cell) work enabled = inr (hand, (enabled.0, (enabled.2, enabled.3)))
  by-event (Finish hand u) work enabled = inr (hand, (u, (enabled.0, enabled.1)))
  by-event (Release hand u next) work (done, runs, after, open_) = let wrong : true ≡ false = sym (b.paid u next done after) ∙ open_ in absurd (cc)
  by-event (Give giver taker u) work enabled = absurd work

  pub board-goes : (t : ℕ) → t < length p.graph.tasks → s.number t ≡ None → ((u : ℕ) × IsReady p s u) ⊎ ((hand : ℕ) × ((u : ℕ) × HasBegun s hand u))
  board-goes t below open_ = let there = goes p is s sound t below open_ in by-event there.0 there.1 there.2
