-- The listed events of a sound snapshot show it.
use Rattle.std.proofs.Common.{◌≡◌, ◌∙◌, refl, sym, ap, subst, inl, inr, ◌⊎◌, ⊎_elim, ℕ, zero, suc, ◌+◌, ◌<◌, ◌≤◌, ◌%◌, ◌&&◌, eqb, ltb, Bool, true, false, not, List, [], ◌∷◌, ◌++◌, length, get_or, Option, Some, None, IsSome, zero-add, arith}
use Rattle.std.specs.Prelude.{filter, is_none, is_some}
use Rattle.std.specs.List.{Contains, flat_map, list_any, range_with_len}
use Rattle.std.proofs.Math.Bool.{cond}
use Rattle.std.proofs.lemmas.Bool.{and_parts, cases_lt, or_cases, or_left, or_right}
use Rattle.std.proofs.lemmas.Bool.Decides.{nat_tests}
use Rattle.std.proofs.lemmas.List.{append-nil}
use Rattle.std.proofs.lemmas.List.Concat.{flat_map-append}
use Rattle.std.proofs.lemmas.List.FromFn.{get_or-range_with_len, length-range_with_len, map-range_with_len_more}
use Rattle.pb_base.proofs.ListLemmas.{filter_in, in_cases, in_filter, in_head, in_none, in_range, in_tail, range_in}
use Rattle.pb_values.specs.declared.outcome.Outcome.{Outcome}
use Rattle.pb_taskgraph.specs.Graphs.{EachOnce, after_of, before_of, cells_of}
use Rattle.pb_taskgraph.specs.Plans.{IsPlan, Plan, outcome_at}
use Rattle.pb_taskgraph.proofs.GraphLemmas.{cells-past}
use Rattle.pb_core.specs.declared.event.Event.{Event}
use Rattle.pb_core.specs.declared.event.Event.TheVariants.{Finish, Start}
use Rattle.pb_core.specs.States.{State, counted, first_state, happens, with}
use Rattle.pb_core.specs.Events.{AllEnabled, all_happen, by_number, task_numbered}
use Rattle.pb_core.specs.Listed.{begun_events, finished_events, is_begun, listed_events}
use Rattle.pb_core.specs.Snapshots.{IsSoundSnapshot, Shows, Snapshot, owes}
use Rattle.pb_core.specs.Sound.{IsSound}
use Rattle.pb_core.proofs.BlockLemmas.{HasReleased, HasWritten, IsAlone, IsQuiet, both-enabled, both-happen, quiet-both, quiet-same, release_all, releases-done, releases-enabled, write_all, writes-done, writes-enabled}
use Rattle.pb_core.proofs.CountLemmas.{count-same, none-count, once-filter, once-head, once-rest}
use Rattle.pb_core.proofs.FirstLemmas.{first-sound}
use Rattle.pb_core.proofs.OnceLemmas.{all-sound}
use Rattle.pb_core.proofs.OrderLemmas.{numbered}
use Rattle.pb_core.proofs.SnapshotLemmas.{and-all, and-three, any-in, in-any, shows-sound}
use Rattle.pb_core.proofs.WithLemmas.{is-stays, none-of, not-none, of-some, some-of, some-stays, some-was, with-each, with-other, with-same}

pub not-true : (b : Bool) → (b ≡ true → ⊥) → b ≡ false
not-true true never = absurd (never refl)
not-true false never = refl

from-not : (b : Bool) → not b ≡ true → b ≡ false
from-not true e = sym e
from-not false e = refl

and-both : (a b : Bool) → a ≡ true → b ≡ true → a && b ≡ true
and-both a b x y = rw (x, y) refl

-- what passes a test in a list
found : (test : ℕ → Bool) (xs : List ℕ) → list_any test xs ≡ true → (x : ℕ) × Contains xs x × (test x ≡ true)
found test [] e = absurd (cc)
found test (x ∷ xs) e = ⊎_elim
    (λ (here : test x ≡ true). (x, in_head x xs, here))
    (λ (later : list_any test xs ≡ true). let there = found test xs later in (there.0, in_tail x there.0 xs there.1, there.2))
    (or_cases (test x) (list_any test xs) e)

pub finds : (test : ℕ → Bool) (xs : List ℕ) (x : ℕ) → Contains xs x → test x ≡ true → list_any test xs ≡ true
finds test [] x h e = absurd (in_none x h)
finds test (y ∷ xs) x h e = ⊎_elim
    (λ (here : y ≡ x). or_left (test y) (list_any test xs) (ap test here ∙ e))
    (λ (later : Contains xs x). or_right (test y) (list_any test xs) (finds test xs x later e))
    (in_cases y x xs h)

range-once : (n : ℕ) → EachOnce (range_with_len 0 n)
range-once n i j below inside same = omega (arith, at i below, at j inside, same)
  where
    at : (k : ℕ) → k < length (range_with_len 0 n) → get_or (range_with_len 0 n) k 0 ≡ k
    at k less = get_or-range_with_len 0 n k 0 (omega (arith, length-range_with_len 0 n)) ∙ zero-add k

-- the first n finished tasks have been through all their events, and the others through none
pub record Follows (p : Plan) (q : Snapshot) (n : ℕ) (s : State) : Type 0 where
  pub sound : IsSound p s
  pub alone : IsAlone 0 s
  pub finished : s.finished ≡ n
  pub done : (t m : ℕ) → q.number t ≡ Some m → m < n → s.number t ≡ Some m
  pub was : (t m : ℕ) → s.number t ≡ Some m → (q.number t ≡ Some m) × (m < n)
  pub started : (t : ℕ) → IsSome (s.runner t) → IsSome (s.number t)
  pub freed : (u v : ℕ) → IsSome (s.number u) → Contains (after_of p.graph u) v → q.owed u v ≡ false → s.released u v ≡ true
  pub paid : (u v : ℕ) → s.released u v ≡ true → q.owed u v ≡ false
  pub cells : (c : ℕ) → IsSome (s.value c) → (c < p.graph.inputs) ⊎ ((t : ℕ) × Contains (cells_of p.graph t) c × IsSome (s.number t))

module _ (p : Plan) (is : IsPlan p) (q : Snapshot) (good : IsSoundSnapshot p q) where
  -- one finished task more
  module _ (n : ℕ) (s : State) (f : Follows p q n s) (t : ℕ) (t-is : q.number t ≡ Some n) where
    not-done : s.number t ≡ None
    not-done = none-of (s.number t) (λ some.
        let m = of-some (s.number t) some in
        let w = f.was t m.0 m.1 in
        let same : Some n ≡ Some m.0 = sym t-is ∙ w.0 in
        let equal : n ≡ m.0 = cc in omega (arith, equal, w.1))

    not-started : s.runner t ≡ None
    not-started = none-of (s.runner t) (λ some. not-none (s.number t) not-done (f.started t some))

    is-task : t < length p.graph.tasks
    is-task = good.tasks t (some-of (q.number t) n t-is)

    freed-before : (u : ℕ) → Contains (before_of p.graph t) u → s.released u t ≡ true
    freed-before u h =
        let a = good.after t u n h t-is in
        f.freed u t (some-of (s.number u) a.0 (f.done u a.0 a.1 a.2)) ((is.graph.linked.mirrored t u).0 h) a.3

    waits : s.count t ≡ 0
    waits = f.sound.counts.counts t ∙ none-count (λ u. not (s.released u t)) (before_of p.graph t) (λ u h. ap not (freed-before u h))

    holds : s.holder t ≡ Some 0
    holds = let there = of-some (s.holder t) (f.sound.held.ready t is-task waits) in there.1 ∙ ap (λ k. Some k) (f.alone t there.0 there.1)

    own : (c : ℕ) → Contains (p.order t) c → Contains (cells_of p.graph t) c
    own c = (is.listed t c is-task).0

    empty : (c : ℕ) → Contains (p.order t) c → s.value c ≡ None
    empty c h = none-of (s.value c) (λ some. ⊎_elim
        (λ (input : c < p.graph.inputs). let past = (is.graph.partition.past t c (own c h)).0 in omega arith)
        (λ (there : (u : ℕ) × Contains (cells_of p.graph u) c × IsSome (s.number u)).
        let this : there.0 ≡ t = is.graph.partition.one there.0 t c there.1 (own c h) in
        not-none (s.number t) not-done (subst (λ u. IsSome (s.number u)) this there.2))
        (f.cells c some))

    abbrev nexts : List ℕ
    nexts = filter (λ next. not (q.owed t next)) (after_of p.graph t)

    abbrev s1 : State
    s1 = happens p s (Start 0 t)

    abbrev s2 : State
    s2 = all_happen p s1 (write_all 0 (p.order t))

    abbrev s3 : State
    s3 = happens p s2 (Finish 0 t)

    abbrev s4 : State
    s4 = all_happen p s3 (release_all 0 t nexts)

    w : HasWritten s1 s2 (p.order t)
    w = writes-done p 0 (p.order t) s1

    r : HasReleased 0 s3 s4 t nexts
    r = releases-done p 0 t nexts s3

    run-2 : s2.runner t ≡ Some 0
    run-2 = ap (λ (g : ℕ → Option ℕ). g t) w.runner ∙ with-same s.runner t (Some 0) t refl

    pub block-enabled : AllEnabled p s (finished_events p q t)
    block-enabled = (
      (holds, not-started),
      both-enabled p (write_all 0 (p.order t)) (Finish 0 t ∷ release_all 0 t nexts) s1
          (writes-enabled p 0 t (p.order t) s1 own (is.once t is-task) (with-same s.runner t (Some 0) t refl) not-done empty) (
            (run-2, ap (λ (g : ℕ → Option ℕ). g t) w.quiet.number ∙ not-done, λ c h. w.new c ((is.listed t c is-task).1 h)),
            releases-enabled p 0 t nexts s3 (once-filter (λ next. not (q.owed t next)) (after_of p.graph t) (is.graph.linked.after_once t))
                (λ v h. (filter_in (λ next. not (q.owed t next)) (after_of p.graph t) v h).0)
                (λ v h. ap (λ (g : ℕ → ℕ → Bool). g t v) w.quiet.released ∙ not-true (s.released t v) (λ e. not-none (s.number t) not-done (f.sound.counts.releases t v e)))
                (some-of (s3.number t) s2.finished (with-same s2.number t (Some s2.finished) t refl)) run-2,
          ),
    )

    block-happens : s4 ≡ all_happen p s (finished_events p q t)
    block-happens = sym (both-happen p (write_all 0 (p.order t)) (Finish 0 t ∷ release_all 0 t nexts) s1)

    number-4 : s4.number ≡ with s.number t (Some n)
    number-4 = r.number ∙ ap (λ (g : ℕ → Option ℕ). with g t (Some s2.finished)) w.quiet.number ∙ ap (λ k. with s.number t (Some k)) (w.quiet.finished ∙ f.finished)

    runner-4 : s4.runner ≡ with s.runner t (Some 0)
    runner-4 = r.runner ∙ w.runner

    now-some : (u : ℕ) → IsSome (with s.number t (Some n) u) → IsSome (s4.number u)
    now-some u some = subst (λ (g : ℕ → Option ℕ). IsSome (g u)) (sym number-4) some

    is-some : (u : ℕ) → IsSome (s4.number u) → IsSome (with s.number t (Some n) u)
    is-some u some = subst (λ (g : ℕ → Option ℕ). IsSome (g u)) number-4 some

    t-some : IsSome (s4.number t)
    t-some = now-some t (some-of (with s.number t (Some n) t) n (with-same s.number t (Some n) t refl))

    released-3 : (u v : ℕ) → s3.released u v ≡ s.released u v
    released-3 u v = ap (λ (g : ℕ → ℕ → Bool). g u v) w.quiet.released

    follows-4 : Follows p q (n + 1) s4
    follows-4 = record {
      sound = subst (λ (x : State). IsSound p x) (sym block-happens) (all-sound p is (finished_events p q t) s f.sound block-enabled);
      alone = r.alone (λ u hand e. f.alone u hand (ap (λ (g : ℕ → Option ℕ). g u) (sym w.quiet.holder) ∙ e));
      finished = r.finished ∙ ap (λ k. k + 1) (w.quiet.finished ∙ f.finished);
      done = λ u m e less. ap (λ (g : ℕ → Option ℕ). g u) number-4 ∙ ⊎_elim
          (λ (before : m < n). is-stays s.number t n u m not-done (f.done u m e before))
          (λ (last : n ≤ m). let equal : n ≡ m = omega arith in let this : u ≡ t = good.once u t n (e ∙ ap (λ k. Some k) (sym equal)) t-is in
          with-same s.number t (Some n) u this ∙ ap (λ k. Some k) equal)
          (cases_lt m n);
      was = λ u m e. with-each s.number t (Some n) u (λ o. o ≡ Some m → (q.number u ≡ Some m) × (m < n + 1))
          (λ this same. let equal : n ≡ m = cc in (ap q.number this ∙ t-is ∙ same, omega arith))
          (λ other same. let old = f.was u m same in (old.0, omega (arith, old.1)))
          (ap (λ (g : ℕ → Option ℕ). g u) (sym number-4) ∙ e);
      started = λ u some. now-some u (⊎_elim
          (λ (this : u ≡ t). some-of (with s.number t (Some n) u) n (with-same s.number t (Some n) u this))
          (λ (old : IsSome (s.runner u)). some-stays s.number t n u (f.started u old))
          (some-was s.runner t 0 u (subst (λ (g : ℕ → Option ℕ). IsSome (g u)) runner-4 some)));
      freed = λ u v some h free. ⊎_elim
          (λ (this : u ≡ t). subst (λ x. s4.released x v ≡ true) (sym this) (r.new v (in_filter (λ next. not (q.owed t next)) (after_of p.graph t) v (subst (λ x. Contains (after_of p.graph x) v) this h) (ap not (ap (λ x. q.owed x v) (sym this) ∙ free)))))
          (λ (old : IsSome (s.number u)). r.kept u v (released-3 u v ∙ f.freed u v old h free))
          (some-was s.number t n u (is-some u some));
      paid = λ u v e. ⊎_elim
          (λ (old : s3.released u v ≡ true). f.paid u v (sym (released-3 u v) ∙ old))
          (λ (new : (u ≡ t) × Contains nexts v). ap (λ x. q.owed x v) new.0 ∙ from-not (q.owed t v) (filter_in (λ next. not (q.owed t next)) (after_of p.graph t) v new.1).1)
          (r.was u v e);
      cells = λ c some. ⊎_elim
          (λ (mine : Contains (p.order t) c). inr (t, own c mine, t-some))
          (λ (old : IsSome (s.value c)). ⊎_elim
          (λ (input : c < p.graph.inputs). inl input)
          (λ (there : (u : ℕ) × Contains (cells_of p.graph u) c × IsSome (s.number u)). inr (there.0, there.1, now-some there.0 (some-stays s.number t n there.0 there.2)))
          (f.cells c old))
          (w.was c (subst (λ (g : ℕ → Option Outcome). IsSome (g c)) r.value some));
    }

    pub block-follows : Follows p q (n + 1) (all_happen p s (finished_events p q t))
    block-follows = subst (λ (x : State). Follows p q (n + 1) x) block-happens follows-4

  abbrev pub first : State
  first = first_state p 1

  follows-first : Follows p q 0 first
  follows-first = record {
    sound = first-sound p is 1;
    alone = λ t hand. first-alone (ltb t (length p.graph.tasks) && eqb (length (before_of p.graph t)) 0) t hand;
    finished = refl;
    done = λ t m e less. absurd (omega arith);
    was = λ t m e. let wrong : None ≡ Some m = e in absurd (cc);
    started = λ t some. some;
    freed = λ u v some h free. absurd (not-none {X = ℕ} None refl some);
    paid = λ u v e. let wrong : false ≡ true = e in absurd (cc);
    cells = λ c some. ⊎_elim
        (λ (input : c < p.graph.inputs). inl input)
        (λ (past : p.graph.inputs ≤ c). absurd (not-none (first.value c) (no-input c past) some))
        (cases_lt c p.graph.inputs);
  }
    where
      first-alone : (b : Bool) (t hand : ℕ) → cond b (Some (t % 1)) None ≡ Some hand → hand ≡ 0
      first-alone false t hand e = absurd (cc)
      first-alone true t hand e = let same : t % 1 ≡ hand = cc in omega arith

      no-input : (c : ℕ) → p.graph.inputs ≤ c → first.value c ≡ None
      no-input c past = grind (arith, nat_tests)

  abbrev pub blocks : ℕ → List Event
  blocks n = flat_map (finished_events p q) (by_number p.graph q.number n)

  abbrev pub at : ℕ → ℕ
  at n = task_numbered q.number (length p.graph.tasks) n

  blocks-more : (n : ℕ) → blocks (suc n) ≡ blocks n ++ finished_events p q (at n)
  blocks-more n =
      (let next : suc n ≡ n + 1 = omega arith in ap blocks next)
      ∙ ap (λ l. flat_map (finished_events p q) l) (map-range_with_len_more (task_numbered q.number (length p.graph.tasks)) 0 n n (zero-add n))
      ∙ flat_map-append (finished_events p q) (by_number p.graph q.number n) (at n ∷ [])
      ∙ ap (λ l. blocks n ++ l) (append-nil (finished_events p q (at n)))

  at-is : (n : ℕ) → n < q.finished → q.number (at n) ≡ Some n
  at-is n below = let there = good.drawn n below in numbered q.number n (length p.graph.tasks) there.0 (good.tasks there.0 (some-of (q.number there.0) n there.1)) there.1

  pub blocks-run : (n : ℕ) → n ≤ q.finished → AllEnabled p first (blocks n) × Follows p q n (all_happen p first (blocks n))
  blocks-run zero below = (tt, follows-first)
  blocks-run (suc n) below =
      let before = blocks-run n (omega arith) in
      let s = all_happen p first (blocks n) in
      let t-is = at-is n (omega arith) in
      let enabled = both-enabled p (blocks n) (finished_events p q (at n)) first before.0 (block-enabled n s before.1 (at n) t-is) in
      let after = block-follows n s before.1 (at n) t-is in
      let next : n + 1 ≡ suc n = omega arith in (
        subst (λ (l : List Event). AllEnabled p first l) (sym (blocks-more n)) enabled,
        subst (λ k. Follows p q k (all_happen p first (blocks (suc n)))) next
            (subst (λ (l : List Event). Follows p q (n + 1) (all_happen p first l)) (sym (blocks-more n))
            (subst (λ (x : State). Follows p q (n + 1) x) (sym (both-happen p (blocks n) (finished_events p q (at n)) first)) after)),
      )

  -- the end of the finished tasks
  abbrev pub s0 : State
  s0 = all_happen p first (blocks q.finished)

  pub all : Follows p q q.finished s0
  all = (blocks-run q.finished (omega arith)).1

  pub number-0 : (t : ℕ) → s0.number t ≡ q.number t
  number-0 t = same (s0.number t) (q.number t) (λ m e. (all.was t m e).0) (λ m e. all.done t m e (good.below t m e))
    where
      same : (a b : Option ℕ) → ((m : ℕ) → a ≡ Some m → b ≡ Some m) → ((m : ℕ) → b ≡ Some m → a ≡ Some m) → a ≡ b
      same None None there back = refl
      same None (Some m) there back = back m refl
      same (Some m) b there back = sym (there m refl)

  some-0 : (t : ℕ) → IsSome (q.number t) → IsSome (s0.number t)
  some-0 t some = subst IsSome (sym (number-0 t)) some

  owed-0 : (u v : ℕ) → owes p.graph s0 u v ≡ q.owed u v
  owed-0 u v = same (owes p.graph s0 u v) (q.owed u v)
      (λ e. let three = and-three (is_some (s0.number u)) (list_any (λ n. eqb n v) (after_of p.graph u)) (not (s0.released u v)) e in
      let clash : q.owed u v ≡ false → ⊥ = λ free. let wrong : true ≡ false = sym (all.freed u v three.0 (any-in (after_of p.graph u) v three.1) free) ∙ from-not (s0.released u v) three.2 in cc in
      not-false (q.owed u v) clash)
      (λ e. let there = good.owed u v e in
      and-all (is_some (s0.number u)) (list_any (λ n. eqb n v) (after_of p.graph u)) (not (s0.released u v)) (some-0 u there.0) (in-any (after_of p.graph u) v there.1)
      (ap not (not-true (s0.released u v) (λ paid. let wrong : true ≡ false = sym e ∙ all.paid u v paid in cc))))
    where
      not-false : (b : Bool) → (b ≡ false → ⊥) → b ≡ true
      not-false true never = refl
      not-false false never = absurd (never refl)

      same : (a b : Bool) → (a ≡ true → b ≡ true) → (b ≡ true → a ≡ true) → a ≡ b
      same true b there back = sym (there refl)
      same false true there back = back refl
      same false false there back = refl

  count-0 : (t : ℕ) → t < length p.graph.tasks → s0.count t ≡ q.count t
  count-0 t below =
      (shows-sound p is s0 all.sound).counts t below
      ∙ ap (λ k. k + counted (λ u. owes p.graph s0 u t) (before_of p.graph t)) (count-same (λ u. is_none (s0.number u)) (λ u. is_none (q.number u)) (before_of p.graph t) (λ u h. ap (λ (o : Option ℕ). is_none o) (number-0 u)))
      ∙ ap (λ k. counted (λ u. is_none (q.number u)) (before_of p.graph t) + k) (count-same (λ u. owes p.graph s0 u t) (λ u. q.owed u t) (before_of p.graph t) (λ u h. owed-0 u t))
      ∙ sym (good.counts t below)

  -- an unfinished task with written cells
  pub record IsBegun (t : ℕ) : Type 0 where
    pub task : t < length p.graph.tasks
    pub open_ : q.number t ≡ None
    pub count : q.count t ≡ 0

  -- the tasks that are still to come, after the others have started and written their cells
  record Comes (ts : List ℕ) (s : State) : Type 0 where
    pub quiet : IsQuiet s0 s
    pub idle : (t : ℕ) → Contains ts t → s.runner t ≡ None
    pub empty : (t c : ℕ) → Contains ts t → Contains (cells_of p.graph t) c → s.value c ≡ None
    pub below : (c : ℕ) → IsSome (s.value c) → IsSome (q.value c)
    pub above : (c : ℕ) → IsSome (q.value c) → IsSome (s.value c) ⊎ ((t : ℕ) × Contains ts t × Contains (cells_of p.graph t) c)

  module _ (t : ℕ) (ts : List ℕ) (once : EachOnce (t ∷ ts)) (b : IsBegun t) (s : State) (f : Comes (t ∷ ts) s) where
    abbrev mine : List ℕ
    mine = filter (λ c. is_some (q.value c)) (p.order t)

    abbrev t1 : State
    t1 = happens p s (Start 0 t)

    abbrev t2 : State
    t2 = all_happen p t1 (write_all 0 mine)

    x : HasWritten t1 t2 mine
    x = writes-done p 0 mine t1

    own-mine : (c : ℕ) → Contains mine c → Contains (cells_of p.graph t) c
    own-mine c h = (is.listed t c b.task).0 (filter_in (λ d. is_some (q.value d)) (p.order t) c h).0

    begun-holds : s.holder t ≡ Some 0
    begun-holds =
        let there = of-some (s0.holder t) (all.sound.held.ready t b.task (count-0 t b.task ∙ b.count)) in
        ap (λ (g : ℕ → Option ℕ). g t) f.quiet.holder ∙ there.1 ∙ ap (λ k. Some k) (all.alone t there.0 there.1)

    begun-enabled : AllEnabled p s (begun_events p q t)
    begun-enabled = (
      (begun-holds, f.idle t (in_head t ts)),
      writes-enabled p 0 t mine t1 own-mine (once-filter (λ c. is_some (q.value c)) (p.order t) (is.once t b.task)) (with-same s.runner t (Some 0) t refl)
          (ap (λ (g : ℕ → Option ℕ). g t) f.quiet.number ∙ number-0 t ∙ b.open_) (λ c h. f.empty t c (in_head t ts) (own-mine c h)),
    )

    apart : (u c : ℕ) → Contains ts u → Contains (cells_of p.graph u) c → Contains (cells_of p.graph t) c → ⊥
    apart u c h own_u own_t = once-head t ts once (subst (Contains ts) (is.graph.partition.one u t c own_u own_t) h)

    begun-comes : Comes ts (all_happen p s (begun_events p q t))
    begun-comes = record {
      quiet = quiet-both s0 s t2 f.quiet (quiet-both s t1 t2 (record { count = refl; holder = refl; number = refl; released = refl; finished = refl; given = refl }) x.quiet);
      idle = λ u h. ap (λ (g : ℕ → Option ℕ). g u) x.runner ∙ with-other s.runner t (Some 0) u (λ e. once-head t ts once (subst (Contains ts) e h)) ∙ f.idle u (in_tail t u ts h);
      empty = λ u c h own. none-of (t2.value c) (λ some. ⊎_elim
          (λ (new : Contains mine c). apart u c h own (own-mine c new))
          (λ (old : IsSome (s.value c)). not-none (s.value c) (f.empty u c (in_tail t u ts h) own) old)
          (x.was c some));
      below = λ c some. ⊎_elim
          (λ (new : Contains mine c). (filter_in (λ d. is_some (q.value d)) (p.order t) c new).1)
          (λ (old : IsSome (s.value c)). f.below c old)
          (x.was c some);
      above = λ c some. ⊎_elim
          (λ (old : IsSome (s.value c)). inl (x.kept c old))
          (λ (there : (u : ℕ) × Contains (t ∷ ts) u × Contains (cells_of p.graph u) c). ⊎_elim
          (λ (this : t ≡ there.0). inl (x.new c (in_filter (λ d. is_some (q.value d)) (p.order t) c ((is.listed t c b.task).1 (subst (λ u. Contains (cells_of p.graph u) c) (sym this) there.2)) some)))
          (λ (later : Contains ts there.0). inr (there.0, later, there.2))
          (in_cases t there.0 ts there.1))
          (f.above c some);
    }

  begun-run : (ts : List ℕ) → EachOnce ts → ((t : ℕ) → Contains ts t → IsBegun t) → (s : State) → Comes ts s
      → AllEnabled p s (flat_map (begun_events p q) ts) × Comes [] (all_happen p s (flat_map (begun_events p q) ts))
  begun-run [] once each s f = (tt, f)
  begun-run (t ∷ ts) once each s f =
      let b = each t (in_head t ts) in
      let rest = begun-run ts (once-rest t ts once) (λ u h. each u (in_tail t u ts h)) (all_happen p s (begun_events p q t)) (begun-comes t ts once b s f) in (
        both-enabled p (begun_events p q t) (flat_map (begun_events p q) ts) s (begun-enabled t ts once b s f) rest.0,
        subst (λ (y : State). Comes [] y) (sym (both-happen p (begun_events p q t) (flat_map (begun_events p q) ts) s)) rest.1,
      )

  abbrev pub begun : List ℕ
  begun = filter (is_begun p q) (range_with_len 0 (length p.graph.tasks))

  pub begun-once : EachOnce begun
  begun-once = once-filter (is_begun p q) (range_with_len 0 (length p.graph.tasks)) (range-once (length p.graph.tasks))

  is-none : (o : Option ℕ) → is_none o ≡ true → o ≡ None
  is-none None e = refl
  is-none (Some m) e = absurd (cc)

  none-is : (o : Option ℕ) → (IsSome o → ⊥) → is_none o ≡ true
  none-is None never = refl
  none-is (Some m) never = absurd (never refl)

  pub begun-each : (t : ℕ) → Contains begun t → IsBegun t
  begun-each t h =
      let there = filter_in (is_begun p q) (range_with_len 0 (length p.graph.tasks)) t h in
      let parts = and_parts (is_none (q.number t)) (list_any (λ c. is_some (q.value c)) (p.order t)) there.1 in
      let task = range_in (length p.graph.tasks) t there.0 in
      let cell = found (λ c. is_some (q.value c)) (p.order t) parts.1 in
      let own = (is.listed t cell.0 task).0 cell.1 in
      let maker = good.begun cell.0 cell.2 (is.graph.partition.past t cell.0 own).0 in
      let this : maker.0 ≡ t = is.graph.partition.one maker.0 t cell.0 maker.1 own in
      record {
        task = task;
        open_ = is-none (q.number t) parts.0;
        count = ⊎_elim
            (λ (done : IsSome (q.number maker.0)). absurd (not-none (q.number t) (is-none (q.number t) parts.0) (subst (λ u. IsSome (q.number u)) this done)))
            (λ (none : q.count maker.0 ≡ 0). subst (λ u. q.count u ≡ 0) this none)
            maker.2;
      }

  begun-first : Comes begun s0
  begun-first = record {
    quiet = quiet-same s0;
    idle = λ t h. none-of (s0.runner t) (λ some. not-none (s0.number t) (number-0 t ∙ (begun-each t h).open_) (all.started t some));
    empty = λ t c h own. none-of (s0.value c) (λ some. ⊎_elim
        (λ (input : c < p.graph.inputs). let past = (is.graph.partition.past t c own).0 in omega arith)
        (λ (there : (u : ℕ) × Contains (cells_of p.graph u) c × IsSome (s0.number u)).
        let this : there.0 ≡ t = is.graph.partition.one there.0 t c there.1 own in
        not-none (s0.number t) (number-0 t ∙ (begun-each t h).open_) (subst (λ u. IsSome (s0.number u)) this there.2))
        (all.cells c some));
    below = λ c some. ⊎_elim
        (λ (input : c < p.graph.inputs). good.inputs c input)
        (λ (there : (u : ℕ) × Contains (cells_of p.graph u) c × IsSome (s0.number u)). good.whole there.0 c (subst IsSome (number-0 there.0) there.2) there.1)
        (all.cells c some);
    above = λ c some. ⊎_elim
        (λ (input : c < p.graph.inputs). inl (all.sound.written.inputs c input))
        (λ (past : p.graph.inputs ≤ c). let maker = good.begun c some past in go c some maker.0 maker.1 (q.number maker.0) refl)
        (cases_lt c p.graph.inputs);
  }
    where
      inside : (t c : ℕ) → Contains (cells_of p.graph t) c → t < length p.graph.tasks
      inside t c own = ⊎_elim
          (λ (below : t < length p.graph.tasks). below)
          (λ (past : length p.graph.tasks ≤ t). absurd (in_none c (subst (λ l. Contains l c) (cells-past p.graph t past) own)))
          (cases_lt t (length p.graph.tasks))

      go : (c : ℕ) → IsSome (q.value c) → (t : ℕ) → Contains (cells_of p.graph t) c → (o : Option ℕ) → q.number t ≡ o → IsSome (s0.value c) ⊎ ((u : ℕ) × Contains begun u × Contains (cells_of p.graph u) c)
      go c some t own (Some m) e = inl (all.sound.written.whole t c (some-0 t (some-of (q.number t) m e)) own)
      go c some t own None e =
          let task = inside t c own in
          let open_ : is_none (q.number t) ≡ true = ap (λ (o : Option ℕ). is_none o) e in
          let any = finds (λ d. is_some (q.value d)) (p.order t) c ((is.listed t c task).1 own) some in
          inr (t, in_filter (is_begun p q) (range_with_len 0 (length p.graph.tasks)) t (in_range (length p.graph.tasks) t task) (and-both (is_none (q.number t)) (list_any (λ d. is_some (q.value d)) (p.order t)) open_ any), own)

  -- the whole list
  pub listed-enabled : AllEnabled p first (listed_events p q)
  listed-enabled = both-enabled p (blocks q.finished) (flat_map (begun_events p q) begun) first (blocks-run q.finished (omega arith)).0 (begun-run begun begun-once begun-each s0 begun-first).0

  abbrev s9 : State
  s9 = all_happen p s0 (flat_map (begun_events p q) begun)

  end : Comes [] s9
  end = (begun-run begun begun-once begun-each s0 begun-first).1

  end-sound : IsSound p s9
  end-sound = all-sound p is (flat_map (begun_events p q) begun) s0 all.sound (begun-run begun begun-once begun-each s0 begun-first).0

  shows-end : Shows p s9 q
  shows-end = record {
    count = λ t below. ap (λ (g : ℕ → ℕ). g t) end.quiet.count ∙ count-0 t below;
    number = λ t. ap (λ (g : ℕ → Option ℕ). g t) end.quiet.number ∙ number-0 t;
    finished = end.quiet.finished ∙ all.finished;
    owed = λ u v.
        ap (λ (g : ℕ → Option ℕ). is_some (g u) && list_any (λ n. eqb n v) (after_of p.graph u) && not (s9.released u v)) end.quiet.number
        ∙ ap (λ (g : ℕ → ℕ → Bool). is_some (s0.number u) && list_any (λ n. eqb n v) (after_of p.graph u) && not (g u v)) end.quiet.released
        ∙ owed-0 u v;
    value = λ c. same (s9.value c) (q.value c) (outcome_at p.solution c) (end.below c) (back c) (end-sound.written.right c) (good.right c);
  }
    where
      back : (c : ℕ) → IsSome (q.value c) → IsSome (s9.value c)
      back c some = ⊎_elim
          (λ (there : IsSome (s9.value c)). there)
          (λ (none : (t : ℕ) × Contains [] t × Contains (cells_of p.graph t) c). absurd (in_none none.0 none.1))
          (end.above c some)

      same : (a b : Option Outcome) (o : Outcome) → (IsSome a → IsSome b) → (IsSome b → IsSome a) → ((v : Outcome) → a ≡ Some v → v ≡ o) → ((v : Outcome) → b ≡ Some v → v ≡ o) → a ≡ b
      same None None o there back left right = refl
      same None (Some v) o there back left right = let some = of-some {X = Outcome} None (back refl) in absurd (not-none {X = Outcome} None refl (back refl))
      same (Some v) None o there back left right = absurd (not-none {X = Outcome} None refl (there refl))
      same (Some v) (Some w) o there back left right = ap (λ y. Some y) (left v refl ∙ sym (right w refl))

  pub listed-shows : Shows p (all_happen p first (listed_events p q)) q
  listed-shows = subst (λ (y : State). Shows p y q) (sym (both-happen p (blocks q.finished) (flat_map (begun_events p q) begun) first)) shows-end
