-- Each event keeps a state sound.
use Rattle.std.proofs.Common.{◌≡◌, ◌∙◌, refl, sym, ap, subst, ⊎_elim, ℕ, zero, suc, ◌+◌, ◌-◌, ◌<◌, ◌≤◌, Bool, true, false, not, length, Option, Some, IsSome, arith}
use Rattle.std.specs.List.{Contains}
use Rattle.std.proofs.lemmas.Bool.{cases_lt}
use Rattle.pb_base.proofs.ListLemmas.{in_none}
use Rattle.pb_values.specs.declared.outcome.Outcome.{Outcome}
use Rattle.pb_taskgraph.specs.Graphs.{before_of, cells_of}
use Rattle.pb_taskgraph.specs.Plans.{IsPlan, Plan, outcome_at}
use Rattle.pb_taskgraph.proofs.GraphLemmas.{before-past}
use Rattle.pb_core.specs.declared.event.Event.{Event}
use Rattle.pb_core.specs.declared.event.Event.TheVariants.{Finish, Give, Release, Start, Write}
use Rattle.pb_core.specs.States.{Enabled, State, counted, happens, holder_at, with}
use Rattle.pb_core.specs.Sound.{IsSound}
use Rattle.pb_core.proofs.CountLemmas.{count-more, count-none, count-same}
use Rattle.pb_core.proofs.WithLemmas.{is-stays, link-column, link-new, link-row, of-some, some-of, some-stays, some-was, with-each, with-other, with-same}

module _ (p : Plan) (is : IsPlan p) (s : State) (sound : IsSound p s) where
  -- a started task waits for no release, so its predecessors are finished
  pub started-count : (t : ℕ) → IsSome (s.runner t) → s.count t ≡ 0
  started-count t some = (sound.held.tasks t (sound.held.started t some)).1

  pub released-all : (t u : ℕ) → s.count t ≡ 0 → Contains (before_of p.graph t) u → s.released u t ≡ true
  released-all t u none h = told (s.released u t) (count-none (λ v. not (s.released v t)) (before_of p.graph t) u (sym (sound.counts.counts t) ∙ none) h)
    where
      told : (b : Bool) → not b ≡ false → b ≡ true
      told true e = refl
      told false e = sym e

  pub finished-before : (t u : ℕ) → s.count t ≡ 0 → Contains (before_of p.graph t) u → IsSome (s.number u)
  finished-before t u none h = sound.counts.releases u t (released-all t u none h)

  start-keeps : (hand task : ℕ) → s.holder task ≡ Some hand → IsSound p (happens p s (Start hand task))
  start-keeps hand task holds = record {
    counts = sound.counts;
    held = record {
      tasks = sound.held.tasks;
      ready = sound.held.ready;
      started = λ t some. ⊎_elim
          (λ (same : t ≡ task). subst (λ u. IsSome (s.holder u)) (sym same) (some-of (s.holder task) hand holds))
          (λ (was : IsSome (s.runner t)). sound.held.started t was)
          (some-was s.runner task hand t some);
      ended = λ t some. some-stays s.runner task hand t (sound.held.ended t some);
    };
    written = record {
      inputs = sound.written.inputs;
      whole = sound.written.whole;
      begun = λ t c some own. some-stays s.runner task hand t (sound.written.begun t c some own);
      cells = sound.written.cells;
      right = sound.written.right;
    };
    numbers = sound.numbers;
  }

  write-keeps : (hand cell t : ℕ) → Contains (cells_of p.graph t) cell → s.runner t ≡ Some hand → IsSound p (happens p s (Write hand cell))
  write-keeps hand cell t own runs = record {
    counts = sound.counts;
    held = sound.held;
    written = record {
      inputs = λ c input. some-stays s.value cell v c (sound.written.inputs c input);
      whole = λ u c some h. some-stays s.value cell v c (sound.written.whole u c some h);
      begun = λ u c some h. ⊎_elim
          (λ (same : c ≡ cell). let this : t ≡ u = is.graph.partition.one t u cell own (subst (Contains (cells_of p.graph u)) same h) in subst (λ w. IsSome (s.runner w)) this (some-of (s.runner t) hand runs))
          (λ (was : IsSome (s.value c)). sound.written.begun u c was h)
          (some-was s.value cell v c some);
      cells = λ c some. ⊎_elim
          (λ (same : c ≡ cell). subst (λ d. d < p.graph.cells) (sym same) (is.graph.partition.past t cell own).1)
          (λ (was : IsSome (s.value c)). sound.written.cells c was)
          (some-was s.value cell v c some);
      right = λ c w. with-each s.value cell (Some v) c (λ o. o ≡ Some w → w ≡ outcome_at p.solution c)
          (λ same e. let told : v ≡ w = cc in sym told ∙ ap (outcome_at p.solution) (sym same))
          (λ other e. sound.written.right c w e);
    };
    numbers = sound.numbers;
  }
    where
      v : Outcome
      v = outcome_at p.solution cell

  finish-keeps : (hand task : ℕ) → Enabled p s (Finish hand task) → IsSound p (happens p s (Finish hand task))
  finish-keeps hand task (runs, open_, all) = record {
    counts = record {
      counts = sound.counts.counts;
      releases = λ u t done. some-stays s.number task n u (sound.counts.releases u t done);
    };
    held = record {
      tasks = sound.held.tasks;
      ready = sound.held.ready;
      started = sound.held.started;
      ended = λ t some. ⊎_elim
          (λ (same : t ≡ task). subst (λ u. IsSome (s.runner u)) (sym same) run)
          (λ (was : IsSome (s.number t)). sound.held.ended t was)
          (some-was s.number task n t some);
    };
    written = record {
      inputs = sound.written.inputs;
      whole = λ t c some own. ⊎_elim
          (λ (same : t ≡ task). all c (subst (λ u. Contains (cells_of p.graph u) c) same own))
          (λ (was : IsSome (s.number t)). sound.written.whole t c was own)
          (some-was s.number task n t some);
      begun = sound.written.begun;
      cells = sound.written.cells;
      right = sound.written.right;
    };
    numbers = record {
      below = λ t m. with-each s.number task (Some n) t (λ o. o ≡ Some m → m < n + 1)
          (λ same e. let told : n ≡ m = cc in omega arith)
          (λ other e. let less = sound.numbers.below t m e in omega arith);
      drawn = λ m less. ⊎_elim
          (λ (before : m < n). let there = sound.numbers.drawn m before in (there.0, stays there.0 m there.1))
          (λ (last : n ≤ m). let same : n ≡ m = omega arith in (task, with-same s.number task (Some n) task refl ∙ ap (λ j. Some j) same))
          (cases_lt m n);
      once = λ t u m. with-each s.number task (Some n) t (λ o. o ≡ Some m → with s.number task (Some n) u ≡ Some m → t ≡ u)
          (λ same e. with-each s.number task (Some n) u (λ o. o ≡ Some m → t ≡ u)
          (λ too f. same ∙ sym too)
          (λ other f. let told : n ≡ m = cc in let less = sound.numbers.below u m f in absurd (omega arith)))
          (λ apart e. with-each s.number task (Some n) u (λ o. o ≡ Some m → t ≡ u)
          (λ same f. let told : n ≡ m = cc in let less = sound.numbers.below t m e in absurd (omega arith))
          (λ other f. sound.numbers.once t u m e f));
      after = λ t u m h. with-each s.number task (Some n) t (λ o. o ≡ Some m → (k : ℕ) × (with s.number task (Some n) u ≡ Some k) × (k < m))
          (λ same e.
          let told : n ≡ m = cc in
          let there = of-some (s.number u) (finished-before task u (started-count task run) (subst (λ w. Contains (before_of p.graph w) u) same h)) in
          let less = sound.numbers.below u there.0 there.1 in
          (there.0, stays u there.0 there.1, omega arith))
          (λ other e. let there = sound.numbers.after t u m h e in (there.0, stays u there.0 there.1, there.2));
    };
  }
    where
      n : ℕ
      n = s.finished

      run : IsSome (s.runner task)
      run = some-of (s.runner task) hand runs

      stays : (t m : ℕ) → s.number t ≡ Some m → with s.number task (Some n) t ≡ Some m
      stays t m e = is-stays s.number task n t m open_ e

  release-keeps : (hand task next : ℕ) → Enabled p s (Release hand task next) → IsSound p (happens p s (Release hand task next))
  release-keeps hand task next (done, runs, after, open_) = record {
    counts = record {
      counts = λ t. with-each s.count next (s.count next - 1) t (λ n. n ≡ counted (λ u. not (now u t)) (before_of p.graph t))
          (λ same. subst (λ w. s.count next - 1 ≡ counted (λ u. not (now u w)) (before_of p.graph w)) (sym same) (omega (arith, one-less, sound.counts.counts next)))
          (λ other. sound.counts.counts t ∙ count-same (λ u. not (s.released u t)) (λ u. not (now u t)) (before_of p.graph t) (λ u h. ap not (sym (link-column s.released task next u t other))));
      releases = λ u t. with-each s.released task (with (s.released task) next true) u (λ row. row t ≡ true → IsSome (s.number u))
          (λ same e. subst (λ w. IsSome (s.number w)) (sym same) done)
          (λ other e. sound.counts.releases u t e);
    };
    held = record {
      tasks = λ t. with-each s.holder next held t (λ o. IsSome o → (t < length p.graph.tasks) × (with s.count next (s.count next - 1) t ≡ 0))
          (λ same some. let zero_left = left (s.count next - 1) refl some in
          (subst (λ w. w < length p.graph.tasks) (sym same) task-next, with-same s.count next (s.count next - 1) t same ∙ zero_left))
          (λ other some. let was = sound.held.tasks t some in (was.0, with-other s.count next (s.count next - 1) t other ∙ was.1));
      ready = λ t below. with-each s.count next (s.count next - 1) t (λ n. n ≡ 0 → IsSome (with s.holder next held t))
          (λ same e. subst IsSome (sym (with-same s.holder next held t same)) (subst (λ n. IsSome (holder_at n hand (s.holder next))) (sym e) refl))
          (λ other e. subst IsSome (sym (with-other s.holder next held t other)) (sound.held.ready t below e));
      started = λ t some. with-each s.holder next held t IsSome
          (λ same. stays-held (s.count next - 1) (sound.held.started next (subst (λ w. IsSome (s.runner w)) same some)))
          (λ other. sound.held.started t some);
      ended = sound.held.ended;
    };
    written = sound.written;
    numbers = sound.numbers;
  }
    where
      now : ℕ → ℕ → Bool
      now = with s.released task (with (s.released task) next true)

      held : Option ℕ
      held = holder_at (s.count next - 1) hand (s.holder next)

      before : Contains (before_of p.graph next) task
      before = (is.graph.linked.mirrored next task).1 after

      one-less : counted (λ u. not (s.released u next)) (before_of p.graph next) ≡ counted (λ u. not (now u next)) (before_of p.graph next) + 1
      one-less = count-more (λ u. not (now u next)) (λ u. not (s.released u next)) task (before_of p.graph next) (is.graph.linked.before_once next) before (ap not (link-new s.released task next)) (ap not open_) (λ u other. ap not (link-row s.released task next u next other))

      task-next : next < length p.graph.tasks
      task-next = ⊎_elim
          (λ (inside : next < length p.graph.tasks). inside)
          (λ (past : length p.graph.tasks ≤ next). absurd (in_none task (subst (λ l. Contains l task) (before-past p.graph next past) before)))
          (cases_lt next (length p.graph.tasks))

      left : (n : ℕ) → s.count next - 1 ≡ n → IsSome (holder_at n hand (s.holder next)) → n ≡ 0
      left zero e some = refl
      left (suc n) e some = let was = (sound.held.tasks next some).1 in absurd (omega (arith, one-less, sound.counts.counts next))

      stays-held : (n : ℕ) → IsSome (s.holder next) → IsSome (holder_at n hand (s.holder next))
      stays-held zero some = refl
      stays-held (suc n) some = some

  give-keeps : (giver taker task : ℕ) → s.holder task ≡ Some giver → IsSound p (happens p s (Give giver taker task))
  give-keeps giver taker task holds = record {
    counts = sound.counts;
    held = record {
      tasks = λ t some. ⊎_elim
          (λ (same : t ≡ task). sound.held.tasks t (subst (λ u. IsSome (s.holder u)) (sym same) (some-of (s.holder task) giver holds)))
          (λ (was : IsSome (s.holder t)). sound.held.tasks t was)
          (some-was s.holder task taker t some);
      ready = λ t below none. some-stays s.holder task taker t (sound.held.ready t below none);
      started = λ t some. some-stays s.holder task taker t (sound.held.started t some);
      ended = sound.held.ended;
    };
    written = sound.written;
    numbers = sound.numbers;
  }

  pub keeps : (e : Event) → Enabled p s e → IsSound p (happens p s e)
  keeps (Start hand task) enabled = start-keeps hand task enabled.0
  keeps (Write hand cell) enabled = write-keeps hand cell enabled.0 enabled.1 enabled.2
  keeps (Finish hand task) enabled = finish-keeps hand task enabled
  keeps (Release hand task next) enabled = release-keeps hand task next enabled
  keeps (Give giver taker task) enabled = give-keeps giver taker task enabled.0
