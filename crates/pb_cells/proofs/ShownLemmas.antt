-- Words and views that have a story show a sound snapshot, and each turn is in one view.
use Rattle.std.proofs.Common.{◌↔◌, take, ◌≡◌, ◌∙◌, refl, sym, ap, subst, inl, inr, ◌⊎◌, ⊎_elim, ℕ, zero, suc, ◌<◌, ◌≤◌, eqb, Bool, true, false, not, List, [], ◌∷◌, length, Option, Some, None, IsSome, arith}
use Rattle.std.specs.Prelude.{filter, is_some}
use Rattle.std.proofs.Math.Bool.{cond}
use Rattle.std.specs.List.{Contains, list_any}
use Rattle.std.proofs.lemmas.Bool.{cases_lt}
use mathlib.Core.Option.{some}
use lib.ListN.{get_elem?}
use Rattle.pb_values.specs.declared.outcome.Outcome.{Outcome}
use Rattle.pb_base.proofs.ListLemmas.{in_cases, in_head, in_none, in_tail}
use Rattle.pb_core.specs.Listed.{WritesInOrder}
use Rattle.pb_core.proofs.CountLemmas.{once-head, once-rest}
use Rattle.pb_taskgraph.specs.Graphs.{EachOnce, after_of, before_of, cells_of}
use Rattle.pb_taskgraph.specs.Plans.{IsPlan, Plan, outcome_at}
use Rattle.pb_taskgraph.proofs.GraphLemmas.{before-past}
use Rattle.pb_core.specs.Snapshots.{Snapshot, owes, snapshot_of}
use Rattle.pb_core.proofs.KeepLemmas.{started-count}
use Rattle.pb_core.proofs.ListedLemmas.{not-true}
use Rattle.pb_core.proofs.SnapshotLemmas.{and-all, and-three, any-in, in-any}
use Rattle.pb_core.proofs.WithLemmas.{none-of, not-none, of-some, some-of}
use Rattle.pb_cells.specs.declared.view.TaskView.{TaskView}
use Rattle.pb_cells.specs.declared.view.View.{View}
use Rattle.pb_cells.specs.Banks.{Bank}
use Rattle.pb_cells.specs.Shown.{AreFiled, HasTurn, IsOpened, IsTurn, OnTask, OneSeat, SaysFiled, SaysFinished, SaysOwed, SaysStored, SeatWith, ShowsIt, SomeSeat}
use Rattle.pb_cells.specs.Steps.{IsNext}
use Rattle.pb_cells.specs.Stories.{FitsJob, FitsTask, HasOpened, IsStory, Keeps, Runs, Story, Tells, TellsCell, is_listed, next_cell}
use Rattle.pb_cells.specs.Words.{word_of}
use Rattle.pb_cells.proofs.FinishLemmas.{filed-all, filed-number}
use Rattle.pb_cells.proofs.SeatLemmas.{in-listed, keeps-same, listed-in, none-some, some-one}
use Rattle.pb_cells.proofs.TaskLemmas.{next-cell-below, next-empty, written-word}

pub seat-there : {A : Type 0} (xs : List A) (i : ℕ) → i < length xs → (x : A) × (get_elem? xs i ≡ some x)
seat-there [] i below = absurd (omega arith)
seat-there (x ∷ xs) zero below = (x, refl)
seat-there (x ∷ xs) (suc i) below = seat-there xs i (omega arith)

pub option-cases : {X : Type 0} (o : Option X) → (o ≡ None) ⊎ ((x : X) × (o ≡ Some x))
option-cases None = inl refl
option-cases (Some x) = inr (x, refl)

module _ (p : Plan) (is : IsPlan p) (b : Bank) (views : List View) (y : Story) (ok : IsStory p b views y) where
  abbrev q : Snapshot
  q = snapshot_of p.graph y.core

  -- the seat that runs a task
  pub runs-task : (t id : ℕ) (v : View) → Runs y.core.runner y.taker t id → FitsJob p b y id v.job → (F : TaskView → Type 0) → ((j : TaskView) → FitsTask p b y id j → j.task ≡ t → F j) → OnTask F v.job
  runs-task t id v runs fits F on = go v.job fits
    where
      go : (o : Option TaskView) → FitsJob p b y id o → OnTask F o
      go None f = f t runs
      go (Some j) f = on j f (sym (f.only t runs))

  on-task : (id : ℕ) (o : Option TaskView) (F : TaskView → Type 0) (X : Type 0) → FitsJob p b y id o → ((j : TaskView) → FitsTask p b y id j → F j → X) → OnTask F o → X
  on-task id None F X fits use_ h = absurd h
  on-task id (Some j) F X fits use_ h = use_ j fits h

  begun-seat : (t : ℕ) → IsSome (y.core.runner t) → (id : ℕ) × (v : View) × (get_elem? views id ≡ some v) × (y.core.runner t ≡ Some id)
  begun-seat t there =
      let runner = of-some (y.core.runner t) there in
      let seat = seat-there views runner.0 (ok.seats.runners t runner.0 runner.1) in
      (runner.0, seat.0, seat.1, runner.1)

  -- ---- finished tasks
  tells-number : (t n : ℕ) → y.core.number t ≡ Some n → SomeSeat views (SaysFinished t n)
  tells-number t n e = ⊎_elim
      (λ (none_yet : y.taker t ≡ None).
      let seat = begun-seat t (ok.tells.sound.held.ended t (some-of (y.core.number t) n e)) in
      (seat.0, (seat.1, seat.2, inl (runs-task t seat.0 seat.1 (seat.3, none_yet) (ok.fits seat.0 seat.1 seat.2).job (λ j. (j.task ≡ t) × (j.number ≡ Some n)) (λ j f same. (same, sym f.number ∙ (ap y.core.number same ∙ e)))))))
      (λ (taken : (id : ℕ) × (y.taker t ≡ Some id)).
      let seat = seat-there views taken.0 (ok.seats.takers t taken.0 taken.1) in
      (taken.0, (seat.0, seat.1, inr (((ok.fits taken.0 seat.0 seat.1).ran.each t n).1 (taken.1, e)))))
      (option-cases (y.taker t))

  number-told : (t n : ℕ) → SomeSeat views (SaysFinished t n) → y.core.number t ≡ Some n
  number-told t n (id, (v, at, inl on)) = on-task id v.job (λ j. (j.task ≡ t) × (j.number ≡ Some n)) (y.core.number t ≡ Some n) (ok.fits id v at).job (λ j f h. ap y.core.number (sym h.0) ∙ (f.number ∙ h.1)) on
  number-told t n (id, (v, at, inr ran)) = (((ok.fits id v at).ran.each t n).0 ran).1

  -- ---- stored and filed numbers
  pub number-stored : (t n : ℕ) → SomeSeat views (SaysStored t n) → b.number t ≡ n
  number-stored t n (id, (v, at, inl on)) = on-task id v.job (λ j. (j.task ≡ t) × (j.number ≡ Some n) × (j.kept ≡ true)) (b.number t ≡ n) (ok.fits id v at).job
      (λ j f h. ap b.number (sym h.0) ∙ some-one (y.core.number j.task) (b.number j.task) n (ok.tells.numbers.stored j.task (f.kept ∙ h.2)) (f.number ∙ h.1))
      on
  number-stored t n (id, (v, at, inr ran)) =
      let told = ((ok.fits id v at).ran.each t n).0 ran in
      some-one (y.core.number t) (b.number t) n (filed-number p b y ok.tells t (ok.tells.taken t id told.0).2) told.1

  filed-told : (t : ℕ) → Contains y.filed t → SomeSeat views (SaysFiled t)
  filed-told t h = ⊎_elim
      (λ (none_yet : y.taker t ≡ None).
      let seat = begun-seat t (ok.tells.sound.held.ended t (some-of (y.core.number t) (b.number t) (filed-number p b y ok.tells t h))) in (
        seat.0,
        (
          seat.1,
          seat.2,
          inl (runs-task t seat.0 seat.1 (seat.3, none_yet) (ok.fits seat.0 seat.1 seat.2).job (λ j. (j.task ≡ t) × (j.filed ≡ true))
              (λ j f same. (same, sym f.filed ∙ (ap (is_listed y.filed) same ∙ in-listed y.filed t h)))),
        ),
      ))
      (λ (taken : (id : ℕ) × (y.taker t ≡ Some id)).
      let seat = seat-there views taken.0 (ok.seats.takers t taken.0 taken.1) in
      (taken.0, (seat.0, seat.1, inr (b.number t, ((ok.fits taken.0 seat.0 seat.1).ran.each t (b.number t)).1 (taken.1, filed-number p b y ok.tells t h)))))
      (option-cases (y.taker t))

  told-filed : (t : ℕ) → SomeSeat views (SaysFiled t) → Contains y.filed t
  told-filed t (id, (v, at, inl on)) = on-task id v.job (λ j. (j.task ≡ t) × (j.filed ≡ true)) (Contains y.filed t) (ok.fits id v at).job
      (λ j f h. subst (Contains y.filed) h.0 (listed-in y.filed j.task (f.filed ∙ h.1)))
      on
  told-filed t (id, (v, at, inr (n, ran))) = (ok.tells.taken t id (((ok.fits id v at).ran.each t n).0 ran).0).2

  pub are-filed : AreFiled views y.filed
  are-filed = record { each = λ t. (filed-told t, told-filed t); once = ok.tells.numbers.once }

  -- a filed task is finished, and its number stored
  pub filed-stored : (t : ℕ) → SomeSeat views (SaysFiled t) → SomeSeat views (SaysStored t (b.number t))
  filed-stored t (id, (v, at, inl on)) = (id, (v, at, inl (go v.job (ok.fits id v at).job on)))
    where
      go : (o : Option TaskView) → FitsJob p b y id o → OnTask (λ j. (j.task ≡ t) × (j.filed ≡ true)) o → OnTask (λ j. (j.task ≡ t) × (j.number ≡ Some (b.number t)) × (j.kept ≡ true)) o
      go None f h = h
      go (Some j) f h =
          let there = listed-in y.filed j.task (f.filed ∙ h.1) in
          (h.0, sym f.number ∙ (filed-number p b y ok.tells j.task there ∙ ap (λ k. Some (b.number k)) h.0), sym f.kept ∙ ok.tells.numbers.kept j.task there)
  filed-stored t (id, (v, at, inr (n, ran))) = (id, (v, at, inr (subst (λ m. Contains v.ran (t, m)) (sym (number-stored t n (id, (v, at, inr ran)))) ran)))

  pub all-finished : b.filed ≡ length p.graph.tasks → (t : ℕ) → t < length p.graph.tasks → SomeSeat views (SaysFinished t (b.number t))
  all-finished all t below = tells-number t (b.number t) (filed-number p b y ok.tells t (filed-all p b y ok.tells all t below))

  -- ---- owed releases
  tells-owed : (u t : ℕ) → owes p.graph y.core u t ≡ true → SomeSeat views (SaysOwed p u t)
  tells-owed u t e =
      let three = and-three (is_some (y.core.number u)) (list_any (λ n. eqb n t) (after_of p.graph u)) (not (y.core.released u t)) e in
      let after = any-in (after_of p.graph u) t three.1 in
      let open_ : y.core.released u t ≡ false = from-not (y.core.released u t) three.2 in
      let none_yet : y.taker u ≡ None = none-of (y.taker u) (λ there. let taker = of-some (y.taker u) there in let wrong : false ≡ true = sym open_ ∙ (ok.tells.taken u taker.0 taker.1).1 t after in cc) in
      let seat = begun-seat u (ok.tells.sound.held.ended u three.0) in (
        seat.0,
        (
          seat.1,
          seat.2,
          runs-task u seat.0 seat.1 (seat.3, none_yet) (ok.fits seat.0 seat.1 seat.2).job (λ j. (j.task ≡ u) × IsSome j.number × Contains (after_of p.graph u) t × (Contains j.released t → ⊥))
              (λ j f same. (
                same,
                subst IsSome (ap y.core.number (sym same) ∙ f.number) three.0,
                after,
                λ h. let wrong : false ≡ true = sym open_ ∙ (ap (λ k. y.core.released k t) (sym same) ∙ (f.released t ∙ in-listed j.released t h)) in cc,
              )),
        ),
      )
    where
      from-not : (x : Bool) → not x ≡ true → x ≡ false
      from-not true h = sym h
      from-not false h = refl

  owed-told : (u t : ℕ) → SomeSeat views (SaysOwed p u t) → owes p.graph y.core u t ≡ true
  owed-told u t (id, (v, at, on)) = on-task id v.job (λ j. (j.task ≡ u) × IsSome j.number × Contains (after_of p.graph u) t × (Contains j.released t → ⊥)) (owes p.graph y.core u t ≡ true) (ok.fits id v at).job
      (λ j f h. and-all (is_some (y.core.number u)) (list_any (λ n. eqb n t) (after_of p.graph u)) (not (y.core.released u t))
      (subst IsSome (sym (ap y.core.number (sym h.0) ∙ f.number)) h.1)
      (in-any (after_of p.graph u) t h.2)
      (ap not (ap (λ k. y.core.released k t) (sym h.0) ∙ (f.released t ∙ not-true (is_listed j.released t) (λ e. h.3 (listed-in j.released t e))))))
      on

  owed-runner : (u t id : ℕ) → SeatWith views (SaysOwed p u t) id → y.core.runner u ≡ Some id
  owed-runner u t id (v, at, on) = on-task id v.job (λ j. (j.task ≡ u) × IsSome j.number × Contains (after_of p.graph u) t × (Contains j.released t → ⊥)) (y.core.runner u ≡ Some id) (ok.fits id v at).job
      (λ j f h. ap y.core.runner (sym h.0) ∙ f.runs.0)
      on

  pub story-shows : ShowsIt p b views q
  story-shows = record {
    count = ok.tells.counts;
    finish = ok.tells.finish;
    cells = ok.tells.cells;
    numbers = λ t n. (tells-number t n, number-told t n);
    owed = λ u t. (tells-owed u t, owed-told u t);
    owed_once = λ u t id other mine theirs. some-one (y.core.runner u) other id (owed-runner u t other theirs) (owed-runner u t id mine);
  }

  -- ---- turns
  turn-holder : (t id : ℕ) → SeatWith views (HasTurn t) id → (y.core.holder t ≡ Some id) × (y.core.runner t ≡ None) ⊎ (y.core.runner t ≡ Some id) × (y.core.number t ≡ None)
  turn-holder t id (v, at, inl waits) = inl (((ok.fits id v at).turns.each t).0 waits)
  turn-holder t id (v, at, inr on) = inr (on-task id v.job (λ j. (j.task ≡ t) × (j.number ≡ None)) ((y.core.runner t ≡ Some id) × (y.core.number t ≡ None)) (ok.fits id v at).job
      (λ j f h. (ap y.core.runner (sym h.0) ∙ f.runs.0, ap y.core.number (sym h.0) ∙ (f.number ∙ h.1))) on)

  pub turn-is : (t id : ℕ) → SeatWith views (HasTurn t) id → IsTurn p b views t
  turn-is t id seat = ⊎_elim
      (λ (waits : (y.core.holder t ≡ Some id) × (y.core.runner t ≡ None)). made (some-of (y.core.holder t) id waits.0) (none-of (y.core.number t) (λ there. not-none (y.core.runner t) waits.1 (ok.tells.sound.held.ended t there))))
      (λ (runs : (y.core.runner t ≡ Some id) × (y.core.number t ≡ None)). made (ok.tells.sound.held.started t (some-of (y.core.runner t) id runs.0)) runs.1)
      (turn-holder t id seat)
    where
      made : IsSome (y.core.holder t) → y.core.number t ≡ None → IsTurn p b views t
      made held unfinished =
          let there = ok.tells.sound.held.tasks t held in
          record { task = there.0; count = ok.tells.counts t there.0 ∙ there.1; unfinished = λ n says. none-some (y.core.number t) n unfinished (number-told t n says) }

  turn-one : (t id other : ℕ) → SeatWith views (HasTurn t) id → SeatWith views (HasTurn t) other → other ≡ id
  turn-one t id other mine theirs = go (turn-holder t id mine) (turn-holder t other theirs)
    where
      go : (y.core.holder t ≡ Some id) × (y.core.runner t ≡ None) ⊎ (y.core.runner t ≡ Some id) × (y.core.number t ≡ None) → (y.core.holder t ≡ Some other) × (y.core.runner t ≡ None) ⊎ (y.core.runner t ≡ Some other) × (y.core.number t ≡ None) → other ≡ id
      go (inl m) (inl h) = some-one (y.core.holder t) other id h.0 m.0
      go (inl m) (inr h) = absurd (none-some (y.core.runner t) other m.1 h.0)
      go (inr m) (inl h) = absurd (none-some (y.core.runner t) id h.1 m.0)
      go (inr m) (inr h) = some-one (y.core.runner t) other id h.0 m.0

  pub turn-there : (t : ℕ) → t < length p.graph.tasks → b.count t ≡ 0 → ((n : ℕ) → SomeSeat views (SaysFinished t n) → ⊥) → OneSeat views (HasTurn t)
  turn-there t below waits never = ⊎_elim
      (λ (unbegun : y.core.runner t ≡ None).
      let holder = of-some (y.core.holder t) (ok.tells.sound.held.ready t below (sym (ok.tells.counts t below) ∙ waits)) in
      let seat = seat-there views holder.0 (ok.seats.holders t holder.0 holder.1) in
      one holder.0 (seat.0, seat.1, inl (((ok.fits holder.0 seat.0 seat.1).turns.each t).1 (holder.1, unbegun))))
      (λ (begun : (id : ℕ) × (y.core.runner t ≡ Some id)).
      let seat = seat-there views begun.0 (ok.seats.runners t begun.0 begun.1) in
      one begun.0 (seat.0, seat.1, inr (runs-task t begun.0 seat.0 (begun.1, untaken) (ok.fits begun.0 seat.0 seat.1).job (λ j. (j.task ≡ t) × (j.number ≡ None)) (λ j f same. (same, sym f.number ∙ (ap y.core.number same ∙ unfinished))))))
      (option-cases (y.core.runner t))
    where
      unfinished : y.core.number t ≡ None
      unfinished = none-of (y.core.number t) (λ there. let number = of-some (y.core.number t) there in never number.0 (tells-number t number.0 number.1))

      untaken : y.taker t ≡ None
      untaken = none-of (y.taker t) (λ there. let taker = of-some (y.taker t) there in not-none (y.core.number t) unfinished (ok.tells.taken t taker.0 taker.1).0)

      one : (id : ℕ) → SeatWith views (HasTurn t) id → OneSeat views (HasTurn t)
      one id seat = (id, seat, λ other theirs. turn-one t id other seat theirs)

  -- ---- opened tasks
  pub opened-one : (t id other : ℕ) → HasOpened y t id → HasOpened y t other → other ≡ id
  opened-one t id other mine theirs = keeps-same y.core.runner y.taker theirs.0 id other (subst (λ u. Keeps y.core.runner y.taker u id) (some-one (y.opener t) mine.0 theirs.0 mine.1 theirs.1) mine.2) theirs.2

  pub opened-is : (t id : ℕ) → SeatWith views (λ v. Contains v.opened t) id → IsOpened p b views id t
  opened-is t id (v, at, h) =
      let opener = ((ok.fits id v at).opened.each t).0 h in
      let told = ok.tells.opened t opener.0 opener.1 in
      let some_before : 0 < length (before_of p.graph t) = let there = told.1.1 in omega arith in
      record {
        count = ok.tells.counts t (task told.0 some_before) ∙ told.0;
        before = some_before;
        one = λ other seat. opened-one t id other opener (((ok.fits other seat.0 seat.1).opened.each t).0 seat.2);
      }
    where
      task : y.core.count t ≡ 0 → 0 < length (before_of p.graph t) → t < length p.graph.tasks
      task none_left some_before = ⊎_elim
          (λ (inside : t < length p.graph.tasks). inside)
          (λ (past : length p.graph.tasks ≤ t). absurd (let empty = ap (λ (l : List ℕ). length l) (before-past p.graph t past) in omega arith))
          (cases_lt t (length p.graph.tasks))

  -- ---- cells that aren't written
  empty : (c : ℕ) → c < p.graph.cells → y.core.value c ≡ None → b.mark c ≡ 0
  empty c below none = subst (λ o. TellsCell o (b.mark c) (b.value c)) none (ok.tells.cells c below)

  -- a cell with a mark has the solution's value
  pub marked-value : (c : ℕ) → c < p.graph.cells → 0 < b.mark c → b.value c ≡ word_of (outcome_at p.solution c)
  marked-value c below marked = ⊎_elim
      (λ (none : y.core.value c ≡ None). absurd (omega (arith, empty c below none)))
      (λ (there : (v : Outcome) × (y.core.value c ≡ Some v)). (written-word p is b y ok.tells c (some-of (y.core.value c) there.0 there.1)).1)
      (option-cases (y.core.value c))

  pub next-blank : (c id : ℕ) → SeatWith views (λ v. IsNext p v.job c) id → b.mark c ≡ 0
  next-blank c id (v, at, next) = go v.job (ok.fits id v at).job next
    where
      go : (o : Option TaskView) → FitsJob p b y id o → IsNext p o c → b.mark c ≡ 0
      go None fits h = absurd h
      go (Some j) fits h = subst (λ d. b.mark d ≡ 0) (sym h.2) (empty (next_cell p j) (next-cell-below p is b y ok.tells id j fits h.1) (next-empty p is b y ok.tells id j fits h.1))

  pub next-stored : (c id : ℕ) → SeatWith views (λ v. IsNext p v.job c × OnTask (λ j. j.stored ≡ true) v.job) id → b.value c ≡ word_of (outcome_at p.solution c)
  next-stored c id (v, at, next) = go v.job (ok.fits id v at).job next
    where
      go : (o : Option TaskView) → FitsJob p b y id o → IsNext p o c × OnTask (λ j. j.stored ≡ true) o → b.value c ≡ word_of (outcome_at p.solution c)
      go None fits h = absurd h.0
      go (Some j) fits h = subst (λ d. b.value d ≡ word_of (outcome_at p.solution d)) (sym h.0.2) (fits.stored h.1).1

  pub idle-blank : (t c : ℕ) → t < length p.graph.tasks → Contains (cells_of p.graph t) c → (SomeSeat views (HasTurn t) → ⊥) → ((n : ℕ) → SomeSeat views (SaysFinished t n) → ⊥) → b.mark c ≡ 0
  idle-blank t c below own idle never = empty c (is.graph.partition.past t c own).1 (none-of (y.core.value c) (λ there.
      let begun = ok.tells.sound.written.begun t c there own in
      let one = turn-there t below (ok.tells.counts t below ∙ started-count p is y.core ok.tells.sound t begun) never in
      idle (one.0, one.1)))

-- ---- the written cells are the first ones
none-pass : (test : ℕ → Bool) (xs : List ℕ) → ((c : ℕ) → Contains xs c → test c ≡ true → ⊥) → filter test xs ≡ []
none-pass test [] never = refl
none-pass test (x ∷ xs) never =
    let here : test x ≡ false = not-true (test x) (never x (in_head x xs)) in
    ap (λ b. cond b (x ∷ filter test xs) (filter test xs)) here ∙ none-pass test xs (λ c h. never c (in_tail x c xs h))

first-pass : (test : ℕ → Bool) (xs : List ℕ) (k : ℕ) → EachOnce xs → ((c : ℕ) → Contains xs c → (test c ≡ true) ↔ Contains (take k xs) c) → filter test xs ≡ take k xs
first-pass test [] zero once each = refl
first-pass test [] (suc k) once each = refl
first-pass test (x ∷ xs) zero once each = none-pass test (x ∷ xs) (λ c h e. in_none c ((each c h).0 e))
first-pass test (x ∷ xs) (suc k) once each =
    let here : test x ≡ true = (each x (in_head x xs)).1 (in_head x (take k xs)) in
    ap (λ b. cond b (x ∷ filter test xs) (filter test xs)) here ∙ ap (λ l. x ∷ l) (first-pass test xs k (once-rest x xs once) later)
  where
    later : (c : ℕ) → Contains xs c → (test c ≡ true) ↔ Contains (take k xs) c
    later c h = (
      λ e. elim (in_cases x c (take k xs) ((each c (in_tail x c xs h)).0 e)) [
        | inl same ↦ absurd (once-head x xs once (subst (Contains xs) (sym same) h))
        | inr there ↦ there
      ],
      λ there. (each c (in_tail x c xs h)).1 (in_tail x c (take k xs) there),
    )

pub story-order : (p : Plan) → IsPlan p → (b : Bank) (y : Story) → Tells p b y → WritesInOrder p (snapshot_of p.graph y.core)
story-order p is b y tells t below = (y.wrote t, first-pass (λ c. is_some (y.core.value c)) (p.order t) (y.wrote t) (is.once t below) (tells.order t below))
