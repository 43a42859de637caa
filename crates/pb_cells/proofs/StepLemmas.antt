-- What any step does that keeps the rule: a task is opened just where its count becomes 0, and a written value stays.
use Rattle.std.proofs.Common.{◌≡◌, ◌≢◌, ◌∙◌, refl, sym, ap, subst, inl, inr, ⊎_elim, ℕ, ◌<◌, ◌↔◌, not, List, [], length, Option, Some, None, IsSome, set, arith}
use Rattle.std.specs.List.{Contains}
use Rattle.std.proofs.lemmas.Bool.{cases_eq}
use mathlib.Core.Option.{some, some-injective}
use lib.ListN.{get_elem?}
use Rattle.atomic_table.specs.Table as table
use Rattle.atomic_table.proofs.Lists.{at_set, set_here}
use Rattle.pb_base.proofs.ListLemmas.{in_none}
use Rattle.pb_taskgraph.specs.Graphs.{before_of}
use Rattle.pb_taskgraph.specs.Plans.{IsPlan, Plan}
use Rattle.pb_core.proofs.CountLemmas.{count-most}
use Rattle.pb_core.proofs.KeepLemmas.{finished-before, released-all}
use Rattle.pb_core.proofs.WithLemmas.{of-some, with-same}
use Rattle.pb_cells.specs.declared.view.TaskView.{TaskView}
use Rattle.pb_cells.specs.declared.view.View.{View}
use Rattle.pb_cells.specs.Banks.{Bank, bank_of, count_at, value_at}
use Rattle.pb_cells.specs.Shown.{GoesOn, KnowsBefore, OneSeat, OnTask, OthersKeep, SeatWith}
use Rattle.pb_cells.specs.Stories.{Fits, FitsJob, Holds, IsStory, Keeps, Story}
use Rattle.pb_cells.proofs.BankLemmas.{set-count, set-value}
use Rattle.pb_cells.proofs.SeatLemmas.{keeps-same, listed-in, seat-inside}
use Rattle.pb_cells.proofs.LookLemmas.{before-task}
use Rattle.pb_cells.proofs.ShownLemmas.{marked-value, opened-one, option-cases, runs-task, seat-there}

module _ (p : Plan) (is : IsPlan p) (b : Bank) (views : List View) (y : Story) (ok : IsStory p b views y) where
  -- some seat knows of a task that is begun
  keeper : (u : ℕ) → IsSome (y.core.runner u) → (id : ℕ) × (id < length views) × Keeps y.core.runner y.taker u id
  keeper u begun = ⊎_elim
      (λ (none_yet : y.taker u ≡ None). let runner = of-some (y.core.runner u) begun in (runner.0, ok.seats.runners u runner.0 runner.1, inl (runner.1, none_yet)))
      (λ (taken : (id : ℕ) × (y.taker u ≡ Some id)). (taken.0, ok.seats.takers u taken.0 taken.1, inr taken.1))
      (option-cases (y.taker u))

  module _ (t : ℕ) (below : t < length p.graph.tasks) (waits : b.count t ≡ 0) (some_before : 0 < length (before_of p.graph t)) where
    pub opened-seat : (id : ℕ) × SeatWith views (λ v. Contains v.opened t) id
    opened-seat =
        let opener = of-some (y.opener t) (ok.tells.opens t below (sym (ok.tells.counts t below) ∙ waits) some_before) in
        let told = ok.tells.opened t opener.0 opener.1 in
        let knows = keeper opener.0 (ok.tells.sound.held.ended opener.0 (finished-before p is y.core ok.tells.sound t opener.0 told.0 told.1)) in
        let seat = seat-there views knows.0 knows.1 in
        (knows.0, (seat.0, seat.1, ((ok.fits knows.0 seat.0 seat.1).opened.each t).1 (opener.0, opener.1, knows.2)))

    pub opened-there : OneSeat views (λ v. Contains v.opened t)
    opened-there =
        let one = opened-seat in
        let fits = ok.fits one.0 one.1.0 one.1.1 in
        (one.0, one.1, λ other seat. opened-one p is b views y ok t one.0 other ((fits.opened.each t).0 one.1.2) (((ok.fits other seat.0 seat.1).opened.each t).0 seat.2))

  -- what is opened waits for no release
  pub opened-count : (t id : ℕ) (v : View) → t < length p.graph.tasks → get_elem? views id ≡ some v → Contains v.opened t → b.count t ≡ 0
  opened-count t id v below at h = let opener = ((ok.fits id v at).opened.each t).0 h in ok.tells.counts t below ∙ (ok.tells.opened t opener.0 opener.1).0

  module _ (t u id : ℕ) (v : View) (at : get_elem? views id ≡ some v) (opener : y.opener t ≡ Some u) where
    told : (y.core.count t ≡ 0) × Contains (before_of p.graph t) u
    told = ok.tells.opened t u opener

    ended : IsSome (y.core.number u)
    ended = finished-before p is y.core ok.tells.sound t u told.0 told.1

    knows-before : Keeps y.core.runner y.taker u id → KnowsBefore p t v
    knows-before (inl runs) = inl (runs-task p is b views y ok u id v runs (ok.fits id v at).job (λ j. Contains (before_of p.graph t) j.task × IsSome j.number × Contains j.released t) (λ j f same. (
      subst (Contains (before_of p.graph t)) (sym same) told.1,
      subst IsSome (ap y.core.number (sym same) ∙ f.number) ended,
      listed-in j.released t (sym (f.released t) ∙ (ap (λ k. y.core.released k t) same ∙ released-all p is y.core ok.tells.sound t u told.0 told.1)),
    )))
    knows-before (inr taken) = let number = of-some (y.core.number u) ended in inr (u, number.0, ((ok.fits id v at).ran.each u number.0).1 (taken, number.1), told.1)

  pub opened-before : (t id : ℕ) → SeatWith views (λ v. Contains v.opened t) id → SeatWith views (KnowsBefore p t) id
  opened-before t id (v, at, h) = let opener = ((ok.fits id v at).opened.each t).0 h in (v, at, knows-before t opener.0 id v at opener.1 opener.2)

  -- a task that waits has a predecessor
  pub waits-before : (t : ℕ) → t < length p.graph.tasks → 0 < b.count t → 0 < length (before_of p.graph t)
  waits-before t below waits = let most = count-most (λ u. not (y.core.released u t)) (before_of p.graph t) in omega (arith, ok.tells.counts t below, ok.tells.sound.counts.counts t)

-- a seat steps
module _ (p : Plan) (is : IsPlan p) (b c : Bank) (views : List View) (y z : Story) (ok : IsStory p b views y) (id : ℕ) (w : View) (then_ : IsStory p c (set views id w) z) (t : ℕ) (below : t < length p.graph.tasks) (waits : 0 < b.count t) where
  pub step-opens : c.count t ≡ 0 → Contains w.opened t
  step-opens none_left =
      let seat = opened-seat p is c (set views id w) z then_ t below none_left (waits-before p is b views y ok t below waits) in
      ⊎_elim
      (λ (here : (seat.0 ≡ id) × (w ≡ seat.1.0)). subst (λ (v : View). Contains v.opened t) (sym here.1) seat.1.2)
      (λ (other : (seat.0 ≢ id) × (get_elem? views seat.0 ≡ some seat.1.0)). absurd (let none_before = opened-count p is b views y ok t seat.0 seat.1.0 below other.1 seat.1.2 in omega arith))
      (at_set views id seat.0 w seat.1.0 seat.1.1)

  pub opens-step : id < length views → Contains w.opened t → c.count t ≡ 0
  opens-step inside h = opened-count p is c (set views id w) z then_ t id w below (set_here views id w inside) h

-- a seat has one view
same-view : (views : List View) (o id : ℕ) (v w : View) → o ≡ id → get_elem? views o ≡ some v → get_elem? views id ≡ some w → v ≡ w
same-view views o id v w same first second = some-injective v w (sym first ∙ (ap (get_elem? views) same ∙ second))

-- the other seats know what they knew
module _ (p : Plan) (is : IsPlan p) (b c : Bank) (views later : List View) (y z : Story) (ok : IsStory p b views y) (then_ : IsStory p c later z) where
  -- a view that fits both tells of the same tasks
  still-knows : (u id : ℕ) (v : View) → Fits p b y id v → Fits p c z id v → IsSome (y.core.number u) → Keeps y.core.runner y.taker u id → Keeps z.core.runner z.taker u id
  still-knows u id v fits new there (inl runs) = go v.job fits.job new.job
    where
      go : (o : Option TaskView) → FitsJob p b y id o → FitsJob p c z id o → Keeps z.core.runner z.taker u id
      go None old new_job = absurd (old u runs)
      go (Some j) old new_job = subst (λ k. Keeps z.core.runner z.taker k id) (sym (old.only u runs)) (inl new_job.runs)
  still-knows u id v fits new there (inr taken) = let number = of-some (y.core.number u) there in inr ((new.ran.each u number.0).0 ((fits.ran.each u number.0).1 (taken, number.1))).0

  module _ (id t : ℕ) (v w : View) (others : OthersKeep id views later) (at : get_elem? views id ≡ some v) (there : get_elem? later id ≡ some w) (on : GoesOn v w) (h : Contains v.opened t) where
    own-knows : (u : ℕ) → IsSome (y.core.number u) → Keeps y.core.runner y.taker u id → Keeps z.core.runner z.taker u id
    own-knows u finished (inl runs) = go v.job w.job (ok.fits id v at).job (then_.fits id w there).job on.1
      where
        go : (o q : Option TaskView) → FitsJob p b y id o → FitsJob p c z id q → OnTask (λ j. OnTask (λ k. k.task ≡ j.task) q) o → Keeps z.core.runner z.taker u id
        go None q old new same = absurd same
        go (Some j) None old new same = absurd same
        go (Some j) (Some k) old new same = subst (λ i. Keeps z.core.runner z.taker i id) (same ∙ sym (old.only u runs)) (inl new.runs)
    own-knows u finished (inr taken) = let number = of-some (y.core.number u) finished in
        absurd (in_none (u, number.0) (subst (λ (l : List (ℕ × ℕ)). Contains l (u, number.0)) on.0 (((ok.fits id v at).ran.each u number.0).1 (taken, number.1))))

    -- who has opened the task later knows of this one, and the seat or another seat knew of it before
    module _ (o u : ℕ) (x : View) (new : get_elem? later o ≡ some x) (opened : Contains x.opened t) (knows : Keeps z.core.runner z.taker u o) (finished : IsSome (y.core.number u)) where
      from-own : Keeps y.core.runner y.taker u id → Contains w.opened t
      from-own mine = subst (λ (e : View). Contains e.opened t) (same-view later o id x w (keeps-same z.core.runner z.taker u id o (own-knows u finished mine) knows) new there) opened

      from-other : (q : ℕ) (old : View) → (q ≡ id → ⊥) → get_elem? views q ≡ some old → Keeps y.core.runner y.taker u q → ⊥
      from-other q old other first theirs =
          let still = others q old other first in
          let later_knows = still-knows u q old (ok.fits q old first) (then_.fits q old still) finished theirs in
          let same = same-view later o q x old (keeps-same z.core.runner z.taker u q o later_knows knows) new still in
          other (opened-one p is b views y ok t id q (((ok.fits id v at).opened.each t).0 h) (((ok.fits q old first).opened.each t).0 (subst (λ (e : View). Contains e.opened t) same opened)))

      from-either : Contains w.opened t
      from-either =
          let before = keeper p is b views y ok u (ok.tells.sound.held.ended u finished) in
          let old = seat-there views before.0 before.1 in
          ⊎_elim
          (λ (same : before.0 ≡ id). from-own (subst (Keeps y.core.runner y.taker u) same before.2))
          (λ (other : before.0 ≡ id → ⊥). absurd (from-other before.0 old.0 other old.1 before.2))
          (cases_eq before.0 id)

    pub kept-opened : c.count t ≡ 0 → Contains w.opened t
    kept-opened none_left =
        let mine = ((ok.fits id v at).opened.each t).0 h in
        let told = ok.tells.opened t mine.0 mine.1 in
        let some_before : 0 < length (before_of p.graph t) = let place = told.1.1 in omega arith in
        let seat = opened-seat p is c later z then_ t (before-task p t some_before) none_left some_before in
        let opener = ((then_.fits seat.0 seat.1.0 seat.1.1).opened.each t).0 seat.1.2 in
        from-either seat.0 opener.0 seat.1.0 seat.1.1 seat.1.2 opener.2 (finished-before p is y.core ok.tells.sound t opener.0 told.0 (then_.tells.opened t opener.0 opener.1).1)

-- the count of a task that waits becomes another number
pub count-step : (p : Plan) (s : table.State (Unit {0}) View) (t n id : ℕ) (v w : View) (holds : Holds p s) → t < length p.graph.tasks → 0 < (bank_of p.graph s.words).count t → get_elem? s.views id ≡ some v
    → Holds p (table.stepped s (count_at p.graph t) n id [] w table.keeps) → (n ≡ 0) ↔ Contains w.opened t
count-step p s t n id v w holds below waits at after =
    let b = bank_of p.graph s.words in
    let c = bank_of p.graph (set s.words (count_at p.graph t) n) in
    let left : c.count t ≡ n = ap (λ (d : Bank). d.count t) (set-count p.graph s.words holds.width t n below) ∙ with-same b.count t n t refl in (
      λ e. step-opens p holds.plan b c s.views holds.story after.story holds.is id w after.is t below waits (left ∙ e),
      λ h. sym left ∙ opens-step p holds.plan b c s.views holds.story after.story holds.is id w after.is t below waits (seat-inside s.views id v at) h,
    )

-- a word is stored at the value of a written cell
pub value-step : (p : Plan) (s : table.State (Unit {0}) View) (c n id : ℕ) (w : View) (holds : Holds p s) → c < p.graph.cells → 0 < (bank_of p.graph s.words).mark c
    → Holds p (table.stepped s (value_at p.graph c) n id [] w table.keeps) → n ≡ (bank_of p.graph s.words).value c
value-step p s c n id w holds below marked after =
    let b = bank_of p.graph s.words in
    let d = bank_of p.graph (set s.words (value_at p.graph c) n) in
    let same = set-value p.graph s.words holds.width c n below in
    let new : d.value c ≡ n = ap (λ (e : Bank). e.value c) same ∙ with-same b.value c n c refl in
    let mark : d.mark c ≡ b.mark c = ap (λ (e : Bank). e.mark c) same in
    sym new ∙ (marked-value p holds.plan d (set s.views id w) after.story after.is c below (omega (arith, mark, marked)) ∙ sym (marked-value p holds.plan b s.views holds.story holds.is c below marked))
