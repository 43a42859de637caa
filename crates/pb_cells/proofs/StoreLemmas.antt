-- A seat stores the value of its task's next cell, and then its mark.
use Rattle.std.proofs.Common.{◌≡◌, ◌∙◌, refl, sym, ap, subst, ⊎_elim, ℕ, ◌+◌, ◌<◌, true, false, List, length, take, Option, Some, None, IsSome, set, arith}
use Rattle.std.specs.List.{Contains}
use Rattle.std.proofs.lemmas.List.{take_more}
use Rattle.std.proofs.lemmas.List.Elements.{Contains-push_cases}
use mathlib.Core.Option.{some}
use lib.ListN.{get_elem?}
use Rattle.pb_values.specs.declared.outcome.Outcome.{Outcome}
use Rattle.pb_taskgraph.specs.Graphs.{cells_of}
use Rattle.pb_taskgraph.specs.Plans.{IsPlan, Plan, outcome_at}
use Rattle.pb_core.specs.declared.event.Event.TheVariants.{Write}
use Rattle.pb_core.specs.States.{happens, with}
use Rattle.pb_core.proofs.KeepLemmas.{keeps}
use Rattle.pb_core.proofs.WithLemmas.{some-stays, some-was, with-each, with-other, with-same}
use Rattle.pb_cells.specs.declared.view.TaskView.{TaskView}
use Rattle.pb_cells.specs.declared.view.View.{View}
use Rattle.pb_cells.specs.Banks.{Bank}
use Rattle.pb_cells.specs.Stories.{AreFirst, Fits, FitsTask, IsStory, Story, TellsCell, next_cell}
use Rattle.pb_cells.specs.Views.{after_mark, after_store, job_view}
use Rattle.pb_cells.specs.Words.{mark_of, word_of}
use Rattle.pb_cells.proofs.CarryLemmas.{SameRest, SameTask, next-fits, same-fits}
use Rattle.pb_cells.proofs.SeatLemmas.{none-some, seat-steps, some-one, with-both}
use Rattle.pb_cells.proofs.TaskLemmas.{first-more, first-new, next-empty, next-task, next-unfinished, task-below}

module _ (p : Plan) (is : IsPlan p) (b : Bank) (views : List View) (y : Story) (ok : IsStory p b views y) (id : ℕ) (j : TaskView) (opened : List ℕ) (at : get_elem? views id ≡ some (job_view j opened)) where
  abbrev own : Fits p b y id (job_view j opened)
  own = ok.fits id (job_view j opened) at

  abbrev fits : FitsTask p b y id j
  fits = own.job

  abbrev cell : ℕ
  cell = next_cell p j

  abbrev v : Outcome
  v = outcome_at p.solution cell

  -- ---- the value word
  abbrev pub value_bank : Bank
  value_bank = record b { value = with b.value (next_cell p j) (word_of (outcome_at p.solution (next_cell p j))) }

  right : (d : ℕ) → b.value d ≡ word_of (outcome_at p.solution d) → value_bank.value d ≡ word_of (outcome_at p.solution d)
  right d was = with-each b.value cell (word_of v) d (λ w. w ≡ word_of (outcome_at p.solution d)) (λ same. ap (λ e. word_of (outcome_at p.solution e)) (sym same)) (λ other. was)

  value-task : (o : ℕ) → SameTask p b value_bank y y o
  value-task o = record { runs = λ t h. h; back = λ t h. h; wrote = λ t h. refl; number = λ t h. refl; kept = λ t h. refl; filed = λ t h. refl; released = λ t u h. refl; right = right }

  value-rest : (o : ℕ) → SameRest b value_bank y y o
  value-rest o = record { holds = λ t h. h; held = λ t h. h; opened = λ t h. h; opens = λ t h. h; takes = λ t h. h; taken = λ t h. h; ended = λ t h. refl; more = omega arith }

  pub value-keeps : j.written < length (p.order j.task) → IsStory p value_bank (set views id (job_view (after_store j) opened)) y
  value-keeps more = seat-steps p b views y ok id (job_view j opened) at value_bank y (job_view (after_store j) opened)
      record {
        sound = ok.tells.sound;
        counts = ok.tells.counts;
        finish = ok.tells.finish;
        cells = λ d below. with-each b.value cell (word_of v) d (λ w. TellsCell (y.core.value d) (b.mark d) w)
            (λ same. unwritten (y.core.value d) (b.mark d) (b.value d) (word_of v) (ap y.core.value same ∙ next-empty p is b y ok.tells id j fits more) (ok.tells.cells d below))
            (λ other. ok.tells.cells d below);
        order = ok.tells.order;
        unbegun = ok.tells.unbegun;
        opened = ok.tells.opened;
        opens = ok.tells.opens;
        taken = ok.tells.taken;
        numbers = ok.tells.numbers;
      }
      ok.seats
      (next-fits p b value_bank y y id (value-rest id) (job_view j opened) (after_store j) stored own.left own)
      (λ o u apart was. same-fits p b value_bank y y o (value-rest o) u (value-task o) was)
    where
      unwritten : (o : Option Outcome) (mark word new : ℕ) → o ≡ None → TellsCell o mark word → TellsCell o mark new
      unwritten None mark word new e was = was
      unwritten (Some w) mark word new e was = absurd (none-some (Some w) w e refl)

      stored : FitsTask p value_bank y id (after_store j)
      stored = record {
        runs = fits.runs;
        only = fits.only;
        wrote = fits.wrote;
        stored = λ e. (more, with-same b.value cell (word_of v) cell refl);
        number = fits.number;
        kept = fits.kept;
        filed = fits.filed;
        released = fits.released;
      }

  -- ---- the mark
  abbrev pub mark_bank : Bank
  mark_bank = record b { mark = with b.mark (next_cell p j) (mark_of (outcome_at p.solution (next_cell p j))) }

  abbrev pub mark_story : Story
  mark_story = record y { core = happens p y.core (Write id (next_cell p j)); wrote = with y.wrote j.task (j.written + 1) }

  mark-rest : (o : ℕ) → SameRest b mark_bank y mark_story o
  mark-rest o = record { holds = λ t h. h; held = λ t h. h; opened = λ t h. h; opens = λ t h. h; takes = λ t h. h; taken = λ t h. h; ended = λ t h. refl; more = omega arith }

  mark-task : (o : ℕ) → (o ≡ id → ⊥) → SameTask p b mark_bank y mark_story o
  mark-task o apart = record {
    runs = λ t h. h;
    back = λ t h. h;
    wrote = λ t h. with-other y.wrote j.task (j.written + 1) t (λ same. apart (some-one (y.core.runner t) o id h.0 (ap y.core.runner same ∙ fits.runs.0)));
    number = λ t h. refl;
    kept = λ t h. refl;
    filed = λ t h. refl;
    released = λ t u h. refl;
    right = λ d was. was;
  }

  module _ (stored : j.stored ≡ true) where
    more : j.written < length (p.order j.task)
    more = (fits.stored stored).0

    below : j.task < length p.graph.tasks
    below = task-below p is b y ok.tells id j fits

    mark-order : (t : ℕ) → t < length p.graph.tasks → AreFirst mark_story.core.value (mark_story.wrote t) (p.order t)
    mark-order t inside = with-each y.wrote j.task (j.written + 1) t (λ k. AreFirst mark_story.core.value k (p.order t))
        (λ same. subst (λ u. AreFirst mark_story.core.value (j.written + 1) (p.order u)) (sym same) this)
        (λ other d h. (
          λ there. (ok.tells.order t inside d h).0 (was other d h there),
          λ first. some-stays y.core.value cell v d ((ok.tells.order t inside d h).1 first),
        ))
      where
        was : (t ≡ j.task → ⊥) → (d : ℕ) → Contains (p.order t) d → IsSome (mark_story.core.value d) → IsSome (y.core.value d)
        was other d h there = ⊎_elim
            (λ (same : d ≡ cell). absurd (other (is.graph.partition.one t j.task cell (subst (Contains (cells_of p.graph t)) same ((is.listed t d inside).0 h)) (next-task p is b y ok.tells id j fits more))))
            (λ (before : IsSome (y.core.value d)). before)
            (some-was y.core.value cell v d there)

        first : (d : ℕ) → Contains (p.order j.task) d → IsSome (y.core.value d) → Contains (take j.written (p.order j.task)) d
        first d h there = subst (λ k. Contains (take k (p.order j.task)) d) fits.wrote ((ok.tells.order j.task below d h).0 there)

        old : (d : ℕ) → Contains (p.order j.task) d → Contains (take j.written (p.order j.task)) d → IsSome (y.core.value d)
        old d h one = (ok.tells.order j.task below d h).1 (subst (λ k. Contains (take k (p.order j.task)) d) (sym fits.wrote) one)

        this : AreFirst mark_story.core.value (j.written + 1) (p.order j.task)
        this d h = (
          λ there. ⊎_elim
              (λ (same : d ≡ cell). subst (Contains (take (j.written + 1) (p.order j.task))) (sym same) (first-new (p.order j.task) j.written more))
              (λ (before : IsSome (y.core.value d)). first-more (p.order j.task) j.written d more (first d h before))
              (some-was y.core.value cell v d there),
          λ one. ⊎_elim
              (λ (before : Contains (take j.written (p.order j.task)) d). some-stays y.core.value cell v d (old d h before))
              (λ (new : cell ≡ d). subst IsSome (sym (with-same y.core.value cell (Some v) d (sym new))) refl)
              (Contains-push_cases (take j.written (p.order j.task)) cell d (subst (λ l. Contains l d) (take_more (p.order j.task) j.written 0 more) one)),
        )

    pub mark-keeps : IsStory p mark_bank (set views id (job_view (after_mark j) opened)) mark_story
    mark-keeps = seat-steps p b views y ok id (job_view j opened) at mark_bank mark_story (job_view (after_mark j) opened)
        record {
          sound = keeps p is y.core ok.tells.sound (Write id cell)
              (j.task, next-task p is b y ok.tells id j fits more, fits.runs.0, next-unfinished p is b y ok.tells id j fits more, next-empty p is b y ok.tells id j fits more);
          counts = ok.tells.counts;
          finish = ok.tells.finish;
          cells = λ d inside. with-both y.core.value b.mark cell (Some v) (mark_of v) d (λ o m. TellsCell o m (b.value d))
              (λ same. (refl, ap b.value same ∙ (fits.stored stored).1))
              (λ other. ok.tells.cells d inside);
          order = mark-order;
          unbegun = λ t none. (with-other y.wrote j.task (j.written + 1) t (λ same. none-some (y.core.runner t) id none (ap y.core.runner same ∙ fits.runs.0)) ∙ (ok.tells.unbegun t none).0, (ok.tells.unbegun t none).1);
          opened = ok.tells.opened;
          opens = ok.tells.opens;
          taken = ok.tells.taken;
          numbers = ok.tells.numbers;
        }
        ok.seats
        (next-fits p b mark_bank y mark_story id (mark-rest id) (job_view j opened) (after_mark j) marked own.left own)
        (λ o u apart was. same-fits p b mark_bank y mark_story o (mark-rest o) u (mark-task o apart) was)
      where
        marked : FitsTask p mark_bank mark_story id (after_mark j)
        marked = record {
          runs = fits.runs;
          only = fits.only;
          wrote = with-same y.wrote j.task (j.written + 1) j.task refl;
          stored = λ e. let wrong : false ≡ true = e in absurd (cc);
          number = fits.number;
          kept = fits.kept;
          filed = fits.filed;
          released = fits.released;
        }
