-- A seat finishes its task: it draws a finish number, stores it, and files it.
use Rattle.std.proofs.Common.{◌≡◌, ◌∙◌, refl, sym, ap, subst, inl, inr, ⊎_elim, ℕ, ◌+◌, ◌<◌, ◌≤◌, true, false, List, ◌∷◌, length, Some, None, set, arith}
use Rattle.std.specs.List.{Contains}
use Rattle.std.proofs.lemmas.Bool.Decides.{nat_tests}
use mathlib.Core.Option.{some}
use lib.ListN.{get_elem?}
use Rattle.pb_taskgraph.specs.Plans.{IsPlan, Plan}
use Rattle.pb_core.specs.declared.event.Event.TheVariants.{Finish}
use Rattle.pb_core.specs.States.{happens, with}
use Rattle.pb_core.proofs.CountLemmas.{one-more}
use Rattle.pb_core.proofs.FinishLemmas.{few}
use Rattle.pb_core.proofs.KeepLemmas.{keeps}
use Rattle.pb_core.proofs.OrderLemmas.{is-task}
use Rattle.pb_core.proofs.WithLemmas.{is-stays, some-of, some-stays, with-each, with-other, with-same}
use Rattle.pb_cells.specs.declared.view.TaskView.{TaskView}
use Rattle.pb_cells.specs.declared.view.View.{View}
use Rattle.pb_cells.specs.Banks.{Bank}
use Rattle.pb_cells.specs.Stories.{FitsTask, IsStory, Runs, Story, Tells, is_listed}
use Rattle.pb_cells.specs.Views.{after_draw, after_file, after_keep, job_view}
use Rattle.pb_base.proofs.ListLemmas.{in_cases, in_head, in_tail}
use Rattle.pb_cells.proofs.CarryLemmas.{SameRest, SameTask, next-fits, same-fits}
use Rattle.pb_cells.proofs.SeatLemmas.{either_way, in-listed, listed-in, none-some, seat-steps, some-one, with-both}
use Rattle.pb_cells.proofs.TaskLemmas.{all-own}

module _ (p : Plan) (is : IsPlan p) (b : Bank) (views : List View) (y : Story) (ok : IsStory p b views y) (id : ℕ) (j : TaskView) (opened : List ℕ) (at : get_elem? views id ≡ some (job_view j opened)) where
  abbrev fits : FitsTask p b y id j
  fits = (ok.fits id (job_view j opened) at).job

  -- ---- the number is drawn
  abbrev pub finish_bank : Bank
  finish_bank = record b { finish = b.finish + 1 }

  abbrev pub finish_story : Story
  finish_story = record y { core = happens p y.core (Finish id j.task) }

  -- another seat runs another task
  another : (o : ℕ) → (o ≡ id → ⊥) → (t : ℕ) → Runs y.core.runner y.taker t o → t ≡ j.task → ⊥
  another o apart t h same = apart (some-one (y.core.runner t) o id h.0 (ap y.core.runner same ∙ fits.runs.0))

  finish-rest : (o : ℕ) → SameRest b finish_bank y finish_story o
  finish-rest o = record {
    holds = λ t h. h;
    held = λ t h. h;
    opened = λ t h. h;
    opens = λ t h. h;
    takes = λ t h. h;
    taken = λ t h. h;
    ended = λ t h. with-other y.core.number j.task (Some y.core.finished) t (λ same. none-some (y.taker t) o (ap y.taker same ∙ fits.runs.1) h);
    more = omega arith;
  }

  finish-task : (o : ℕ) → (o ≡ id → ⊥) → SameTask p b finish_bank y finish_story o
  finish-task o apart = record {
    runs = λ t h. h;
    back = λ t h. h;
    wrote = λ t h. refl;
    number = λ t h. with-other y.core.number j.task (Some y.core.finished) t (another o apart t h);
    kept = λ t h. refl;
    filed = λ t h. refl;
    released = λ t u h. refl;
    right = λ d was. was;
  }

  pub finish-keeps : j.number ≡ None → length (p.order j.task) ≤ j.written → IsStory p finish_bank (set views id (job_view (after_draw b.finish j) opened)) finish_story
  finish-keeps unfinished all = seat-steps p b views y ok id (job_view j opened) at finish_bank finish_story (job_view (after_draw b.finish j) opened)
      record {
        sound = keeps p is y.core ok.tells.sound (Finish id j.task) (fits.runs.0, fits.number ∙ unfinished, all-own p is b y ok.tells id j fits all);
        counts = ok.tells.counts;
        finish = ap (λ n. n + 1) ok.tells.finish;
        cells = ok.tells.cells;
        order = ok.tells.order;
        unbegun = ok.tells.unbegun;
        opened = ok.tells.opened;
        opens = ok.tells.opens;
        taken = λ t o h. let was = ok.tells.taken t o h in (some-stays y.core.number j.task y.core.finished t was.0, was.1, was.2);
        numbers = record {
          stored = λ t e. is-stays y.core.number j.task y.core.finished t (b.number t) (fits.number ∙ unfinished) (ok.tells.numbers.stored t e);
          count_is = ok.tells.numbers.count_is;
          once = ok.tells.numbers.once;
          kept = ok.tells.numbers.kept;
        };
      }
      ok.seats
      (next-fits p b finish_bank y finish_story id (finish-rest id) (job_view j opened) (after_draw b.finish j) finished (ok.fits id (job_view j opened) at).left (ok.fits id (job_view j opened) at))
      (λ o u apart was. same-fits p b finish_bank y finish_story o (finish-rest o) u (finish-task o apart) was)
    where
      finished : FitsTask p finish_bank finish_story id (after_draw b.finish j)
      finished = record {
        runs = fits.runs;
        only = fits.only;
        wrote = fits.wrote;
        stored = fits.stored;
        number = with-same y.core.number j.task (Some y.core.finished) j.task refl ∙ ap (λ n. Some n) (sym ok.tells.finish);
        kept = fits.kept;
        filed = fits.filed;
        released = fits.released;
      }

  -- ---- the number is stored
  module _ (n : ℕ) (drawn : j.number ≡ Some n) where
    abbrev pub number_bank : Bank
    number_bank = record b { number = with b.number j.task n }

    abbrev pub number_story : Story
    number_story = record y { kept = with y.kept j.task true }

    pub number-keeps : IsStory p number_bank (set views id (job_view (after_keep j) opened)) number_story
    number-keeps = seat-steps p b views y ok id (job_view j opened) at number_bank number_story (job_view (after_keep j) opened)
        record {
          sound = ok.tells.sound;
          counts = ok.tells.counts;
          finish = ok.tells.finish;
          cells = ok.tells.cells;
          order = ok.tells.order;
          unbegun = ok.tells.unbegun;
          opened = ok.tells.opened;
          opens = ok.tells.opens;
          taken = ok.tells.taken;
          numbers = record {
            stored = λ t. with-both y.kept b.number j.task true n t (λ k w. k ≡ true → y.core.number t ≡ Some w)
                (λ same e. ap y.core.number same ∙ (fits.number ∙ drawn))
                (λ other. ok.tells.numbers.stored t);
            count_is = ok.tells.numbers.count_is;
            once = ok.tells.numbers.once;
            kept = λ t h. with-each y.kept j.task true t (λ k. k ≡ true) (λ same. refl) (λ other. ok.tells.numbers.kept t h);
          };
        }
        ok.seats
        (next-fits p b number_bank y number_story id (same-rest id) (job_view j opened) (after_keep j) stored (ok.fits id (job_view j opened) at).left (ok.fits id (job_view j opened) at))
        (λ o u apart was. same-fits p b number_bank y number_story o (same-rest o) u (same-task o apart) was)
      where
        same-rest : (o : ℕ) → SameRest b number_bank y number_story o
        same-rest o = record { holds = λ t h. h; held = λ t h. h; opened = λ t h. h; opens = λ t h. h; takes = λ t h. h; taken = λ t h. h; ended = λ t h. refl; more = omega arith }

        same-task : (o : ℕ) → (o ≡ id → ⊥) → SameTask p b number_bank y number_story o
        same-task o apart = record {
          runs = λ t h. h;
          back = λ t h. h;
          wrote = λ t h. refl;
          number = λ t h. refl;
          kept = λ t h. with-other y.kept j.task true t (another o apart t h);
          filed = λ t h. refl;
          released = λ t u h. refl;
          right = λ d was. was;
        }

        stored : FitsTask p number_bank number_story id (after_keep j)
        stored = record {
          runs = fits.runs;
          only = fits.only;
          wrote = fits.wrote;
          stored = fits.stored;
          number = fits.number;
          kept = with-same y.kept j.task true j.task refl;
          filed = fits.filed;
          released = fits.released;
        }

  -- ---- it is filed
  module _ (kept : j.kept ≡ true) (unfiled : j.filed ≡ false) where
    abbrev pub file_bank : Bank
    file_bank = record b { filed = b.filed + 1 }

    abbrev pub file_story : Story
    file_story = record y { filed = j.task ∷ y.filed }

    pub file-keeps : IsStory p file_bank (set views id (job_view (after_file j) opened)) file_story
    file-keeps = seat-steps p b views y ok id (job_view j opened) at file_bank file_story (job_view (after_file j) opened)
        record {
          sound = ok.tells.sound;
          counts = ok.tells.counts;
          finish = ok.tells.finish;
          cells = ok.tells.cells;
          order = ok.tells.order;
          unbegun = ok.tells.unbegun;
          opened = ok.tells.opened;
          opens = ok.tells.opens;
          taken = λ t o h. let was = ok.tells.taken t o h in (was.0, was.1, in_tail j.task t y.filed was.2);
          numbers = record {
            stored = ok.tells.numbers.stored;
            count_is = omega (arith, ok.tells.numbers.count_is);
            once = one-more j.task y.filed ok.tells.numbers.once (λ h. let wrong : false ≡ true = sym unfiled ∙ (sym fits.filed ∙ in-listed y.filed j.task h) in cc);
            kept = λ t h. elim (in_cases j.task t y.filed h) [
              | inl same ↦ ap y.kept (sym same) ∙ (fits.kept ∙ kept)
              | inr before ↦ ok.tells.numbers.kept t before
            ];
          };
        }
        ok.seats
        (next-fits p b file_bank y file_story id (same-rest id) (job_view j opened) (after_file j) filed (ok.fits id (job_view j opened) at).left (ok.fits id (job_view j opened) at))
        (λ o u apart was. same-fits p b file_bank y file_story o (same-rest o) u (same-task o apart) was)
      where
        same-rest : (o : ℕ) → SameRest b file_bank y file_story o
        same-rest o = record { holds = λ t h. h; held = λ t h. h; opened = λ t h. h; opens = λ t h. h; takes = λ t h. h; taken = λ t h. h; ended = λ t h. refl; more = omega arith }

        same-task : (o : ℕ) → (o ≡ id → ⊥) → SameTask p b file_bank y file_story o
        same-task o apart = record {
          runs = λ t h. h;
          back = λ t h. h;
          wrote = λ t h. refl;
          number = λ t h. refl;
          kept = λ t h. refl;
          filed = λ t h. let other = another o apart t h in grind (arith, nat_tests);
          released = λ t u h. refl;
          right = λ d was. was;
        }

        filed : FitsTask p file_bank file_story id (after_file j)
        filed = record {
          runs = fits.runs;
          only = fits.only;
          wrote = fits.wrote;
          stored = fits.stored;
          number = fits.number;
          kept = fits.kept;
          filed = in-listed (j.task ∷ y.filed) j.task (in_head j.task y.filed);
          released = fits.released;
        }

-- a filed task is one, and the filed tasks are no more than the tasks
module _ (p : Plan) (b : Bank) (y : Story) (tells : Tells p b y) where
  pub filed-number : (t : ℕ) → Contains y.filed t → y.core.number t ≡ Some (b.number t)
  filed-number t h = tells.numbers.stored t (tells.numbers.kept t h)

  pub filed-task : (t : ℕ) → Contains y.filed t → t < length p.graph.tasks
  filed-task t h = is-task p y.core tells.sound t (some-of (y.core.number t) (b.number t) (filed-number t h))

  pub filed-few : b.filed ≤ length p.graph.tasks
  filed-few = omega (arith, tells.numbers.count_is, few y.filed (length p.graph.tasks) tells.numbers.once filed-task)

  -- where they are as many, each task is filed
  pub filed-all : b.filed ≡ length p.graph.tasks → (t : ℕ) → t < length p.graph.tasks → Contains y.filed t
  filed-all all t below = ⊎_elim
      (λ (there : is_listed y.filed t ≡ true). listed-in y.filed t there)
      (λ (not_there : is_listed y.filed t ≡ false). absurd (
      let more = few (t ∷ y.filed) (length p.graph.tasks) (one-more t y.filed tells.numbers.once (λ h. let wrong : false ≡ true = sym not_there ∙ in-listed y.filed t h in cc)) (λ u h. elim (in_cases t u y.filed h) [
        | inl same ↦ subst (λ k. k < length p.graph.tasks) same below
        | inr before ↦ filed-task u before
      ]) in omega (arith, all, tells.numbers.count_is)))
      (either_way (is_listed y.filed t))
