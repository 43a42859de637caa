-- A hand looks at the filed count, and takes in a Job.
use Rattle.std.proofs.Common.{◌≡◌, ◌∙◌, refl, sym, ap, subst, inl, inr, ℕ, ◌+◌, ◌<◌, true, List, [], ◌∷◌, ◌++◌, length, map, Some, None, IsSome, set, arith}
use Rattle.std.specs.List.{Contains}
use Rattle.std.proofs.lemmas.List.Elements.{Contains-append_cases, Contains-append_left, Contains-append_right, Contains-push, Contains-push_cases}
use mathlib.Core.Option.{some}
use lib.ListN.{get_elem?}
use Rattle.pb_base.proofs.ListLemmas.{in_head, in_none, in_tail, map_in}
use Rattle.pb_taskgraph.specs.Graphs.{EachOnce, after_of}
use Rattle.pb_taskgraph.specs.Plans.{IsPlan, Plan}
use Rattle.pb_core.specs.States.{with}
use Rattle.pb_core.proofs.CountLemmas.{once-head, once-rest, one-more}
use Rattle.pb_core.proofs.WithLemmas.{of-some, some-of, with-each, with-other, with-same}
use Rattle.pb_cells.specs.declared.view.TaskView.{TaskView}
use Rattle.pb_cells.specs.declared.view.View.{View}
use Rattle.pb_cells.specs.Banks.{Bank}
use Rattle.pb_cells.specs.Stories.{Fits, FitsOpened, FitsRan, FitsTask, HasOpened, IsStory, Keeps, Story, is_listed}
use Rattle.pb_cells.specs.Views.{hand_view, job_view, joined_view, no_view, numbered}
use Rattle.pb_cells.proofs.CarryLemmas.{SameRest, SameTask, same-fits}
use Rattle.pb_cells.proofs.ReleaseLemmas.{once-push}
use Rattle.pb_cells.proofs.SeatLemmas.{keeps-same, listed-in, none-some, seat-inside, seat-joins, seat-steps, some-one}

pub once-append : (xs ys : List ℕ) → EachOnce xs → EachOnce ys → ((x : ℕ) → Contains xs x → Contains ys x → ⊥) → EachOnce (xs ++ ys)
once-append [] ys a c apart = c
once-append (x ∷ xs) ys a c apart = one-more x (xs ++ ys) (once-append xs ys (once-rest x xs a) c (λ z h k. apart z (in_tail x z xs h) k)) (λ h. elim (Contains-append_cases xs ys x h) [
  | inl there ↦ once-head x xs a there
  | inr later ↦ apart x (in_head x xs) later
])

map-push : {A B : Type 0} (f : A → B) (xs : List A) (x : A) → map f (xs ++ x ∷ []) ≡ map f xs ++ f x ∷ []
map-push f [] x = refl
map-push f (z ∷ zs) x = ap (λ l. f z ∷ l) (map-push f zs x)

module _ (p : Plan) (is : IsPlan p) (b : Bank) (views : List View) (y : Story) (ok : IsStory p b views y) (id : ℕ) (opened : List ℕ) (ran : List (ℕ × ℕ)) (seen looks : ℕ) (at : get_elem? views id ≡ some (hand_view opened ran seen looks)) where
  abbrev own : Fits p b y id (hand_view opened ran seen looks)
  own = ok.fits id (hand_view opened ran seen looks) at

  -- ---- a look at the filed count
  pub look-keeps : IsStory p b (set views id (hand_view opened ran b.filed (looks + 1))) y
  look-keeps = seat-steps p b views y ok id (hand_view opened ran seen looks) at b y (hand_view opened ran b.filed (looks + 1)) ok.tells ok.seats
      record { job = own.job; turns = own.turns; opened = own.opened; left = tt; ran = own.ran; seen = omega arith }
      (λ o u apart was. was)

  -- ---- a Job is taken in
  module _ (other : ℕ) (j : TaskView) (more : List ℕ) (apart : other ≡ id → ⊥) (there : get_elem? views other ≡ some (job_view j more)) where
    abbrev theirs : Fits p b y other (job_view j more)
    theirs = ok.fits other (job_view j more) there

    abbrev fits : FitsTask p b y other j
    fits = theirs.job

    abbrev pub join_story : Story
    join_story = record y { taker = with y.taker j.task (Some id) }

    taker-none : (t : ℕ) → join_story.taker t ≡ None → (t ≡ j.task → ⊥) × (y.taker t ≡ None)
    taker-none t e = with-each y.taker j.task (Some id) t (λ a. a ≡ None → (t ≡ j.task → ⊥) × (y.taker t ≡ None))
        (λ same h. absurd (none-some (Some id) id h refl))
        (λ apart_ h. (apart_, h)) e

    taken-back : (t o : ℕ) → (o ≡ id → ⊥) → join_story.taker t ≡ Some o → y.taker t ≡ Some o
    taken-back t o apart_ = with-each y.taker j.task (Some id) t (λ a. a ≡ Some o → y.taker t ≡ Some o) (λ same e. absurd (let wrong : id ≡ o = cc in apart_ (sym wrong))) (λ else_ e. e)

    -- the Job's seat has taken in nothing, and knows of no task but its own
    none-taken : (t : ℕ) → y.taker t ≡ Some other → ⊥
    none-taken t h = let there = of-some (y.core.number t) (ok.tells.taken t other h).0 in in_none (t, there.0) ((theirs.ran.each t there.0).1 (h, there.1))

    own-task : (t : ℕ) → Keeps y.core.runner y.taker t other → t ≡ j.task
    own-task t (inl runs) = fits.only t runs
    own-task t (inr taken) = absurd (none-taken t taken)

    join-task : (o : ℕ) → (o ≡ other → ⊥) → SameTask p b b y join_story o
    join-task o apart_ = record {
      runs = λ t h. (h.0, with-other y.taker j.task (Some id) t (λ same. apart_ (some-one (y.core.runner t) o other h.0 (ap y.core.runner same ∙ fits.runs.0))) ∙ h.1);
      back = λ t h. (h.0, (taker-none t h.1).1);
      wrote = λ t h. refl;
      number = λ t h. refl;
      kept = λ t h. refl;
      filed = λ t h. refl;
      released = λ t u h. refl;
      right = λ d was. was;
    }

    takes-on : (t o : ℕ) → y.taker t ≡ Some o → join_story.taker t ≡ Some o
    takes-on t o h = with-other y.taker j.task (Some id) t (λ same. none-some (y.taker t) o (ap y.taker same ∙ fits.runs.1) h) ∙ h

    keeps-on : (t o : ℕ) → (o ≡ other → ⊥) → Keeps y.core.runner y.taker t o → Keeps y.core.runner join_story.taker t o
    keeps-on t o another (inl runs) = inl ((join-task o another).runs t runs)
    keeps-on t o another (inr taken) = inr (takes-on t o taken)

    keeps-back : (t o : ℕ) → (o ≡ id → ⊥) → Keeps y.core.runner join_story.taker t o → Keeps y.core.runner y.taker t o
    keeps-back t o apart_ (inl runs) = inl (runs.0, (taker-none t runs.1).1)
    keeps-back t o apart_ (inr taken) = inr (taken-back t o apart_ taken)

    left-none : (t : ℕ) → Keeps y.core.runner join_story.taker t other → ⊥
    left-none t (inl runs) = let was = taker-none t runs.1 in was.0 (fits.only t (runs.0, was.1))
    left-none t (inr taken) = none-taken t (taken-back t other apart taken)

    join-rest : (o : ℕ) → (o ≡ id → ⊥) → (o ≡ other → ⊥) → SameRest b b y join_story o
    join-rest o apart_ another = record {
      holds = λ t h. h;
      held = λ t h. h;
      opened = λ t h. (h.0, h.1, keeps-on h.0 o another h.2);
      opens = λ t h. (h.0, h.1, keeps-back h.0 o apart_ h.2);
      takes = λ t h. takes-on t o h;
      taken = λ t. taken-back t o apart_;
      ended = λ t h. refl;
      more = omega arith;
    }

    left-fits : Fits p b join_story other no_view
    left-fits = record {
      job = λ t h. let was = taker-none t h.1 in was.0 (fits.only t (h.0, was.1));
      turns = theirs.turns;
      opened = record { each = λ t. (λ h. absurd (in_none t h), λ h. absurd (left-none h.0 h.2)); once = theirs.turns.once };
      left = tt;
      ran = record {
        each = λ t n. (
          λ h. absurd (in_none (t, n) h),
          λ h. with-each y.taker j.task (Some id) t (λ a. a ≡ Some other → Contains {X = ℕ × ℕ} [] (t, n)) (λ same e. absurd (let wrong : id ≡ other = cc in apart (sym wrong))) (λ else_ e. (theirs.ran.each t n).1 (e, h.1)) h.0,
        );
        once = theirs.ran.once;
      };
      seen = omega arith;
    }

    module _ (n : ℕ) (ended : j.number ≡ Some n) (filed : j.filed ≡ true) (paid : (u : ℕ) → Contains (after_of p.graph j.task) u → is_listed j.released u ≡ true) where
      pair-parts : (t m : ℕ) → ◌≡◌ {A = ℕ × ℕ} (j.task, n) (t, m) → (j.task ≡ t) × (n ≡ m)
      pair-parts t m e = (ap (λ (q : ℕ × ℕ). q.0) e, ap (λ (q : ℕ × ℕ). q.1) e)

      joined-ran : FitsRan join_story.taker y.core.number id (ran ++ (j.task, n) ∷ [])
      joined-ran = record {
        each = λ t m. (
          λ h. elim (Contains-push_cases ran (j.task, n) (t, m) h) [
            | inl before ↦ let was = (own.ran.each t m).0 before in (takes-on t id was.0, was.1)
            | inr same ↦ let parts = pair-parts t m same in
                (with-same y.taker j.task (Some id) t (sym parts.0), ap y.core.number (sym parts.0) ∙ (fits.number ∙ (ended ∙ ap (λ k. Some k) parts.1)))
          ],
          λ h. with-each y.taker j.task (Some id) t (λ a. a ≡ Some id → Contains (ran ++ (j.task, n) ∷ []) (t, m))
              (λ same e. let number : m ≡ n = some-one (y.core.number t) m n h.1 (ap y.core.number same ∙ (fits.number ∙ ended)) in
              subst (λ (q : ℕ × ℕ). Contains (ran ++ (j.task, n) ∷ []) q) (λ i. (sym same i, sym number i)) (Contains-push ran (j.task, n)))
              (λ else_ e. Contains-append_left ran ((j.task, n) ∷ []) (t, m) ((own.ran.each t m).1 (e, h.1))) h.0,
        );
        once = subst EachOnce (sym (map-push (λ (e : ℕ × ℕ). e.0) ran (j.task, n))) (once-push (map (λ (e : ℕ × ℕ). e.0) ran) j.task own.ran.once never);
      }
        where
          never : Contains (map (λ (e : ℕ × ℕ). e.0) ran) j.task → ⊥
          never h = let found = map_in (λ (e : ℕ × ℕ). e.0) ran j.task h in
              none-some (y.taker j.task) id fits.runs.1 (ap y.taker (sym found.2) ∙ ((own.ran.each found.0.0 found.0.1).0 found.1).0)

      joined-back : (t : ℕ) → HasOpened join_story t id → Contains (opened ++ more) t
      joined-back t (u, opener, inl runs) = Contains-append_left opened more t ((own.opened.each t).1 (u, opener, inl (runs.0, (taker-none u runs.1).1)))
      joined-back t (u, opener, inr taken) = with-each y.taker j.task (Some id) u (λ a. a ≡ Some id → Contains (opened ++ more) t)
          (λ same e. Contains-append_right opened more t ((theirs.opened.each t).1 (u, opener, subst (λ k. Keeps y.core.runner y.taker k other) (sym same) (inl fits.runs))))
          (λ else_ e. Contains-append_left opened more t ((own.opened.each t).1 (u, opener, inr e)))
          taken

      joined-opened : FitsOpened join_story id (opened ++ more)
      joined-opened = record {
        each = λ t. (
          λ h. elim (Contains-append_cases opened more t h) [
            | inl mine ↦ let was = (own.opened.each t).0 mine in (was.0, was.1, keeps-on was.0 id (λ same. apart (sym same)) was.2)
            | inr new ↦ let was = (theirs.opened.each t).0 new in (was.0, was.1, inr (with-same y.taker j.task (Some id) was.0 (own-task was.0 was.2)))
          ],
          λ h. joined-back t h,
        );
        once = once-append opened more own.opened.once theirs.opened.once (λ t mine new.
            let first = (own.opened.each t).0 mine in
            let second = (theirs.opened.each t).0 new in
            apart (keeps-same y.core.runner y.taker second.0 id other (subst (λ u. Keeps y.core.runner y.taker u id) (some-one (y.opener t) first.0 second.0 first.1 second.1) first.2) second.2));
      }

      joined-fits : Fits p b join_story id (joined_view (hand_view opened ran seen looks) (job_view j more))
      joined-fits = record {
        job = λ t h. own.job t (h.0, (taker-none t h.1).1);
        turns = own.turns;
        opened = joined-opened;
        left = tt;
        ran = subst (λ o. FitsRan join_story.taker y.core.number id (ran ++ numbered j.task o)) (sym ended) joined-ran;
        seen = own.seen;
      }

      pub join-keeps : IsStory p b (set (set views id (joined_view (hand_view opened ran seen looks) (job_view j more))) other no_view) join_story
      join-keeps = seat-joins p b views y ok id (hand_view opened ran seen looks) other (job_view j more) at apart there join_story (joined_view (hand_view opened ran seen looks) (job_view j more)) no_view
          record {
            sound = ok.tells.sound;
            counts = ok.tells.counts;
            finish = ok.tells.finish;
            cells = ok.tells.cells;
            order = ok.tells.order;
            unbegun = ok.tells.unbegun;
            opened = ok.tells.opened;
            opens = ok.tells.opens;
            taken = λ t o. with-each y.taker j.task (Some id) t (λ a. a ≡ Some o → IsSome (y.core.number t) × ((u : ℕ) → Contains (after_of p.graph t) u → y.core.released t u ≡ true) × Contains y.filed t)
                (λ same e. (some-of (y.core.number t) n (ap y.core.number same ∙ (fits.number ∙ ended)), λ u h. ap (λ k. y.core.released k u) same ∙ (fits.released u ∙ paid u (subst (λ k. Contains (after_of p.graph k) u) same h)), subst (Contains y.filed) (sym same) (listed-in y.filed j.task (fits.filed ∙ filed))))
                (λ else_ e. ok.tells.taken t o e);
            numbers = ok.tells.numbers;
          }
          record {
            holders = ok.seats.holders;
            runners = ok.seats.runners;
            takers = λ t i. with-each y.taker j.task (Some id) t (λ a. a ≡ Some i → i < length views) (λ same e. let here : id ≡ i = cc in subst (λ k. k < length views) here (seat-inside views id (hand_view opened ran seen looks) at)) (λ else_ e. ok.seats.takers t i e);
          }
          joined-fits left-fits
          (λ o u apart_ another was. same-fits p b b y join_story o (join-rest o apart_ another) u (join-task o another) was)
