-- A seat releases a successor of its finished task.
use Rattle.std.proofs.Common.{◌≡◌, ◌∙◌, refl, sym, ap, subst, inl, inr, ⊎_elim, ℕ, zero, suc, ◌-◌, ◌<◌, eqb, Bool, true, false, List, [], ◌∷◌, ◌++◌, length, Option, Some, None, IsSome, set, arith}
use Rattle.std.specs.List.{Contains}
use Rattle.std.proofs.Math.Bool.{cond}
use Rattle.std.proofs.lemmas.Bool.{cases_eq}
use Rattle.std.proofs.lemmas.Bool.Decides.{nat_tests}
use Rattle.std.proofs.lemmas.List.Elements.{Contains-append_left, Contains-push, Contains-push_cases}
use mathlib.Core.Option.{some}
use lib.ListN.{get_elem?}
use Rattle.pb_base.proofs.ListLemmas.{in_cases, in_head, in_none, in_tail}
use Rattle.pb_taskgraph.specs.Graphs.{EachOnce, after_of, before_of}
use Rattle.pb_taskgraph.specs.Plans.{IsPlan, Plan}
use Rattle.pb_core.specs.declared.event.Event.TheVariants.{Release}
use Rattle.pb_core.specs.States.{happens, holder_at, with}
use Rattle.pb_core.proofs.CountLemmas.{once-head, once-rest, one-more}
use Rattle.pb_core.proofs.KeepLemmas.{keeps}
use Rattle.pb_core.proofs.WithLemmas.{some-of, with-each, with-other, with-same}
use Rattle.pb_cells.specs.declared.view.TaskView.{TaskView}
use Rattle.pb_cells.specs.declared.view.View.{View}
use Rattle.pb_cells.specs.Banks.{Bank}
use Rattle.pb_cells.specs.Stories.{Fits, FitsOpened, FitsTask, FitsTurns, HasOpened, HoldsTurn, IsStory, Keeps, Story, is_listed}
use Rattle.pb_cells.specs.Views.{after_release, job_view, released_view, with_opened}
use Rattle.pb_cells.proofs.CarryLemmas.{SameRest, SameTask, same-fits}
use Rattle.pb_cells.proofs.SeatLemmas.{keeps-same, none-some, seat-inside, seat-steps, some-one, with-both}
use Rattle.pb_cells.proofs.TaskLemmas.{before-next, next-below, next-free, next-unbegun, next-unopened, next-waits}

-- ---- who holds what a release opens
at-none : (n id : ℕ) (old : Option ℕ) → n ≡ 0 → holder_at n id old ≡ Some id
at-none zero id old e = refl
at-none (suc n) id old e = absurd (omega arith)

at-more : (n id : ℕ) (old : Option ℕ) → (n ≡ 0 → ⊥) → holder_at n id old ≡ old
at-more zero id old e = absurd (e refl)
at-more (suc n) id old e = refl

at-seat : (n id o : ℕ) (old : Option ℕ) → old ≡ None → holder_at n id old ≡ Some o → (n ≡ 0) × (o ≡ id)
at-seat zero id o old empty e = let same : Some id ≡ Some o = e in (refl, cc)
at-seat (suc n) id o old empty e = absurd (none-some old o empty e)

pub once-push : (xs : List ℕ) (x : ℕ) → EachOnce xs → (Contains xs x → ⊥) → EachOnce (xs ++ x ∷ [])
once-push [] x once never = one-more x [] once never
once-push (y ∷ ys) x once never = one-more y (ys ++ x ∷ []) (once-push ys x (once-rest y ys once) (λ h. never (in_tail y x ys h))) (λ h. elim (Contains-push_cases ys x y h) [
  | inl there ↦ once-head y ys once there
  | inr same ↦ never (subst (Contains (y ∷ ys)) (sym same) (in_head y ys))
])

opened-one : (found next : ℕ) (tasks : List ℕ) → found ≡ 1 → with_opened found next tasks ≡ tasks ++ next ∷ []
opened-one found next tasks e = grind (arith, nat_tests)

opened-not : (found next : ℕ) (tasks : List ℕ) → (found ≡ 1 → ⊥) → with_opened found next tasks ≡ tasks
opened-not found next tasks e = grind (arith, nat_tests)

module _ (p : Plan) (is : IsPlan p) (b : Bank) (views : List View) (y : Story) (ok : IsStory p b views y) (id : ℕ) (j : TaskView) (opened : List ℕ) (at : get_elem? views id ≡ some (job_view j opened))
    (n next : ℕ) (ended : j.number ≡ Some n) (after : Contains (after_of p.graph j.task) next) (fresh : is_listed j.released next ≡ false) where
  abbrev own : Fits p b y id (job_view j opened)
  own = ok.fits id (job_view j opened) at

  abbrev fits : FitsTask p b y id j
  fits = own.job

  pub owed : y.core.released j.task next ≡ false
  owed = fits.released next ∙ fresh

  abbrev left : ℕ
  left = y.core.count next - 1

  abbrev pub release_bank : Bank
  release_bank = record b { count = with b.count next (b.count next - 1) }

  abbrev pub release_story : Story
  release_story = record y { core = happens p y.core (Release id j.task next); opener = with y.opener next (holder_at (y.core.count next - 1) j.task (y.opener next)) }

  pub count-is : b.count next ≡ y.core.count next
  count-is = ok.tells.counts next (next-below p is b y ok.tells j.task next after owed)

  pub count-waits : y.core.count next ≡ 0 → ⊥
  count-waits = next-waits p is b y ok.tells j.task next after owed

  free : y.core.holder next ≡ None
  free = next-free p is b y ok.tells j.task next after owed

  unopened : y.opener next ≡ None
  unopened = next-unopened p is b y ok.tells j.task next after owed

  opened-on : (t o : ℕ) → HasOpened y t o → HasOpened release_story t o
  opened-on t o h = (h.0, with-other y.opener next (holder_at left j.task (y.opener next)) t (λ same. none-some (y.opener t) h.0 (ap y.opener same ∙ unopened) h.1) ∙ h.1, h.2)

  release-rest : (o : ℕ) → (o ≡ id → ⊥) → SameRest b release_bank y release_story o
  release-rest o apart = record {
    holds = λ t h. (with-other y.core.holder next (holder_at left id (y.core.holder next)) t (λ same. none-some (y.core.holder t) o (ap y.core.holder same ∙ free) h.0) ∙ h.0, h.1);
    held = λ t h. (
      with-each y.core.holder next (holder_at left id (y.core.holder next)) t (λ a. a ≡ Some o → y.core.holder t ≡ Some o)
          (λ same e. absurd (apart (at-seat left id o (y.core.holder next) free e).1))
          (λ other e. e) h.0,
      h.1,
    );
    opened = λ t h. opened-on t o h;
    opens = λ t h. (
      h.0,
      with-each y.opener next (holder_at left j.task (y.opener next)) t (λ a. a ≡ Some h.0 → y.opener t ≡ Some h.0)
          (λ same e. absurd (apart (keeps-same y.core.runner y.taker j.task id o (inl fits.runs) (subst (λ u. Keeps y.core.runner y.taker u o) (at-seat left j.task h.0 (y.opener next) unopened e).1 h.2))))
          (λ other e. e) h.1,
      h.2,
    );
    takes = λ t h. h;
    taken = λ t h. h;
    ended = λ t h. refl;
    more = omega arith;
  }

  release-task : (o : ℕ) → (o ≡ id → ⊥) → SameTask p b release_bank y release_story o
  release-task o apart = record {
    runs = λ t h. h;
    back = λ t h. h;
    wrote = λ t h. refl;
    number = λ t h. refl;
    kept = λ t h. refl;
    filed = λ t h. refl;
    released = λ t u h. ap (λ (row : ℕ → Bool). row u) (with-other y.core.released j.task (with (y.core.released j.task) next true) t (λ same. apart (some-one (y.core.runner t) o id h.0 (ap y.core.runner same ∙ fits.runs.0))));
    right = λ d was. was;
  }

  -- ---- what the seat knows
  released : FitsTask p release_bank release_story id (after_release next (b.count next - 1) j)
  released = record {
    runs = fits.runs;
    only = fits.only;
    wrote = fits.wrote;
    stored = fits.stored;
    number = fits.number;
    kept = fits.kept;
    filed = fits.filed;
    released = λ u. ap (λ (row : ℕ → Bool). row u) (with-same y.core.released j.task (with (y.core.released j.task) next true) j.task refl) ∙ ap (cond (eqb u next) true) (fits.released u);
  }

  turn-was : (t : ℕ) → (t ≡ next → ⊥) → HoldsTurn release_story.core.holder y.core.runner t id → ⊥
  turn-was t other h = in_none t ((own.turns.each t).1 (sym (with-other y.core.holder next (holder_at left id (y.core.holder next)) t other) ∙ h.0, h.1))

  turns-one : left ≡ 0 → FitsTurns release_story.core.holder y.core.runner id (next ∷ [])
  turns-one e = record {
    each = λ t. (
      λ h. elim (in_cases next t [] h) [
        | inl same ↦ subst (λ u. HoldsTurn release_story.core.holder y.core.runner u id) same
            (with-same y.core.holder next (holder_at left id (y.core.holder next)) next refl ∙ at-none left id (y.core.holder next) e, next-unbegun p is b y ok.tells j.task next after owed)
        | inr never ↦ absurd (in_none t never)
      ],
      λ h. ⊎_elim
          (λ (same : t ≡ next). subst (Contains (next ∷ [])) (sym same) (in_head next []))
          (λ (other : t ≡ next → ⊥). absurd (turn-was t other h))
          (cases_eq t next),
    );
    once = one-more next [] own.turns.once (λ h. in_none next h);
  }

  turns-none : (left ≡ 0 → ⊥) → FitsTurns release_story.core.holder y.core.runner id []
  turns-none e = record {
    each = λ t. (
      λ h. absurd (in_none t h),
      λ h. ⊎_elim
          (λ (same : t ≡ next). absurd (none-some (y.core.holder next) id free (sym (with-same y.core.holder next (holder_at left id (y.core.holder next)) t same ∙ at-more left id (y.core.holder next) e) ∙ h.0)))
          (λ (other : t ≡ next → ⊥). absurd (turn-was t other h))
          (cases_eq t next),
    );
    once = own.turns.once;
  }

  opened-was : (t : ℕ) → (t ≡ next → ⊥) → HasOpened release_story t id → Contains opened t
  opened-was t other h = (own.opened.each t).1 (h.0, sym (with-other y.opener next (holder_at left j.task (y.opener next)) t other) ∙ h.1, h.2)

  never-opened : Contains opened next → ⊥
  never-opened h = let was = (own.opened.each next).0 h in none-some (y.opener next) was.0 unopened was.1

  opened-more : left ≡ 0 → FitsOpened release_story id (opened ++ next ∷ [])
  opened-more e = record {
    each = λ t. (
      λ h. elim (Contains-push_cases opened next t h) [
        | inl there ↦ opened-on t id ((own.opened.each t).0 there)
        | inr same ↦ subst (λ u. HasOpened release_story u id) same (j.task, with-same y.opener next (holder_at left j.task (y.opener next)) next refl ∙ at-none left j.task (y.opener next) e, inl fits.runs)
      ],
      λ h. ⊎_elim
          (λ (same : t ≡ next). subst (Contains (opened ++ next ∷ [])) (sym same) (Contains-push opened next))
          (λ (other : t ≡ next → ⊥). Contains-append_left opened (next ∷ []) t (opened-was t other h))
          (cases_eq t next),
    );
    once = once-push opened next own.opened.once never-opened;
  }

  opened-same : (left ≡ 0 → ⊥) → FitsOpened release_story id opened
  opened-same e = record {
    each = λ t. (
      λ h. opened-on t id ((own.opened.each t).0 h),
      λ h. ⊎_elim
          (λ (same : t ≡ next). absurd (none-some (y.opener next) h.0 unopened (sym (with-same y.opener next (holder_at left j.task (y.opener next)) t same ∙ at-more left j.task (y.opener next) e) ∙ h.1)))
          (λ (other : t ≡ next → ⊥). opened-was t other h)
          (cases_eq t next),
    );
    once = own.opened.once;
  }

  released-fits : Fits p release_bank release_story id (released_view (b.count next) next (job_view j opened))
  released-fits = ⊎_elim
      (λ (one : b.count next ≡ 1). record {
        job = released;
        turns = subst (FitsTurns release_story.core.holder y.core.runner id) (sym (opened-one (b.count next) next [] one)) (turns-one (omega (arith, count-is)));
        opened = subst (FitsOpened release_story id) (sym (opened-one (b.count next) next opened one)) (opened-more (omega (arith, count-is)));
        left = (λ e. subst (λ l. Contains l next) (sym (opened-one (b.count next) next opened one)) (Contains-push opened next), λ h. omega arith);
        ran = own.ran;
        seen = own.seen;
      })
      (λ (more : b.count next ≡ 1 → ⊥). record {
        job = released;
        turns = subst (FitsTurns release_story.core.holder y.core.runner id) (sym (opened-not (b.count next) next [] more)) (turns-none (λ e. more (last e)));
        opened = subst (FitsOpened release_story id) (sym (opened-not (b.count next) next opened more)) (opened-same (λ e. more (last e)));
        left = (
          λ e. absurd (more (last (ap (λ k. k - 1) (sym count-is) ∙ e))),
          λ h. absurd (never-opened (subst (λ l. Contains l next) (opened-not (b.count next) next opened more) h)),
        );
        ran = own.ran;
        seen = own.seen;
      })
      (cases_eq (b.count next) 1)
    where
      last : left ≡ 0 → b.count next ≡ 1
      last e = count-is ∙ one (y.core.count next) e count-waits
        where
          one : (k : ℕ) → k - 1 ≡ 0 → (k ≡ 0 → ⊥) → k ≡ 1
          one zero z waits = absurd (waits refl)
          one (suc k) z waits = omega arith

  pub release-keeps : IsStory p release_bank (set views id (released_view (b.count next) next (job_view j opened))) release_story
  release-keeps = seat-steps p b views y ok id (job_view j opened) at release_bank release_story (released_view (b.count next) next (job_view j opened))
      record {
        sound = keeps p is y.core ok.tells.sound (Release id j.task next) (some-of (y.core.number j.task) n (fits.number ∙ ended), fits.runs.0, after, owed);
        counts = λ t below. with-both b.count y.core.count next (b.count next - 1) left t (λ c d. c ≡ d) (λ same. ap (λ k. k - 1) count-is) (λ other. ok.tells.counts t below);
        finish = ok.tells.finish;
        cells = ok.tells.cells;
        order = ok.tells.order;
        unbegun = ok.tells.unbegun;
        opened = λ t u. with-both y.opener y.core.count next (holder_at left j.task (y.opener next)) left t (λ a c. a ≡ Some u → (c ≡ 0) × Contains (before_of p.graph t) u)
            (λ same e. let there = at-seat left j.task u (y.opener next) unopened e in
            (there.0, subst (λ k. Contains (before_of p.graph k) u) (sym same) (subst (Contains (before_of p.graph next)) (sym there.1) (before-next p is b y ok.tells j.task next after owed))))
            (λ other. ok.tells.opened t u);
        opens = λ t below waits some_before. with-both y.opener y.core.count next (holder_at left j.task (y.opener next)) left t (λ a c. c ≡ 0 → IsSome a)
            (λ same e. some-of (holder_at left j.task (y.opener next)) j.task (at-none left j.task (y.opener next) e))
            (λ other e. ok.tells.opens t below e some_before) waits;
        taken = λ t o h. let was = ok.tells.taken t o h in (
          was.0,
          λ u there. with-each y.core.released j.task (with (y.core.released j.task) next true) t (λ row. row u ≡ true)
              (λ same. with-each (y.core.released j.task) next true u (λ x. x ≡ true) (λ here. refl) (λ other. subst (λ k. y.core.released k u ≡ true) same (was.1 u there)))
              (λ other. was.1 u there),
          was.2,
        );
        numbers = ok.tells.numbers;
      }
      record {
        holders = λ t i. with-each y.core.holder next (holder_at left id (y.core.holder next)) t (λ a. a ≡ Some i → i < length views)
            (λ same e. subst (λ k. k < length views) (sym (at-seat left id i (y.core.holder next) free e).1) (seat-inside views id (job_view j opened) at))
            (λ other. ok.seats.holders t i);
        runners = ok.seats.runners;
        takers = ok.seats.takers;
      }
      released-fits
      (λ o u apart was. same-fits p b release_bank y release_story o (release-rest o apart) u (release-task o apart) was)
