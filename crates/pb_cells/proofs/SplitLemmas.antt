-- A seat gives a turn, or nothing, to a new seat.
use Rattle.std.proofs.Common.{◌≡◌, ◌∙◌, refl, sym, ap, subst, inl, inr, ⊎_elim, ℕ, ◌+◌, ◌<◌, true, false, List, [], ◌∷◌, ◌++◌, length, Option, Some, None, set, arith}
use Rattle.std.specs.List.{Contains}
use Rattle.std.proofs.lemmas.Bool.{cases_eq}
use mathlib.Core.Option.{some}
use lib.ListN.{get_elem?}
use Rattle.pb_base.proofs.ListLemmas.{in_cases, in_head, in_none, in_tail}
use Rattle.pb_taskgraph.specs.Graphs.{EachOnce}
use Rattle.pb_taskgraph.specs.Plans.{IsPlan, Plan}
use Rattle.pb_core.specs.declared.event.Event.TheVariants.{Give, Start}
use Rattle.pb_core.specs.States.{State, happens, with}
use Rattle.pb_core.proofs.CountLemmas.{once-head, once-rest}
use Rattle.pb_core.proofs.KeepLemmas.{finished-before, keeps}
use Rattle.pb_core.proofs.ListedLemmas.{not-true}
use Rattle.pb_core.proofs.WithLemmas.{none-of, not-none, of-some, with-each, with-other, with-same}
use Rattle.pb_cells.specs.declared.view.View.{View}
use Rattle.pb_cells.specs.Banks.{Bank}
use Rattle.pb_cells.specs.Stories.{Fits, FitsTask, FitsTurns, HasOpened, HoldsTurn, IsStory, Keeps, Story, is_listed}
use Rattle.pb_cells.specs.Views.{job_view, no_view, untouched}
use Rattle.pb_cells.proofs.CarryLemmas.{SameRest, SameTask, same-fits, same-job}
use Rattle.pb_cells.proofs.SeatLemmas.{listed-in, none-some, seat-inside, seat-splits, some-one, with-both}

module _ (p : Plan) (is : IsPlan p) (b : Bank) (views : List View) (y : Story) (ok : IsStory p b views y) (id : ℕ) (v : View) (at : get_elem? views id ≡ some v) where
  abbrev own : Fits p b y id v
  own = ok.fits id v at

  abbrev new : ℕ
  new = length views

  inside : id < length views
  inside = seat-inside views id v at

  unknown : (t : ℕ) → Keeps y.core.runner y.taker t new → ⊥
  unknown t (inl runs) = let below = ok.seats.runners t new runs.0 in omega arith
  unknown t (inr taken) = let below = ok.seats.takers t new taken in omega arith

  -- ---- a seat that knows nothing
  new-hand : Fits p b y new no_view
  new-hand = record {
    job = λ t h. absurd (let below = ok.seats.runners t new h.0 in omega arith);
    turns = record { each = λ t. (λ h. absurd (in_none t h), λ h. absurd (let below = ok.seats.holders t new h.0 in omega arith)); once = λ i k below. absurd (omega arith) };
    opened = record { each = λ t. (λ h. absurd (in_none t h), λ h. absurd (unknown h.0 h.2)); once = λ i k below. absurd (omega arith) };
    left = tt;
    ran = record { each = λ t n. (λ h. absurd (in_none (t, n) h), λ h. absurd (let below = ok.seats.takers t new h.0 in omega arith)); once = λ i k below. absurd (omega arith) };
    seen = omega arith;
  }

  pub hand-keeps : IsStory p b (set views id v ++ no_view ∷ []) y
  hand-keeps = seat-splits p b views y ok id v at b y v no_view ok.tells
      record {
        holders = λ t i h. let below = ok.seats.holders t i h in omega arith;
        runners = λ t i h. let below = ok.seats.runners t i h in omega arith;
        takers = λ t i h. let below = ok.seats.takers t i h in omega arith;
      }
      own new-hand (λ o u apart there was. was)

  -- ---- a turn
  module _ (t : ℕ) (ts : List ℕ) (turns : v.turns ≡ t ∷ ts) where
    turn : HoldsTurn y.core.holder y.core.runner t id
    turn = (own.turns.each t).0 (subst (λ l. Contains l t) (sym turns) (in_head t ts))

    abbrev pub given : State
    given = happens p y.core (Give id (length views) t)

    abbrev pub split_story : Story
    split_story = record y { core = happens p (happens p y.core (Give id (length views) t)) (Start (length views) t) }

    abbrev holder : ℕ → Option ℕ
    holder = with y.core.holder t (Some new)

    abbrev runner : ℕ → Option ℕ
    runner = with y.core.runner t (Some new)

    not-new : (o : ℕ) → o < length views → Some new ≡ Some o → ⊥
    not-new o there e = let same : new ≡ o = cc in omega arith

    begun-other : (u o : ℕ) → y.core.runner u ≡ Some o → u ≡ t → ⊥
    begun-other u o h same = none-some (y.core.runner t) o turn.1 (ap y.core.runner (sym same) ∙ h)

    split-task : (o : ℕ) → o < length views → SameTask p b b y split_story o
    split-task o there = record {
      runs = λ u h. (with-other y.core.runner t (Some new) u (begun-other u o h.0) ∙ h.0, h.1);
      back = λ u h. (with-each y.core.runner t (Some new) u (λ a. a ≡ Some o → y.core.runner u ≡ Some o) (λ same e. absurd (not-new o there e)) (λ other e. e) h.0, h.1);
      wrote = λ u h. refl;
      number = λ u h. refl;
      kept = λ u h. refl;
      filed = λ u h. refl;
      released = λ u w h. refl;
      right = λ d was. was;
    }

    held-back : (u o : ℕ) → o < length views → HoldsTurn holder runner u o → (u ≡ t → ⊥) × HoldsTurn y.core.holder y.core.runner u o
    held-back u o there h = let other : u ≡ t → ⊥ = λ same. not-new o there (sym (with-same y.core.holder t (Some new) u same) ∙ h.0) in
        (other, (sym (with-other y.core.holder t (Some new) u other) ∙ h.0, sym (with-other y.core.runner t (Some new) u other) ∙ h.1))

    held-on : (u o : ℕ) → (u ≡ t → ⊥) → HoldsTurn y.core.holder y.core.runner u o → HoldsTurn holder runner u o
    held-on u o other h = (with-other y.core.holder t (Some new) u other ∙ h.0, with-other y.core.runner t (Some new) u other ∙ h.1)

    keeps-on : (u o : ℕ) → o < length views → Keeps y.core.runner y.taker u o → Keeps runner y.taker u o
    keeps-on u o there (inl runs) = inl ((split-task o there).runs u runs)
    keeps-on u o there (inr taken) = inr taken

    keeps-back : (u o : ℕ) → o < length views → Keeps runner y.taker u o → Keeps y.core.runner y.taker u o
    keeps-back u o there (inl runs) = inl ((split-task o there).back u runs)
    keeps-back u o there (inr taken) = inr taken

    opened-on : (u o : ℕ) → o < length views → HasOpened y u o → HasOpened split_story u o
    opened-on u o there h = (h.0, h.1, keeps-on h.0 o there h.2)

    opened-back : (u o : ℕ) → o < length views → HasOpened split_story u o → HasOpened y u o
    opened-back u o there h = (h.0, h.1, keeps-back h.0 o there h.2)

    split-rest : (o : ℕ) → (o ≡ id → ⊥) → o < length views → SameRest b b y split_story o
    split-rest o apart there = record {
      holds = λ u h. held-on u o (λ same. apart (some-one (y.core.holder u) o id h.0 (ap y.core.holder same ∙ turn.0))) h;
      held = λ u h. (held-back u o there h).1;
      opened = λ u h. opened-on u o there h;
      opens = λ u h. opened-back u o there h;
      takes = λ u h. h;
      taken = λ u h. h;
      ended = λ u h. refl;
      more = omega arith;
    }

    left-turns : FitsTurns holder runner id ts
    left-turns = record {
      each = λ u. (
        λ h. held-on u id (λ same. once-head t ts once (subst (Contains ts) same h)) ((own.turns.each u).0 (subst (λ l. Contains l u) (sym turns) (in_tail t u ts h))),
        λ h. let was = held-back u id inside h in elim (in_cases t u ts (subst (λ l. Contains l u) turns ((own.turns.each u).1 was.1))) [
          | inl same ↦ absurd (was.0 (sym same))
          | inr later ↦ later
        ],
      );
      once = once-rest t ts once;
    }
      where
        once : EachOnce (t ∷ ts)
        once = subst EachOnce turns own.turns.once

    left-fits : Fits p b split_story id (record v { turns = ts })
    left-fits = record {
      job = same-job p b b y split_story id v.job (split-task id inside) own.job;
      turns = left-turns;
      opened = record { each = λ u. (λ h. opened-on u id inside ((own.opened.each u).0 h), λ h. (own.opened.each u).1 (opened-back u id inside h)); once = own.opened.once };
      left = own.left;
      ran = own.ran;
      seen = own.seen;
    }

    unfinished : y.core.number t ≡ None
    unfinished = none-of (y.core.number t) (λ there. not-none (y.core.runner t) turn.1 (ok.tells.sound.held.ended t there))

    unkept : y.kept t ≡ false
    unkept = not-true (y.kept t) (λ e. none-some (y.core.number t) (b.number t) unfinished (ok.tells.numbers.stored t e))

    new-task : FitsTask p b split_story new (untouched t)
    new-task = record {
      runs = (with-same y.core.runner t (Some new) t refl, none-of (y.taker t) (λ there. let taker = of-some (y.taker t) there in not-none (y.core.number t) unfinished (ok.tells.taken t taker.0 taker.1).0));
      only = λ u h. with-each y.core.runner t (Some new) u (λ a. a ≡ Some new → u ≡ t) (λ same e. same) (λ other e. absurd (let below = ok.seats.runners u new e in omega arith)) h.0;
      wrote = (ok.tells.unbegun t turn.1).0;
      stored = λ e. let wrong : false ≡ true = e in absurd (cc);
      number = unfinished;
      kept = unkept;
      filed = not-true (is_listed y.filed t) (λ e. let wrong : false ≡ true = sym unkept ∙ ok.tells.numbers.kept t (listed-in y.filed t e) in cc);
      released = λ u. not-true (y.core.released t u) (λ e. not-none (y.core.number t) unfinished (ok.tells.sound.counts.releases t u e));
    }

    new-fits : Fits p b split_story new (job_view (untouched t) [])
    new-fits = record {
      job = new-task;
      turns = record { each = λ u. (λ h. absurd (in_none u h), λ h. absurd (new-turn u h)); once = λ i k below. absurd (omega arith) };
      opened = record { each = λ u. (λ h. absurd (in_none u h), λ h. absurd (new-opened u h)); once = λ i k below. absurd (omega arith) };
      left = tt;
      ran = new-hand.ran;
      seen = omega arith;
    }
      where
        -- its task hasn't released any
        new-opened : (u : ℕ) → HasOpened split_story u new → ⊥
        new-opened u (w, opener, inl runs) = with-each y.core.runner t (Some new) w (λ a. a ≡ Some new → ⊥)
            (λ same e. let told = ok.tells.opened u w opener in not-none (y.core.number w) (ap y.core.number same ∙ unfinished) (finished-before p is y.core ok.tells.sound u w told.0 told.1))
            (λ other e. let below = ok.seats.runners w new e in omega arith)
            runs.0
        new-opened u (w, opener, inr taken) = let below = ok.seats.takers w new taken in omega arith

        new-turn : (u : ℕ) → HoldsTurn holder runner u new → ⊥
        new-turn u h = ⊎_elim
            (λ (same : u ≡ t). none-some (runner u) new h.1 (with-same y.core.runner t (Some new) u same))
            (λ (other : u ≡ t → ⊥). let below = ok.seats.holders u new (sym (with-other y.core.holder t (Some new) u other) ∙ h.0) in omega arith)
            (cases_eq u t)

    pub turn-keeps : IsStory p b (set views id (record v { turns = ts }) ++ job_view (untouched t) [] ∷ []) split_story
    turn-keeps = seat-splits p b views y ok id v at b split_story (record v { turns = ts }) (job_view (untouched t) [])
        record {
          sound = keeps p is given (keeps p is y.core ok.tells.sound (Give id new t) (turn.0, turn.1, (ok.tells.unbegun t turn.1).1)) (Start new t)
              (with-same y.core.holder t (Some new) t refl, turn.1);
          counts = ok.tells.counts;
          finish = ok.tells.finish;
          cells = ok.tells.cells;
          order = ok.tells.order;
          unbegun = λ u. with-both y.core.runner y.core.given t (Some new) true u (λ a c. a ≡ None → (y.wrote u ≡ 0) × (c ≡ false))
              (λ same e. absurd (none-some (Some new) new e refl))
              (λ other e. ok.tells.unbegun u e);
          opened = ok.tells.opened;
          opens = ok.tells.opens;
          taken = ok.tells.taken;
          numbers = ok.tells.numbers;
        }
        record {
          holders = λ u i. with-each y.core.holder t (Some new) u (λ a. a ≡ Some i → i < length views + 1) (λ same e. let here : new ≡ i = cc in omega arith) (λ other e. let below = ok.seats.holders u i e in omega arith);
          runners = λ u i. with-each y.core.runner t (Some new) u (λ a. a ≡ Some i → i < length views + 1) (λ same e. let here : new ≡ i = cc in omega arith) (λ other e. let below = ok.seats.runners u i e in omega arith);
          takers = λ u i h. let below = ok.seats.takers u i h in omega arith;
        }
        left-fits new-fits
        (λ o u apart there was. same-fits p b b y split_story o (split-rest o apart there) u (split-task o there) was)
