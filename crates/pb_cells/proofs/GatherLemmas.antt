-- A hand takes in another hand.
use Rattle.std.proofs.Common.{◌≡◌, ◌∙◌, refl, sym, ap, subst, inl, inr, ◌⊎◌, ⊎_elim, ℕ, ◌<◌, eqb, true, false, List, ◌++◌, length, map, Option, Some, None, set, arith}
use Rattle.std.specs.List.{Contains}
use Rattle.std.proofs.Math.Bool.{cond}
use Rattle.std.proofs.lemmas.Bool.{cases_eq}
use Rattle.std.proofs.lemmas.Bool.Decides.{nat_tests}
use Rattle.std.proofs.lemmas.List.{map-append}
use Rattle.std.proofs.lemmas.List.Elements.{Contains-append_cases, Contains-append_left, Contains-append_right}
use mathlib.Core.Option.{some}
use lib.ListN.{get_elem?}
use Rattle.pb_base.proofs.ListLemmas.{in_none, map_in}
use Rattle.pb_taskgraph.specs.Graphs.{EachOnce}
use Rattle.pb_taskgraph.specs.Plans.{IsPlan, Plan}
use Rattle.pb_cells.specs.declared.view.View.{View}
use Rattle.pb_cells.specs.Banks.{Bank}
use Rattle.pb_cells.specs.Stories.{Fits, FitsOpened, FitsRan, HasOpened, IsStory, Keeps, Runs, Story}
use Rattle.pb_cells.specs.Views.{gathered_view, hand_view, no_view}
use Rattle.pb_cells.proofs.CarryLemmas.{SameRest, SameTask, same-fits}
use Rattle.pb_cells.proofs.JoinLemmas.{once-append}
use Rattle.pb_cells.proofs.SeatLemmas.{keeps-same, none-some, seat-inside, seat-joins, some-one}

-- ---- what one seat has taken in another one has
module _ (id other : ℕ) where
  abbrev pub moved : Option ℕ → Option ℕ
  moved None = None
  moved (Some o) = cond (eqb o other) (Some id) (Some o)

  moved-none : (a : Option ℕ) → moved a ≡ None → a ≡ None
  moved-none None e = refl
  moved-none (Some o) e = ⊎_elim
      (λ (same : o ≡ other). absurd (let is : eqb o other ≡ true = grind (arith, nat_tests) in none-some (Some id) id (sym (ap (λ b. cond b (Some id) (Some o)) is) ∙ e) refl))
      (λ (apart : o ≡ other → ⊥). absurd (let is : eqb o other ≡ false = grind (arith, nat_tests) in none-some (Some o) o (sym (ap (λ b. cond b (Some id) (Some o)) is) ∙ e) refl))
      (cases_eq o other)

  moved-stays : (a : Option ℕ) (o : ℕ) → (o ≡ other → ⊥) → a ≡ Some o → moved a ≡ Some o
  moved-stays a o apart e = ap moved e ∙ (let is : eqb o other ≡ false = grind (arith, nat_tests) in ap (λ b. cond b (Some id) (Some o)) is)

  moved-goes : (a : Option ℕ) → a ≡ Some other → moved a ≡ Some id
  moved-goes a e = ap moved e ∙ (let is : eqb other other ≡ true = grind (arith, nat_tests) in ap (λ b. cond b (Some id) (Some other)) is)

  moved-back : (a : Option ℕ) (o : ℕ) → moved a ≡ Some o → ((a ≡ Some o) × (o ≡ other → ⊥)) ⊎ ((a ≡ Some other) × (o ≡ id))
  moved-back None o e = absurd (none-some None o refl e)
  moved-back (Some x) o e = ⊎_elim
      (λ (same : x ≡ other). let is : eqb x other ≡ true = grind (arith, nat_tests) in
      let there : Some id ≡ Some o = sym (ap (λ b. cond b (Some id) (Some x)) is) ∙ e in inr (ap (λ k. Some k) same, some-one (Some o) o id refl (sym there)))
      (λ (apart : x ≡ other → ⊥). let is : eqb x other ≡ false = grind (arith, nat_tests) in
      let there : Some x ≡ Some o = sym (ap (λ b. cond b (Some id) (Some x)) is) ∙ e in inl (there, λ f. apart (some-one (Some o) x o (sym there) refl ∙ f)))
      (cases_eq x other)

module _ (p : Plan) (is : IsPlan p) (b : Bank) (views : List View) (y : Story) (ok : IsStory p b views y) (id : ℕ) (opened : List ℕ) (ran : List (ℕ × ℕ)) (seen looks : ℕ) (at : get_elem? views id ≡ some (hand_view opened ran seen looks))
    (other : ℕ) (more : List ℕ) (done : List (ℕ × ℕ)) (saw looked : ℕ) (apart : other ≡ id → ⊥) (there : get_elem? views other ≡ some (hand_view more done saw looked)) where
  abbrev own : Fits p b y id (hand_view opened ran seen looks)
  own = ok.fits id (hand_view opened ran seen looks) at

  abbrev theirs : Fits p b y other (hand_view more done saw looked)
  theirs = ok.fits other (hand_view more done saw looked) there

  abbrev pub gather_story : Story
  gather_story = record y { taker = λ t. moved id other (y.taker t) }

  not-other : id ≡ other → ⊥
  not-other same = apart (sym same)

  runs-on : (t o : ℕ) → Runs y.core.runner y.taker t o → Runs y.core.runner gather_story.taker t o
  runs-on t o h = (h.0, ap (moved id other) h.1)

  runs-back : (t o : ℕ) → Runs y.core.runner gather_story.taker t o → Runs y.core.runner y.taker t o
  runs-back t o h = (h.0, moved-none id other (y.taker t) h.1)

  keeps-on : (t o : ℕ) → (o ≡ other → ⊥) → Keeps y.core.runner y.taker t o → Keeps y.core.runner gather_story.taker t o
  keeps-on t o another (inl runs) = inl (runs-on t o runs)
  keeps-on t o another (inr taken) = inr (moved-stays id other (y.taker t) o another taken)

  keeps-back : (t o : ℕ) → (o ≡ id → ⊥) → Keeps y.core.runner gather_story.taker t o → Keeps y.core.runner y.taker t o
  keeps-back t o apart_ (inl runs) = inl (runs-back t o runs)
  keeps-back t o apart_ (inr taken) = ⊎_elim
      (λ (stays : (y.taker t ≡ Some o) × (o ≡ other → ⊥)). inr stays.0)
      (λ (goes : (y.taker t ≡ Some other) × (o ≡ id)). absurd (apart_ goes.1))
      (moved-back id other (y.taker t) o taken)

  -- the other seat has nothing left
  left-none : (t : ℕ) → Keeps y.core.runner gather_story.taker t other → ⊥
  left-none t (inl runs) = theirs.job t (runs-back t other runs)
  left-none t (inr taken) = ⊎_elim
      (λ (stays : (y.taker t ≡ Some other) × (other ≡ other → ⊥)). stays.1 refl)
      (λ (goes : (y.taker t ≡ Some other) × (other ≡ id)). apart goes.1)
      (moved-back id other (y.taker t) other taken)

  gather-task : (o : ℕ) → SameTask p b b y gather_story o
  gather-task o = record {
    runs = λ t h. runs-on t o h;
    back = λ t h. runs-back t o h;
    wrote = λ t h. refl;
    number = λ t h. refl;
    kept = λ t h. refl;
    filed = λ t h. refl;
    released = λ t u h. refl;
    right = λ d was. was;
  }

  gather-rest : (o : ℕ) → (o ≡ id → ⊥) → (o ≡ other → ⊥) → SameRest b b y gather_story o
  gather-rest o apart_ another = record {
    holds = λ t h. h;
    held = λ t h. h;
    opened = λ t h. (h.0, h.1, keeps-on h.0 o another h.2);
    opens = λ t h. (h.0, h.1, keeps-back h.0 o apart_ h.2);
    takes = λ t h. moved-stays id other (y.taker t) o another h;
    taken = λ t h. ⊎_elim
        (λ (stays : (y.taker t ≡ Some o) × (o ≡ other → ⊥)). stays.0)
        (λ (goes : (y.taker t ≡ Some other) × (o ≡ id)). absurd (apart_ goes.1))
        (moved-back id other (y.taker t) o h);
    ended = λ t h. refl;
    more = omega arith;
  }

  left-fits : Fits p b gather_story other no_view
  left-fits = record {
    job = λ t h. theirs.job t (runs-back t other h);
    turns = theirs.turns;
    opened = record { each = λ t. (λ h. absurd (in_none t h), λ h. absurd (left-none h.0 h.2)); once = theirs.turns.once };
    left = tt;
    ran = record { each = λ t n. (λ h. absurd (in_none (t, n) h), λ h. absurd (left-none t (inr h.0))); once = theirs.turns.once };
    seen = omega arith;
  }

  gathered-back : (t : ℕ) → HasOpened gather_story t id → Contains (opened ++ more) t
  gathered-back t (u, opener, inl runs) = Contains-append_left opened more t ((own.opened.each t).1 (u, opener, inl (runs-back u id runs)))
  gathered-back t (u, opener, inr taken) = ⊎_elim
      (λ (stays : (y.taker u ≡ Some id) × (id ≡ other → ⊥)). Contains-append_left opened more t ((own.opened.each t).1 (u, opener, inr stays.0)))
      (λ (goes : (y.taker u ≡ Some other) × (id ≡ id)). Contains-append_right opened more t ((theirs.opened.each t).1 (u, opener, inr goes.0)))
      (moved-back id other (y.taker u) id taken)

  theirs-on : (u : ℕ) → Keeps y.core.runner y.taker u other → Keeps y.core.runner gather_story.taker u id
  theirs-on u (inl runs) = absurd (theirs.job u runs)
  theirs-on u (inr taken) = inr (moved-goes id other (y.taker u) taken)

  gathered-opened : FitsOpened gather_story id (opened ++ more)
  gathered-opened = record {
    each = λ t. (
      λ h. elim (Contains-append_cases opened more t h) [
        | inl mine ↦ let was = (own.opened.each t).0 mine in (was.0, was.1, keeps-on was.0 id not-other was.2)
        | inr new ↦ let was = (theirs.opened.each t).0 new in (was.0, was.1, theirs-on was.0 was.2)
      ],
      λ h. gathered-back t h,
    );
    once = once-append opened more own.opened.once theirs.opened.once (λ t mine new.
        let first = (own.opened.each t).0 mine in
        let second = (theirs.opened.each t).0 new in
        apart (keeps-same y.core.runner y.taker second.0 id other (subst (λ u. Keeps y.core.runner y.taker u id) (some-one (y.opener t) first.0 second.0 first.1 second.1) first.2) second.2));
  }

  gathered-ran : FitsRan gather_story.taker y.core.number id (ran ++ done)
  gathered-ran = record {
    each = λ t n. (
      λ h. elim (Contains-append_cases ran done (t, n) h) [
        | inl mine ↦ let was = (own.ran.each t n).0 mine in (moved-stays id other (y.taker t) id not-other was.0, was.1)
        | inr new ↦ let was = (theirs.ran.each t n).0 new in (moved-goes id other (y.taker t) was.0, was.1)
      ],
      λ h. ⊎_elim
          (λ (stays : (y.taker t ≡ Some id) × (id ≡ other → ⊥)). Contains-append_left ran done (t, n) ((own.ran.each t n).1 (stays.0, h.1)))
          (λ (goes : (y.taker t ≡ Some other) × (id ≡ id)). Contains-append_right ran done (t, n) ((theirs.ran.each t n).1 (goes.0, h.1)))
          (moved-back id other (y.taker t) id h.0),
    );
    once = subst EachOnce (sym (map-append (λ (e : ℕ × ℕ). e.0) ran done)) (once-append (map (λ e. e.0) ran) (map (λ e. e.0) done) own.ran.once theirs.ran.once (λ t mine new.
        let first = map_in (λ (e : ℕ × ℕ). e.0) ran t mine in
        let second = map_in (λ (e : ℕ × ℕ). e.0) done t new in
        apart (some-one (y.taker t) other id (ap y.taker (sym second.2) ∙ ((theirs.ran.each second.0.0 second.0.1).0 second.1).0) (ap y.taker (sym first.2) ∙ ((own.ran.each first.0.0 first.0.1).0 first.1).0))));
  }

  pub gather-keeps : IsStory p b (set (set views id (gathered_view (hand_view opened ran seen looks) (hand_view more done saw looked))) other no_view) gather_story
  gather-keeps = seat-joins p b views y ok id (hand_view opened ran seen looks) other (hand_view more done saw looked) at apart there gather_story (gathered_view (hand_view opened ran seen looks) (hand_view more done saw looked)) no_view
      record {
        sound = ok.tells.sound;
        counts = ok.tells.counts;
        finish = ok.tells.finish;
        cells = ok.tells.cells;
        order = ok.tells.order;
        unbegun = ok.tells.unbegun;
        opened = ok.tells.opened;
        opens = ok.tells.opens;
        taken = λ t o h. ⊎_elim
            (λ (stays : (y.taker t ≡ Some o) × (o ≡ other → ⊥)). ok.tells.taken t o stays.0)
            (λ (goes : (y.taker t ≡ Some other) × (o ≡ id)). ok.tells.taken t other goes.0)
            (moved-back id other (y.taker t) o h);
        numbers = ok.tells.numbers;
      }
      record {
        holders = ok.seats.holders;
        runners = ok.seats.runners;
        takers = λ t i h. ⊎_elim
            (λ (stays : (y.taker t ≡ Some i) × (i ≡ other → ⊥)). ok.seats.takers t i stays.0)
            (λ (goes : (y.taker t ≡ Some other) × (i ≡ id)). subst (λ k. k < length views) (sym goes.1) (seat-inside views id (hand_view opened ran seen looks) at))
            (moved-back id other (y.taker t) i h);
      }
      record {
        job = λ t h. own.job t (runs-back t id h);
        turns = own.turns;
        opened = gathered-opened;
        left = tt;
        ran = gathered-ran;
        seen = let first = own.seen in let second = theirs.seen in omega arith;
      }
      left-fits
      (λ o u apart_ another was. same-fits p b b y gather_story o (gather-rest o apart_ another) u (gather-task o) was)
