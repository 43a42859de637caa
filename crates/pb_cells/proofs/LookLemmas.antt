-- What follows of a hand where the rule holds.
use Rattle.std.proofs.Common.{◌≡◌, ap, subst, ⊎_elim, ℕ, ◌<◌, ◌≤◌, eqb, List, length, map, Some, arith}
use Rattle.std.specs.Cmp.{nat_eq_equiv}
use Rattle.std.specs.List.{Contains}
use Rattle.std.proofs.lemmas.Bool.{cases_lt}
use Rattle.std.proofs.lemmas.Bool.Decides.{Decides-eqb, nat_tests}
use Rattle.std.proofs.lemmas.List.{get_or_default, length-map}
use Rattle.std.proofs.lemmas.Map.Keys.{IsDistinct-from_apart}
use Rattle.std.proofs.lemmas.Map.Made.{is_member-Decides, length-le_from_is_member}
use Rattle.pb_base.proofs.ListLemmas.{map_in}
use Rattle.pb_taskgraph.specs.Graphs.{EachOnce, before_of}
use Rattle.pb_taskgraph.specs.Plans.{Plan}
use Rattle.pb_taskgraph.proofs.GraphLemmas.{before-past}
use Rattle.pb_core.proofs.FinishLemmas.{finished-few}
use Rattle.pb_core.proofs.OrderLemmas.{is-task}
use Rattle.pb_core.proofs.WithLemmas.{some-of}
use Rattle.pb_cells.specs.Banks.{Bank, bank_of}
use Rattle.pb_cells.proofs.FinishLemmas.{filed-few}
use Rattle.pb_cells.specs.Steps.{AreTasks, IsFiledCount, IsPast}
use Rattle.pb_cells.specs.Stories.{Fits, Story}
use Rattle.pb_cells.specs.Views.{hand_view}

-- a task with a predecessor is one
pub before-task : (p : Plan) (t : ℕ) → 0 < length (before_of p.graph t) → t < length p.graph.tasks
before-task p t some_before = ⊎_elim
    (λ (inside : t < length p.graph.tasks). inside)
    (λ (past : length p.graph.tasks ≤ t). absurd (let empty = ap (λ (l : List ℕ). length l) (before-past p.graph t past) in omega arith))
    (cases_lt t (length p.graph.tasks))

-- a list each of whose numbers is there once isn't longer than one that has them all
no-more : (xs ys : List ℕ) → EachOnce xs → ((x : ℕ) → Contains xs x → Contains ys x) → length xs ≤ length ys
no-more xs ys once within = length-le_from_is_member nat_eq_equiv xs ys
    (IsDistinct-from_apart eqb xs (λ i j d before inside. grind (arith, nat_tests, once i j (omega arith) inside, get_or_default xs i 0 d (omega arith), get_or_default xs j 0 d inside)))
    (λ q h. (is_member-Decides Decides-eqb ys q).1 (within q ((is_member-Decides Decides-eqb xs q).0 h)))

module _ (p : Plan) (opened : List ℕ) (ran : List (ℕ × ℕ)) (seen looks n : ℕ) (is : IsFiledCount p (hand_view opened ran seen looks) n) where
  abbrev b : Bank
  b = bank_of p.graph is.state.words

  abbrev y : Story
  y = is.holds.story

  abbrev own : Fits p b y is.id (hand_view opened ran seen looks)
  own = is.holds.is.fits is.id (hand_view opened ran seen looks) is.knows

  pub look-few : n ≤ length p.graph.tasks
  look-few = let most = filed-few p b y is.holds.is.tells in omega (arith, is.so)

  number-of : (t m : ℕ) → Contains ran (t, m) → y.core.number t ≡ Some m
  number-of t m h = ((own.ran.each t m).0 h).1

  number-below : (t m : ℕ) → Contains ran (t, m) → m < length p.graph.tasks
  number-below t m h = let most = finished-few p y.core is.holds.is.tells.sound in omega (arith, is.holds.is.tells.sound.numbers.below t m (number-of t m h))

  pub look-tasks : AreTasks p opened ran
  look-tasks = record {
    opened = λ t h.
        let opener = (own.opened.each t).0 h in
        let there = (is.holds.is.tells.opened t opener.0 opener.1).1.1 in
        let some_before : 0 < length (before_of p.graph t) = omega arith in
        (before-task p t some_before, some_before);
    opened_once = own.opened.once;
    ran = λ t m h. (is-task p y.core is.holds.is.tells.sound t (some-of (y.core.number t) m (number-of t m h)), number-below t m h);
    ran_once = own.ran.once;
  }

  -- what was taken in is filed
  pub look-past : IsPast seen ran n
  look-past = record {
    risen = omega (arith, own.seen, is.so);
    many = omega (
      arith,
      is.so,
      is.holds.is.tells.numbers.count_is,
      length-map ran (λ (e : ℕ × ℕ). e.0),
      no-more (map (λ (e : ℕ × ℕ). e.0) ran) y.filed own.ran.once (λ t h.
          let there = map_in (λ (e : ℕ × ℕ). e.0) ran t h in
          subst (Contains y.filed) there.2 (is.holds.is.tells.taken there.0.0 is.id ((own.ran.each there.0.0 there.0.1).0 there.1).0).2),
    );
  }
