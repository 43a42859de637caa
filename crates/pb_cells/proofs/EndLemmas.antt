-- What the words of a table tell in which all tasks are filed.
use Rattle.std.proofs.Common.{◌≡◌, ◌∙◌, sym, ap, subst, ◌⊎◌, ⊎_elim, ℕ, zero, suc, ◌+◌, ◌<◌, ◌≤◌, List, [], ◌∷◌, ◌++◌, length, length-set, get_or, slice_get, slice_set, pos, Some, IsSome, zero-add, arith}
use Rattle.std.specs.List.{Contains}
use Rattle.std.proofs.lemmas.Bool.{cases_eq, cases_lt}
use Rattle.std.proofs.lemmas.List.{ext_get_or, get_or-set_other, get_or-set_same}
use Rattle.std.proofs.lemmas.List.Elements.{Contains-append_left, Contains-append_right, Contains-push_cases}
use Rattle.std.proofs.lemmas.List.FromFn.{get_or-map-range_with_len, length-map-range_with_len}
use Rattle.std.proofs.lemmas.Option.{get_or_from_slice_get, slice_get-get_or}
use mathlib.Core.Option.{some, some-injective, some-ne-none}
use lib.ListN.{get_elem?}
use Rattle.atomic_table.specs.Table.{Final, Seen}
use Rattle.pb_values.specs.declared.outcome.Outcome.{Outcome}
use Rattle.pb_values.specs.declared.outcome.Outcome.TheVariants.{Value}
use Rattle.pb_taskgraph.specs.Orders.{IsLawful}
use Rattle.pb_taskgraph.specs.Plans.{IsPlan, Plan, outcome_at}
use Rattle.pb_taskgraph.proofs.PlanLemmas.{outcome-small}
use Rattle.pb_core.specs.Events.{AllFinished, by_number, task_numbered}
use Rattle.pb_core.proofs.FinishLemmas.{finished-all}
use Rattle.pb_core.proofs.OrderLemmas.{is-task, lawful-order, numbered-is}
use Rattle.pb_core.proofs.WithLemmas.{some-of}
use Rattle.pb_cells.specs.declared.view.View.{View}
use Rattle.pb_cells.specs.Banks.{Bank, bank_of, number_at, width}
use Rattle.pb_cells.specs.Ends.{AreLast, HasItsNumbers, Knows, StandByNumber}
use Rattle.pb_cells.specs.Handles.{HandValue, gathered}
use Rattle.pb_cells.specs.Steps.{Me}
use Rattle.pb_cells.specs.Stories.{Holds, Story, Tells}
use Rattle.pb_cells.specs.Views.{hand_view}
use Rattle.pb_cells.specs.Words.{mark_of, outcome_in, word_of}
use Rattle.pb_cells.proofs.BankLemmas.{get-mark, get-number, get-value}
use Rattle.pb_cells.proofs.FinishLemmas.{filed-all, filed-few, filed-number}
use Rattle.pb_cells.proofs.SeatLemmas.{some-one}
use Rattle.pb_cells.proofs.TaskLemmas.{written-word}
use Rattle.pb_cells.proofs.WordLemmas.{outcome-back}

-- a word that stands at a place
at-word : (xs : List ℕ) (i w : ℕ) → get_elem? xs i ≡ some w → get_or xs i 0 ≡ w
at-word [] i w e = absurd (some-ne-none w (sym e))
at-word (x ∷ xs) zero w e = some-injective x w e
at-word (x ∷ xs) (suc i) w e = at-word xs i w e

module _ (p : Plan) (is : IsPlan p) (words : List ℕ) (last : AreLast p words) where
  abbrev b : Bank
  b = bank_of p.graph words

  abbrev y : Story
  y = last.holds.story

  tells : Tells p b y
  tells = subst (λ l. Tells p (bank_of p.graph l) y) last.words_are last.holds.is.tells

  pub wide : length words ≡ width p.graph
  wide = ap (λ (l : List ℕ). length l) (sym last.words_are) ∙ last.holds.width

  stored : (t : ℕ) → t < length p.graph.tasks → y.core.number t ≡ Some (b.number t)
  stored t below = filed-number p b y tells t (filed-all p b y tells last.filed t below)

  all : AllFinished p.graph y.core
  all t below = some-of (y.core.number t) (b.number t) (stored t below)

  -- ---- the outcomes
  module _ (c mark word : ℕ) (below : c < p.graph.cells) (is_mark : get_elem? words (p.graph.cells + c) ≡ some mark) (is_word : get_elem? words c ≡ some word) where
    written : IsSome (y.core.value c)
    written = ⊎_elim
        (λ (input : c < p.graph.inputs). tells.sound.written.inputs c input)
        (λ (made : p.graph.inputs ≤ c). let there = is.graph.partition.some c made below in tells.sound.written.whole there.0 c (all there.0 there.1) there.2)
        (cases_lt c p.graph.inputs)

    pub end-outcome : outcome_in mark word ≡ outcome_at p.solution c
    end-outcome =
        let right = written-word p is b y tells c written in
        let mark_is : mark ≡ mark_of (outcome_at p.solution c) = sym (at-word words (p.graph.cells + c) mark is_mark) ∙ (get-mark p.graph words wide c below ∙ right.0) in
        let word_is : word ≡ word_of (outcome_at p.solution c) = sym (at-word words c word is_word) ∙ (get-value p.graph words wide c below ∙ right.1) in
        (λ i. outcome_in (mark_is i) (word_is i)) ∙ outcome-back (outcome_at p.solution c) (outcome-small p is c below)

  -- ---- the order
  number-below : (t : ℕ) → t < length p.graph.tasks → b.number t < length p.graph.tasks
  number-below t below = omega (arith, tells.sound.numbers.below t (b.number t) (stored t below), finished-all p y.core tells.sound all)

  module _ (t number : ℕ) (below : t < length p.graph.tasks) (found : get_elem? words (number_at p.graph t) ≡ some number) where
    number-is : number ≡ b.number t
    number-is = sym (at-word words (number_at p.graph t) number found) ∙ get-number p.graph words wide t below

    pub end-number : number < length p.graph.tasks
    end-number = omega (arith, number-is, number-below t below)

    -- one task more stands in its place
    pub stand-more : (order : List ℕ) → length order ≡ length p.graph.tasks → StandByNumber p words t order → StandByNumber p words (t + 1) (slice_set order number t)
    stand-more order size before u inside =
        let new = slice_set order number t in
        slice_get-get_or new (b.number u) 0 (omega (arith, size, length-set order number t, number-below u (omega arith))) ∙ ap (λ k. Some k) (⊎_elim
        (λ (same : u ≡ t). ap (λ k. get_or new k 0) (ap b.number same ∙ sym number-is) ∙ (get_or-set_same order number t 0 (omega (arith, size, end-number)) ∙ sym same))
        (λ (other : u ≡ t → ⊥).
        get_or-set_other order number (b.number u) t 0 (λ e. other (tells.sound.numbers.once u t (b.number t) (stored u (omega arith) ∙ ap (λ k. Some k) (e ∙ number-is)) (stored t below)))
        ∙ get_or_from_slice_get order (b.number u) u 0 (before u (omega arith)))
        (cases_eq u t))

  -- so do the tasks that a seat has taken in
  stand-ran : (id : ℕ) (v : View) → get_elem? last.state.views id ≡ some v → (order : List ℕ) → StandByNumber p words (length p.graph.tasks) order → (t n : ℕ) → Contains v.ran (t, n) → slice_get order n ≡ Some t
  stand-ran id v at order stand t n h =
      let told = ((last.holds.is.fits id v at).ran.each t n).0 h in
      let there : t < length p.graph.tasks = is-task p y.core tells.sound t (some-of (y.core.number t) n told.1) in
      ap (slice_get order) (some-one (y.core.number t) n (b.number t) told.1 (stored t there)) ∙ stand t there

  pub stand-lawful : (order : List ℕ) → length order ≡ length p.graph.tasks → StandByNumber p words (length p.graph.tasks) order → IsLawful p.graph order
  stand-lawful order size stand = subst (λ o. IsLawful p.graph o) (sym same) (lawful-order p y.core tells.sound all)
    where
      same : order ≡ by_number p.graph y.core.number y.core.finished
      same = ext_get_or 0 order (by_number p.graph y.core.number y.core.finished)
          (omega (arith, size, length-map-range_with_len (task_numbered y.core.number (length p.graph.tasks)) 0 y.core.finished, finished-all p y.core tells.sound all)) (λ i below.
          let under : i < y.core.finished = omega (arith, size, finished-all p y.core tells.sound all) in
          let at = numbered-is p y.core tells.sound i under in
          let t = task_numbered y.core.number (length p.graph.tasks) i in
          let there : t < length p.graph.tasks = is-task p y.core tells.sound t (some-of (y.core.number t) i at) in
          let place : b.number t ≡ i = some-one (y.core.number t) (b.number t) i (stored t there) at in
          get_or_from_slice_get order i t 0 (ap (slice_get order) (sym place) ∙ stand t there)
          ∙ sym (get_or-map-range_with_len (task_numbered y.core.number (length p.graph.tasks)) 0 y.core.finished i i 0 under (zero-add i)))

-- all cells are told
pub outcomes-all : (p : Plan) → IsPlan p → (outcomes : List Outcome) (k : ℕ) → length outcomes ≡ p.graph.cells → p.graph.cells ≤ k → ((c : ℕ) → c < k → slice_get outcomes c ≡ Some (outcome_at p.solution c)) → outcomes ≡ p.solution
unfolding outcome_at
outcomes-all p is outcomes k size past told =
    ext_get_or (Value (pos 0)) outcomes p.solution (size ∙ sym is.size) (λ c below. get_or_from_slice_get outcomes c (outcome_at p.solution c) (Value (pos 0)) (told c (omega (arith, size))))

-- ---- the Hand that knows all
pub knows-itself : (hand : HandValue) → Knows hand hand
knows-itself hand = record { ran = λ t n h. h; seen = omega arith }

pub gathered-knows : (all other hand : HandValue) → Knows all hand → Knows (gathered all other) hand
gathered-knows all other hand knows = record { ran = λ t n h. Contains-append_left all.ran other.ran (t, n) (knows.ran t n h); seen = let was = knows.seen in omega arith }

pub gathered-other : (all other : HandValue) → Knows (gathered all other) other
gathered-other all other = record { ran = λ t n h. Contains-append_right all.ran other.ran (t, n) h; seen = omega arith }

-- a Hand is one that is left, or another one
pub left-or : (hands rest : List HandValue) (last hand : HandValue) → hands ≡ rest ++ last ∷ [] → Contains hands hand → Contains rest hand ⊎ (last ≡ hand)
left-or hands rest last hand is h = Contains-push_cases rest last hand (subst (λ l. Contains l hand) is h)

-- the words that are left where its seat closes the table
pub last-words : (p : Plan) (id : ℕ) (me : Me) (hand : HandValue) → me ≡ (hand_view hand.opened hand.ran hand.seen hand.looks, []) → length p.graph.tasks ≤ hand.seen
    → (words : List ℕ) (slots : List (Unit {0})) → Final (Seen (Holds p) id me.0) words slots → AreLast p words
last-words p id me hand is seen words slots (s, (holds, at), same, size, values) = record {
  state = s;
  holds = holds;
  words_are = same;
  filed = ap (λ l. (bank_of p.graph l).filed) (sym same)
      ∙ omega (arith, (holds.is.fits id me.0 at).seen, ap (λ (m : Me). m.0.seen) is, seen, filed-few p (bank_of p.graph s.words) holds.story holds.is.tells);
}

-- and an order by the stored numbers has the tasks of its Hand by theirs
pub last-ran : (p : Plan) → IsPlan p → (id : ℕ) (me : Me) (hand : HandValue) → me ≡ (hand_view hand.opened hand.ran hand.seen hand.looks, []) → length p.graph.tasks ≤ hand.seen
    → (words : List ℕ) (slots : List (Unit {0})) → Final (Seen (Holds p) id me.0) words slots → (order : List ℕ) → StandByNumber p words (length p.graph.tasks) order → HasItsNumbers order hand
last-ran p plan id me hand is seen words slots (s, (holds, at), same, size, values) order stand t n h =
    let last : AreLast p words = record { state = s; holds = holds; words_are = same; filed = (last-words p id me hand is seen words slots (s, (holds, at), same, size, values)).filed } in
    stand-ran p plan words last id me.0 at order stand t n (subst (λ l. Contains l (t, n)) (sym (ap (λ (m : Me). m.0.ran) is)) h)
