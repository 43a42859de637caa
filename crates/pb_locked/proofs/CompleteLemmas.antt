-- A task is completed by Writes, a Finish and Releases.
use Rattle.std.proofs.Common.{◌≡◌, ◌∙◌, refl, sym, ap, subst, ⊎_elim, ℕ, zero, suc, ◌<◌, ◌≤◌, ◌+◌, ◌-◌, ◌*◌, List, [], ◌∷◌, ◌++◌, length, length-append, get_or, map, take, drop, Option, Some, None, IsSome, Result, arith, ◌↔◌, IsTrue, false, true, eqb, pos}
use Rattle.std.proofs.lemmas.Bool.{eq-eqb, eqb-true}
use Rattle.std.specs.List.{Contains, flat_map, range_with_len}
use Rattle.std.proofs.Math.ListN.{drop_of_length-le}
use Rattle.std.proofs.Math.Path.{fun_ext}
use Rattle.std.proofs.lemmas.List.{drop_at, drop_more, get_or-map, length-map, map-append, take_at}
use Rattle.std.proofs.lemmas.List.FromFn.{get_or-map-range_with_len, length-map-range_with_len}
use Rattle.pb_values.specs.declared.outcome.Outcome.{Outcome}
use Rattle.pb_values.specs.declared.outcome.Outcome.TheVariants.{Value}
use Rattle.pb_values.specs.declared.view.View.{View}
use Rattle.pb_values.specs.Views.{cell_of, row_cells, view_cells}
use Rattle.pb_taskgraph.specs.Graphs.{after_of, cells_of}
use Rattle.pb_taskgraph.specs.Plans.{IsPlan, Plan, outcome_at}
use Rattle.pb_taskgraph.specs.declared.limits.TheConstants.{MOST_CELLS}
use Rattle.pb_core.proofs.FinishLemmas.{few}
use Rattle.pb_core.specs.declared.event.Event.{Event}
use Rattle.pb_core.specs.declared.event.Event.TheVariants.{Finish, Write}
use Rattle.pb_core.specs.declared.event.NotEnabled.{NotEnabled}
use Rattle.pb_core.specs.declared.progress.Progress.{Progress}
use Rattle.pb_core.specs.States.{Enabled, State, happens}
use Rattle.pb_core.specs.Events.{AllEnabled, all_happen}
use Rattle.pb_core.specs.Sound.{IsSound}
use Rattle.pb_core.specs.Cores.{CoreValue, Steps, state_of, untouched}
use Rattle.pb_core.proofs.BlockLemmas.{HasWritten, both-happen, writes-done, writes-enabled}
use Rattle.pb_core.proofs.OnceLemmas.{all-early, all-late, all-sound}
use Rattle.pb_core.proofs.StateLemmas.{reached-sound, state-path}
use Rattle.pb_core.proofs.WithLemmas.{none-of, not-none, of-some}
use Rattle.pb_locked.specs.Boards.{HasBegun, IsBoard, completed_by, outcomes_of, releases_by, writes_by}
use Rattle.pb_locked.proofs.BoardLemmas.{begun-task, complete-enabled}
use Rattle.pb_locked.proofs.TakeLemmas.{did}

-- ranges and pieces, one by one
pub range-next : (k n : ℕ) → k < n → range_with_len k (n - k) ≡ k ∷ range_with_len (k + 1) (n - (k + 1))
range-next k n below = let one : n - k ≡ suc (n - (k + 1)) = omega arith in ap (range_with_len k) one

pub range-end : (k n : ℕ) → n ≤ k → range_with_len k (n - k) ≡ []
range-end k n past = let none : n - k ≡ 0 = omega arith in ap (range_with_len k) none

pub drop-end : {A : Type 0} (xs : List A) (k : ℕ) → length xs ≤ k → drop k xs ≡ []
drop-end xs k past = drop_of_length-le xs past

pub row-count : {A : Type 0} (g : ℕ → A) (b n : ℕ) → length (map g (range_with_len b n)) ≡ n
row-count g b n = length-map-range_with_len g b n

rows-count : {A : Type 0} (f : ℕ → ℕ → A) (w a h : ℕ) → length (flat_map (λ y. map (λ x. f x y) (range_with_len 0 w)) (range_with_len a h)) ≡ h * w
rows-count f w a zero = omega arith
rows-count f w a (suc h) =
    omega (arith, length-append (map (λ x. f x a) (range_with_len 0 w)) (flat_map (λ y. map (λ x. f x y) (range_with_len 0 w)) (range_with_len (a + 1) h)), row-count (λ x. f x a) 0 w, rows-count f w (a + 1) h)

-- pieces of lists, from the next one on
pub rows-next : {A : Type 0} (f : ℕ → List A) (k n : ℕ) → k < n → flat_map f (range_with_len k (n - k)) ≡ f k ++ flat_map f (range_with_len (k + 1) (n - (k + 1)))
rows-next f k n below = ap (flat_map f) (range-next k n below)

pub rows-end : {A : Type 0} (f : ℕ → List A) (k n : ℕ) → n ≤ k → flat_map f (range_with_len k (n - k)) ≡ []
rows-end f k n past = ap (flat_map f) (range-end k n past)

pub parts-next : {A B : Type 0} (f : B → List A) (parts : List B) (k : ℕ) (part : B) → k < length parts → part ≡ get_or parts k part → flat_map f (drop k parts) ≡ f part ++ flat_map f (drop (k + 1) parts)
parts-next f parts k part below is = ap (flat_map f) (drop_more parts k part below ∙ ap (λ b. b ∷ drop (k + 1) parts) (sym is))

pub parts-end : {A B : Type 0} (f : B → List A) (parts : List B) (k : ℕ) → length parts ≤ k → flat_map f (drop k parts) ≡ []
parts-end f parts k past = ap (flat_map f) (drop-end parts k past)

-- the writes of a row, from the next one on
pub row-next : (hand : ℕ) (v : View) (y x cell : ℕ) → x < v.shape.w → cell ≡ cell_of v x y
    → writes_by hand (map (λ k. cell_of v k y) (range_with_len x (v.shape.w - x))) ≡ Write hand cell ∷ writes_by hand (map (λ k. cell_of v k y) (range_with_len (x + 1) (v.shape.w - (x + 1))))
row-next hand v y x cell below is =
    ap (λ l. writes_by hand (map (λ k. cell_of v k y) l)) (range-next x v.shape.w below)
    ∙ ap (λ c. Write hand c ∷ writes_by hand (map (λ k. cell_of v k y) (range_with_len (x + 1) (v.shape.w - (x + 1))))) (sym is)

pub row-end : (hand : ℕ) (v : View) (y x : ℕ) → v.shape.w ≤ x → writes_by hand (map (λ k. cell_of v k y) (range_with_len x (v.shape.w - x))) ≡ []
row-end hand v y x past = ap (λ l. writes_by hand (map (λ k. cell_of v k y) l)) (range-end x v.shape.w past)

pub row-length : (v : View) (y : ℕ) → length (row_cells v y) ≡ v.shape.w
row-length v y = row-count (λ x. cell_of v x y) 0 v.shape.w

pub view-length : (v : View) → length (view_cells v) ≡ v.shape.h * v.shape.w
view-length v = rows-count (cell_of v) v.shape.w 0 v.shape.h

module _ (p : Plan) where
  -- the outcomes of a row
  module _ (v : View) (y : ℕ) (values : List Outcome) (are : values ≡ outcomes_of p (row_cells v y)) where
    pub values-length : length values ≡ v.shape.w
    values-length = ap length are ∙ length-map (row_cells v y) (λ c. outcome_at p.solution c) ∙ row-length v y

    pub value-is : (x cell : ℕ) → x < length values → cell ≡ cell_of v x y → get_or values x (Value (pos 0)) ≡ outcome_at p.solution cell
    value-is x cell inside is =
        let below : x < v.shape.w = omega (arith, values-length) in
        let row = row-length v y in
        ap (λ l. get_or l x (Value (pos 0))) are
        ∙ get_or-map (λ c. outcome_at p.solution c) (row_cells v y) x 0 (Value (pos 0)) (omega arith)
        ∙ ap (λ c. outcome_at p.solution c) (get_or-map-range_with_len (λ k. cell_of v k y) 0 v.shape.w x x 0 below (omega arith) ∙ sym is)

  -- events that are still to happen, up to a state
  pub record AreLeft (end s : State) (events : List Event) : Type 0 where
    pub enabled : AllEnabled p s events
    pub ends : all_happen p s events ≡ end

  -- cells that are still to be written, with their outcomes, up to a state
  pub record CellsLeft (end s : State) (hand : ℕ) (values : List Outcome) (cells : List ℕ) : Type 0 where
    pub are : values ≡ outcomes_of p cells
    pub left : AreLeft end s (writes_by hand cells)

  pub left-first : (s : State) (events : List Event) → AllEnabled p s events → AreLeft (all_happen p s events) s events
  left-first s events enabled = record { enabled = enabled; ends = refl }

  module _ (end s : State) where
    -- one happens
    pub left-one : (events : List Event) (e : Event) (es : List Event) → events ≡ e ∷ es → AreLeft end s events
        → (old new : CoreValue) → s ≡ state_of p old → (result : Result (Unit {0}) NotEnabled) → Steps p old e result new → AreLeft end (state_of p new) es
    left-one events e es are left old new is result steps =
        let all : AreLeft end s (e ∷ es) = subst (λ (l : List Event). AreLeft end s l) are left in
        let now : state_of p new ≡ happens p s e = did p old e result new steps (subst (λ (t : State). Enabled p t e) is all.enabled.0) ∙ ap (λ (t : State). happens p t e) (sym is) in
        record {
          enabled = subst (λ (t : State). AllEnabled p t es) (sym now) all.enabled.1;
          ends = ap (λ (t : State). all_happen p t es) now ∙ all.ends;
        }

    pub left-none : (events : List Event) → events ≡ [] → AreLeft end s events → s ≡ end
    left-none events none left = ap (λ (l : List Event). all_happen p s l) (sym none) ∙ left.ends

    module _ (hand : ℕ) (values : List Outcome) (cells own more : List ℕ) (are : cells ≡ own ++ more) (n : ℕ) (size : length own ≡ n) (left : CellsLeft end s hand values cells) where
      two : values ≡ outcomes_of p own ++ outcomes_of p more
      two = left.are ∙ ap (outcomes_of p) are ∙ map-append (λ c. outcome_at p.solution c) own more

      sized : length (outcomes_of p own) ≡ n
      sized = length-map own (λ c. outcome_at p.solution c) ∙ size

      writes : writes_by hand cells ≡ writes_by hand own ++ writes_by hand more
      writes = ap (writes_by hand) are ∙ map-append (λ c. Write hand c) own more

      enabled : AllEnabled p s (writes_by hand own ++ writes_by hand more)
      enabled = subst (λ (l : List Event). AllEnabled p s l) writes left.left.enabled

      pub piece-room : n ≤ length values
      piece-room = let all = ap length two ∙ length-append (outcomes_of p own) (outcomes_of p more) in omega (arith, sized)

      pub piece-values : take n values ≡ outcomes_of p own
      piece-values = ap (take n) two ∙ take_at (outcomes_of p own) (outcomes_of p more) n sized

      pub piece-enabled : AllEnabled p s (writes_by hand own)
      piece-enabled = all-early p (writes_by hand own) (writes_by hand more) s enabled

      pub rest-cells : (now : State) (rest : List Outcome) → now ≡ all_happen p s (writes_by hand own) → rest ≡ drop n values → CellsLeft end now hand rest more
      rest-cells now rest is kept = record {
        are = kept ∙ ap (drop n) two ∙ drop_at (outcomes_of p own) (outcomes_of p more) n sized;
        left = record {
          enabled = subst (λ (t : State). AllEnabled p t (writes_by hand more)) (sym is) (all-late p (writes_by hand own) (writes_by hand more) s enabled);
          ends = ap (λ (t : State). all_happen p t (writes_by hand more)) is ∙ sym (both-happen p (writes_by hand own) (writes_by hand more) s) ∙ ap (λ (l : List Event). all_happen p s l) (sym writes) ∙ left.left.ends;
        };
      }

-- a task has few cells
pub values-few : (p : Plan) → IsPlan p → (t : ℕ) (values : List Outcome) → values ≡ outcomes_of p (cells_of p.graph t) → length values ≤ MOST_CELLS
values-few p is t values are =
    let cells = few (cells_of p.graph t) p.graph.cells (is.graph.partition.once t) (λ c h. (is.graph.partition.past t c h).1) in
    omega (arith, ap length are, length-map (cells_of p.graph t) (λ c. outcome_at p.solution c), is.graph.few_cells)

-- the same outcome, or none
same-option : {X : Type 0} (a b : Option X) (x : X) → (IsSome a → IsSome b) → (IsSome b → IsSome a) → ((y : X) → a ≡ Some y → y ≡ x) → ((y : X) → b ≡ Some y → y ≡ x) → a ≡ b
same-option {X = X} None b x to from left right = sym (none-of b (λ some. not-none {X = X} None refl (from some)))
same-option (Some y) b x to from left right = let there = of-some b (to refl) in ap (λ z. Some z) (left y refl ∙ sym (right there.0 there.1)) ∙ sym there.1

-- the cells of a begun task may be written in another order than its own
module _ (p : Plan) (is : IsPlan p) (s : State) (b : IsBoard p s) (hand t : ℕ) (begun : HasBegun s hand t) where
  sound : IsSound p s
  sound = reached-sound p is s b.reached

  below : t < length p.graph.tasks
  below = begun-task p is s b hand t begun

  abbrev cells : List ℕ
  cells = cells_of p.graph t

  own : (c : ℕ) → Contains (p.order t) c → Contains cells c
  own c = (is.listed t c below).0

  listed : (c : ℕ) → Contains cells c → Contains (p.order t) c
  listed c = (is.listed t c below).1

  pub stores-enabled : AllEnabled p s (writes_by hand cells)
  stores-enabled = writes-enabled p hand t cells s (λ c h. h) (is.graph.partition.once t) begun.0 begun.1 (λ c h. b.empty t c begun.1 h)

  order-enabled : AllEnabled p s (writes_by hand (p.order t))
  order-enabled = writes-enabled p hand t (p.order t) s own (is.once t below) begun.0 begun.1 (λ c h. b.empty t c begun.1 (own c h))

  abbrev s1 : State
  s1 = all_happen p s (writes_by hand cells)

  abbrev s2 : State
  s2 = all_happen p s (writes_by hand (p.order t))

  w1 : HasWritten s s1 cells
  w1 = writes-done p hand cells s

  w2 : HasWritten s s2 (p.order t)
  w2 = writes-done p hand (p.order t) s

  one-sound : IsSound p s1
  one-sound = all-sound p is (writes_by hand cells) s sound stores-enabled

  two-sound : IsSound p s2
  two-sound = all-sound p is (writes_by hand (p.order t)) s sound order-enabled

  value-same : (c : ℕ) → s1.value c ≡ s2.value c
  value-same c = same-option (s1.value c) (s2.value c) (outcome_at p.solution c)
      (λ some. ⊎_elim (λ h. w2.new c (listed c h)) (λ old. w2.kept c old) (w1.was c some))
      (λ some. ⊎_elim (λ h. w1.new c (own c h)) (λ old. w1.kept c old) (w2.was c some))
      (one-sound.written.right c)
      (two-sound.written.right c)

  pub stores-same : s1 ≡ s2
  stores-same = state-path s1 s2 (w1.quiet.count ∙ sym w2.quiet.count) (w1.quiet.holder ∙ sym w2.quiet.holder) (w1.runner ∙ sym w2.runner) (w1.quiet.number ∙ sym w2.quiet.number)
      (w1.quiet.given ∙ sym w2.quiet.given) (w1.quiet.released ∙ sym w2.quiet.released) (fun_ext value-same) (w1.quiet.finished ∙ sym w2.quiet.finished)

  abbrev rest : List Event
  rest = Finish hand t ∷ releases_by hand t (after_of p.graph t)

  rest-enabled : AllEnabled p s2 rest
  rest-enabled = all-late p (writes_by hand (p.order t)) rest s (complete-enabled p is s b hand t begun)

  -- the cells are stored, and the task is finished
  module _ (stored ended : CoreValue) (is-stored : state_of p stored ≡ s1) (result : Result (Unit {0}) NotEnabled) (steps : Steps p stored (Finish hand t) result ended) where
    finished : state_of p ended ≡ happens p s2 (Finish hand t)
    finished =
        let now = is-stored ∙ stores-same in
        did p stored (Finish hand t) result ended steps (subst (λ (x : State). Enabled p x (Finish hand t)) (sym now) rest-enabled.0) ∙ ap (λ (x : State). happens p x (Finish hand t)) now

    pub finish-releases : AllEnabled p (state_of p ended) (releases_by hand t (after_of p.graph t))
    finish-releases = subst (λ (x : State). AllEnabled p x (releases_by hand t (after_of p.graph t))) (sym finished) rest-enabled.1

    pub finish-done : (now : State) → now ≡ all_happen p (state_of p ended) (releases_by hand t (after_of p.graph t)) → now ≡ all_happen p s (completed_by p hand t)
    finish-done now is-now = is-now ∙ ap (λ (x : State). all_happen p x (releases_by hand t (after_of p.graph t))) finished ∙ sym (both-happen p (writes_by hand (p.order t)) rest s)

some-path : (a b : ℕ) → Some a ≡ Some b → a ≡ b
some-path a b e = cc

-- who has begun a task
module _ (runner number found : Option ℕ) (tells : (hand : ℕ) → (found ≡ Some hand) ↔ ((runner ≡ Some hand) × (number ≡ None))) (hand : ℕ) where
  pub begun-some : (beginner : ℕ) → found ≡ Some beginner → IsTrue (eqb beginner hand) ↔ ((runner ≡ Some hand) × (number ≡ None))
  begun-some beginner is = (
    λ same. (tells hand).0 (is ∙ ap (λ k. Some k) (eqb-true beginner hand same)),
    λ begun. eq-eqb beginner hand (some-path beginner hand (sym is ∙ (tells hand).1 begun)),
  )

  pub begun-none : found ≡ None → IsTrue false ↔ ((runner ≡ Some hand) × (number ≡ None))
  begun-none is = (
    λ wrong. let lie : false ≡ true = wrong in absurd (cc),
    λ begun. let wrong : None ≡ Some hand = sym is ∙ (tells hand).1 begun in absurd (cc),
  )

-- a task that a hand has begun, by its progress
module _ (p : Plan) (v : CoreValue) (t : ℕ) (at : Progress) (is : at ≡ get_or v.tasks t untouched) (hand : ℕ) where
  pub at-begun : (at.runner ≡ Some hand) × (at.number ≡ None) → HasBegun (state_of p v) hand t
  unfolding state_of
  at-begun begun = (ap (λ (a : Progress). a.runner) (sym is) ∙ begun.0, ap (λ (a : Progress). a.number) (sym is) ∙ begun.1)

  pub begun-at : HasBegun (state_of p v) hand t → (at.runner ≡ Some hand) × (at.number ≡ None)
  unfolding state_of
  begun-at begun = (ap (λ (a : Progress). a.runner) is ∙ begun.0, ap (λ (a : Progress). a.number) is ∙ begun.1)

-- whoever was begun is a task
pub past-begun : (p : Plan) → IsPlan p → (v self : CoreValue) → v ≡ self → IsBoard p (state_of p v) → (hand t : ℕ) → length p.graph.tasks ≤ t → HasBegun (state_of p self) hand t → ⊥
past-begun p is v self same board hand t past begun =
    let task = begun-task p is (state_of p v) board hand t (subst (λ (w : CoreValue). HasBegun (state_of p w) hand t) (sym same) begun) in
    omega arith
