-- The cells of a line, one after another, by one rule.
use Rattle.std.proofs.Common.{◌≡◌, ◌∙◌, refl, sym, ap, subst, ℕ, ◌+◌, ◌<◌, ◌≤◌, List, [], ◌-◌, ◌∷◌, ◌++◌, length, length-drop, take, drop, Option, slice_get, Some, drop-drop, take-add, arith}
use Rattle.std.specs.Prelude.{slice_index_or}
use Rattle.std.proofs.lemmas.Option.{slice_get_within}
use Rattle.pb_syntax.specs.declared.limits.TheConstants.{MOST_VIEWS}
use Rattle.pb_values.specs.Cells.{Turn}
use Rattle.pb_values.specs.Views.{IsInside, cell_of}
use Rattle.pb_values.specs.declared.outcome.Outcome.{Outcome}
use Rattle.pb_values.specs.declared.view.View.{View}
use Rattle.pb_program.specs.Trees.{ProgRule}
use Rattle.pb_program.specs.declared.rule.RuleKind.TheVariants as kind
use Rattle.pb_program.specs.declared.view.Read.{Read}
use Rattle.pb_model.specs.Equations.{own_outcome}
use Rattle.pb_eval.specs.CanRun.{at_variables}
use Rattle.pb_taskgraph.specs.Turns.{after_some, after_write, with_outcome, with_outcomes}
use Rattle.pb_taskgraph.proofs.TurnLemmas.{as_turn, slice_get-drop, some-more}
use Rattle.pb_views.specs.declared.window.Window.{Window}
use Rattle.pb_walk.specs.Stretches.{IsTaken, place_on}
use Rattle.pb_walk.specs.Walks.{WalkValue}
use Rattle.pb_walk.specs.declared.stop.Stop.{Stop}
use Rattle.pb_walk.specs.declared.stretch.Stretch.{Stretch}
use Rattle.pb_jobs.specs.Advances.{AreWithinAlong}
use Rattle.pb_jobs.specs.Instances.{AreReadsOf, CanRunRule, InstanceValue, IsReady, given_by, of_sizes, of_transform}
use Rattle.pb_jobs.specs.Jobs.{AreMadeHere, IsBlock, IsMadeAlone}
use Rattle.pb_jobs.specs.Shown.{AreShown, AreWindows, CanRun}
use Rattle.pb_jobs.proofs.BlockLemmas.{single}
use Rattle.pb_jobs.proofs.GiveLemmas.{as_many, few, lie_within, rule_below}
use Rattle.pb_jobs.proofs.ListLemmas.{some_same}
use Rattle.pb_jobs.proofs.StepLemmas.{IsAmong, base_there, entry, inside, next_left}

-- ---- some cells, and then some more
with_both : (known : ℕ → Option Outcome) (es fs : List (ℕ × Outcome)) → with_outcomes (with_outcomes known es) fs ≡ with_outcomes known (es ++ fs)
unfolding with_outcomes
with_both known [] fs = refl
with_both known (e ∷ es) fs = with_both (with_outcome known e.0 e.1) es fs

pub some_some : (turn : Turn) (n i : ℕ) → after_some i (after_some n turn) ≡ after_some (n + i) turn
unfolding after_some
some_some turn n i =
    let outcomes = with_both turn.outcomes (take n turn.left) (take i (drop n turn.left)) ∙ ap (with_outcomes turn.outcomes) (sym (take-add n i turn.left)) in
    let left = drop-drop i n turn.left in
    λ j. as_turn turn.task (outcomes j) (left j)

some_left : (turn : Turn) (n i : ℕ) → slice_get (after_some n turn).left i ≡ slice_get turn.left (n + i)
unfolding after_some
some_left turn n i = slice_get-drop n i turn.left

-- ---- the cells of a stretch among those of a block
module _ {v : InstanceValue} {rules : List ℕ} {stops : List Stop} {start turn : Turn} (b : IsBlock v rules stops start) {old new : WalkValue} (a : IsAmong stops start turn old.left) (s : Stretch) (taken : IsTaken old new s) where
  pub first_is : Some (place_on s 0) ≡ slice_get old.left 0
  first_is = sym (taken.places 0 taken.some)

  stop_on : (i : ℕ) → i < s.count → slice_get stops (a.n + i) ≡ Some (place_on s i)
  stop_on i h = sym (slice_get-drop a.n i stops) ∙ ap (λ l. slice_get l i) (sym a.left) ∙ taken.places i h

  turn_on : (i : ℕ) → after_some (a.n + i) start ≡ after_some i turn
  turn_on i = sym (some_some start a.n i) ∙ ap (after_some i) (sym a.now)

  pub made_here : (k : ℕ) → slice_get rules s.piece ≡ Some k → AreMadeHere v k turn s
  made_here k own i h =
      let p = place_on s i in
      let m : IsMadeAlone v rules start (a.n + i) p = b.each (a.n + i) p (stop_on i h) in
      let same : m.k ≡ k = some_same m.k k (sym m.own ∙ own) in
      let later = turn_on i in
      record {
        rule = m.rule;
        there = ap (slice_get (of_transform v).rules) (sym same) ∙ m.there;
        cell = m.cell;
        can = subst (CanRun (of_transform v).matrices (of_sizes v) v.views m.rule p.x p.y) later m.can;
        next = record {
          view = m.next.view;
          at = m.next.at;
          inside = m.next.inside;
          next = ap (λ (u : Turn). slice_get u.left i) a.now ∙ some_left start a.n i ∙ m.next.next
              ∙ (λ j. Some (cell_of m.next.view p.x p.y, own_outcome (of_transform v).matrices (of_sizes v) (at_variables p.x p.y) m.rule (given_by v (same j) m.rule p.x p.y (later j))));
        };
      }

  pub among_after : (next : Turn) → next ≡ after_some s.count turn → IsAmong stops start next new.left
  among_after next e = record {
    n = a.n + s.count;
    left = ap (λ (w : WalkValue). w.left) taken.rest ∙ ap (drop s.count) a.left ∙ drop-drop s.count a.n stops;
    now = e ∙ ap (after_some s.count) a.now ∙ some_some start a.n s.count;
  }

-- fewer are left
pub shorter : {old new : WalkValue} (s : Stretch) → IsTaken old new s → length new.left < length old.left
shorter {old} {new} s taken =
    let less : length new.left ≡ length old.left - s.count = ap (λ (w : WalkValue). length w.left) taken.rest ∙ length-drop s.count old.left in
    omega (arith, less, taken.some, slice_get_within old.left 0 (place_on s 0) (taken.places 0 taken.some))

-- ---- one after another
module _ (v : InstanceValue) (is : IsReady v) (k : ℕ) (start : Turn) (s : Stretch) (made : AreMadeHere v k start s) where
  abbrev can_at : (i : ℕ) → i < s.count → CanRunRule v k (place_on s i).x (place_on s i).y (after_some i start)
  can_at i h = let m = made i h in record { rule = m.rule; there = m.there; computes = single m.rule.kind m.cell; can = m.can }

  pub is_rule : 0 < s.count → k < length v.transform.rules
  is_rule some = rule_below v k (made 0 some).rule (made 0 some).there

  pub has_base : 0 < s.count → (held : List View) → held ≡ v.views → s.base < length held
  has_base some held same = base_there (made 0 some).next held same

  module _ (rs : List Read) (rs_are : (r : ProgRule) → slice_get (of_transform v).rules k ≡ Some r → rs ≡ r.reads) (ws : List Window) (windows : (r : ProgRule) → slice_get (of_transform v).rules k ≡ Some r → AreWindows (of_sizes v) r.reads ws) (ms : List View) (ms_are : ms ≡ v.views) where
    pub few_along : 0 < s.count → length rs ≤ MOST_VIEWS
    few_along some = let m = made 0 some in few v is k _ _ _ (can_at 0 some) rs (rs_are m.rule m.there) ws (windows m.rule m.there) ms ms_are

    pub as_many_along : 0 < s.count → length ws ≡ length rs
    as_many_along some = let m = made 0 some in as_many v is k _ _ _ (can_at 0 some) rs (rs_are m.rule m.there) ws (windows m.rule m.there) ms ms_are

    pub within_along : AreWithinAlong ms rs ws s
    within_along i h =
        let m = made i h in
        record {
          small_x = m.can.reads.small_x;
          small_y = m.can.reads.small_y;
          within = lie_within v is k _ _ _ (can_at i h) rs (rs_are m.rule m.there) ws (windows m.rule m.there) ms ms_are;
        }

    pub reads_at : (x y : ℕ) (views : List View) → AreShown ms x y rs ws (length rs) views → AreReadsOf v k x y views
    reads_at x y views are r at = record {
      windows = ws;
      are = windows r at;
      shown = subst (λ (p : List View × List Read). AreShown p.0 x y p.1 ws (length p.1) views) (λ j. (ms_are j, rs_are r at j)) are;
    }

  -- ---- the cell at a place
  module _ (i : ℕ) (below : i < s.count) (x y : ℕ) (ex : x ≡ (place_on s i).x) (ey : y ≡ (place_on s i).y) (turn : Turn) (now : turn ≡ after_some i start) where
    pub can_now : CanRunRule v k x y turn
    can_now = subst (λ (q : ℕ × ℕ × Turn). CanRunRule v k q.0 q.1 q.2) (λ j. (sym ex j, sym ey j, sym now j)) (can_at i below)

    pub is_single : (r : ProgRule) → slice_get (of_transform v).rules k ≡ Some r → r.kind ≡ kind.Cell
    is_single r at = let m = made i below in ap (λ (q : ProgRule). q.kind) (some_same r m.rule (sym at ∙ m.there)) ∙ m.cell

    module _ (held : List View) (same : held ≡ v.views) (w : View) (w_is : w ≡ slice_index_or held s.base w) where
      pub place_inside : IsInside w.shape x y
      place_inside = subst (λ (q : ℕ × ℕ). IsInside w.shape q.0 q.1) (λ j. (sym ex j, sym ey j)) (inside (made i below).next held same w w_is)

      module _ (o : Outcome) (is_o : (r : ProgRule) → slice_get (of_transform v).rules k ≡ Some r → o ≡ own_outcome (of_transform v).matrices (of_sizes v) (at_variables x y) r (given_by v k r x y turn)) (cell : ℕ) (cell_is : cell ≡ cell_of w x y) where
        entry_is : slice_get start.left i ≡ Some (cell, o)
        entry_is =
            let m = made i below in
            let outcome : o ≡ own_outcome (of_transform v).matrices (of_sizes v) (at_variables (place_on s i).x (place_on s i).y) m.rule (given_by v k m.rule (place_on s i).x (place_on s i).y (after_some i start)) =
            is_o m.rule m.there ∙ (λ j. own_outcome (of_transform v).matrices (of_sizes v) (at_variables (ex j) (ey j)) m.rule (given_by v k m.rule (ex j) (ey j) (now j)))
            in
            entry m.next held same w w_is cell (cell_is ∙ (λ j. cell_of w (ex j) (ey j))) ∙ ap (λ q. Some (cell, q)) (sym outcome)

        pub may_here : (read : Turn) → read ≡ turn → slice_get read.left 0 ≡ Some (cell, o)
        may_here read stays = ap (λ (u : Turn). slice_get u.left 0) (stays ∙ now) ∙ next_left i start ∙ entry_is

        pub one_later : (read new : Turn) → read ≡ turn → new ≡ after_write read cell o → new ≡ after_some (i + 1) start
        one_later read new stays wrote = wrote ∙ ap (λ (u : Turn). after_write u cell o) (stays ∙ now) ∙ sym (some-more start i (cell, o) entry_is)
