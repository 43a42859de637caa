-- Lines of cells, made one after another: where each of them is, and what stays from one to the next.
use Rattle.std.proofs.Common.{◌≡◌, ◌∙◌, refl, sym, ap, subst, ℕ, zero, suc, ◌+◌, ◌-◌, ◌*◌, ◌%◌, ◌<◌, ◌^◌, List, length, Some, slice_get, Bool, true, false, arith}
use Rattle.std.proofs.lemmas.Nat.{mul-le}
use Rattle.std.proofs.Math.Nat.{mod-eq_of_lt}
use Rattle.pb_linear.specs.declared.boxes.Sign.{Sign}
use Rattle.pb_linear.specs.declared.boxes.Sign.TheVariants.{Plus, Minus}
use Rattle.std.specs.Prelude.{slice_index_or}
use Rattle.pb_values.specs.Cells.{Turn}
use Rattle.pb_values.specs.Views.{IsInside, cell_of}
use Rattle.pb_values.specs.declared.view.View.{View}
use Rattle.pb_program.specs.Trees.{ProgRule}
use Rattle.pb_program.specs.declared.view.Read.{Read}
use Rattle.pb_taskgraph.specs.Turns.{after_some}
use Rattle.pb_views.specs.declared.window.Window.{Window}
use Rattle.pb_statements.specs.Stored.{locals_of, outs_of}
use Rattle.pb_eval.specs.FirstCells.{AreOfCells}
use Rattle.pb_eval.specs.Moving.{cell_at, cells_at}
use Rattle.pb_eval.specs.Sums.{StandsInFor, SumValue}
use Rattle.pb_eval.specs.Terms.{TermsValue}
use Rattle.pb_eval.specs.declared.moving.Moving.{Moving}
use Rattle.pb_walk.specs.Axes.{AreThere, moved}
use Rattle.pb_walk.specs.Stretches.{column_in, place_on, row_in}
use Rattle.pb_walk.specs.declared.stretch.Stretch.{Stretch}
use Rattle.pb_jobs.specs.Advances.{AreAdvances}
use Rattle.pb_jobs.specs.Distances.{IsFromTo, IsStep, step_in, way_on}
use Rattle.pb_jobs.specs.Instances.{InstanceValue, IsReady, of_sizes, of_transform}
use Rattle.pb_jobs.specs.Jobs.{AreMadeHere}
use Rattle.pb_jobs.specs.Lines.{ReadFrom, ShowFrom}
use Rattle.pb_jobs.specs.Rooms.{SameRoom}
use Rattle.pb_jobs.specs.Shown.{AreShown, AreWindows}
use Rattle.pb_jobs.specs.declared.advance.Advance.{Advance}
use Rattle.pb_jobs.specs.declared.scratch.RuleScratch.{RuleScratch}
use Rattle.pb_jobs.proofs.FirstCellLemmas.{all_on, as_many_cells, begin_at, goes}
use Rattle.pb_jobs.proofs.LineLemmas.{as_many_along, place_inside, reads_at, within_along}

module _ (v : View) where
  abbrev cell_in : Bool → ℕ → ℕ → ℕ
  cell_in down across n = cell_of v (column_in down across n) (row_in down across n)

  up_one : (down : Bool) (across n : ℕ) → cell_in down across n + step_in down v ≡ cell_in down across (n + 1)
  up_one true across n = omega arith
  up_one false across n = omega arith

  next_in : (down : Bool) (sign : Sign) (across a i count : ℕ) → AreThere sign a count → i + 1 < count
      → IsFromTo (cell_in down across (moved sign i a)) (cell_in down across (moved sign (i + 1) a)) (way_on sign (step_in down v))
  next_in down Plus across a i count there below = up_one down across (a + i) ∙ ap (cell_in down across) (omega arith)
  next_in down Minus across a i count there below =
      let e : a - (i + 1) + 1 ≡ a - i = omega (arith, below, there.down refl) in
      up_one down across (a - (i + 1)) ∙ ap (cell_in down across) e

  small_in : (x y : ℕ) → IsInside v.shape x y → cell_of v x y < 2 ^ 64
  small_in x y h = omega (arith, v.small, mul-le x v.step_x v.shape.w v.step_x (omega (arith, h.0)) (omega arith), mul-le y v.step_y v.shape.h v.step_y (omega (arith, h.1)) (omega arith))

  module _ (s : Stretch) (inside : (i : ℕ) → i < s.count → IsInside v.shape (place_on s i).x (place_on s i).y) (m : Moving) (first : m.from ≡ cell_of v (place_on s 0).x (place_on s 0).y) (by : IsStep (way_on s.sign (step_in s.down v)) m.by) where
    pub own_at : (i : ℕ) → i < s.count → cell_at i m ≡ cell_of v (place_on s i).x (place_on s i).y
    own_at zero below =
        let z : m.from + 0 * m.by ≡ cell_of v (place_on s 0).x (place_on s 0).y = omega (arith, first) in
        ap (λ n. n % 2 ^ 64) z ∙ mod-eq_of_lt (small_in (place_on s 0).x (place_on s 0).y (inside 0 below))
    own_at (suc i) below =
        let e : i + 1 ≡ suc i = omega arith in
        let next : i + 1 < s.count = omega (arith, below) in
        let p = place_on s (i + 1) in
        subst (λ n. cell_at n m ≡ cell_of v (place_on s n).x (place_on s n).y) e
        (goes m i (cell_of v (place_on s i).x (place_on s i).y) (cell_of v p.x p.y) (sym (own_at i (omega (arith, below)))) (small_in p.x p.y (inside (i + 1) next)) (way_on s.sign (step_in s.down v)) by (next_in s.down s.sign s.across s.at i s.count s.there next))

-- before the cell at a place of a line is made: the room and the terms are those of its start, the sum stands in for them, and it is known
-- where what is read begins, and how it moves
pub record IsAlong (v : InstanceValue) (s : Stretch) (rs : List Read) (ws : List Window) (start now : RuleScratch) (i : ℕ) : Type 0 where
  pub room : SameRoom start.body now.body
  pub terms : now.terms ≡ start.terms
  pub sum : StandsInFor now.shown.cells.items now.terms now.sum
  pub advances : now.shown.advances ≡ start.shown.advances
  pub by : (k : ℕ) (a : Advance) (m : Moving) → slice_get now.shown.advances.items k ≡ Some a → slice_get now.shown.cells.items k ≡ Some m → IsStep a.far m.by
  pub shown : i < s.count → ShowFrom v.views s i rs ws now.shown.advances.items (cells_at now.shown.cells.items i)

-- the same room, terms, sum and cells
pub record IsKept (now later : RuleScratch) : Type 0 where
  pub room : SameRoom now.body later.body
  pub terms : later.terms ≡ now.terms
  pub sum : later.sum ≡ now.sum
  pub advances : later.shown.advances ≡ now.shown.advances
  pub cells : later.shown.cells ≡ now.shown.cells

pub kept_same : (now later : RuleScratch) → later ≡ now → IsKept now later
kept_same now later e = record { room = record { locals = ap (λ (q : RuleScratch). locals_of q.body) e; outs = ap (λ (q : RuleScratch). outs_of q.body) e }; terms = ap (λ (q : RuleScratch). q.terms) e; sum = ap (λ (q : RuleScratch). q.sum) e; advances = ap (λ (q : RuleScratch). q.shown.advances) e; cells = ap (λ (q : RuleScratch). q.shown.cells) e }

module _ (v : InstanceValue) (is : IsReady v) (k : ℕ) (start : Turn) (s : Stretch) (made : AreMadeHere v k start s) where
  -- ---- its own cell at a place
  pub own_is : (held : List View) (same : held ≡ v.views) (w : View) (w_is : w ≡ slice_index_or held s.base w) (m : Moving) → m.from ≡ cell_of w (place_on s 0).x (place_on s 0).y → IsStep (way_on s.sign (step_in s.down w)) m.by
      → (i : ℕ) → i < s.count → (x y cell : ℕ) → x ≡ (place_on s i).x → y ≡ (place_on s i).y → cell ≡ cell_at i m → cell ≡ cell_of w x y
  own_is held same w w_is m first by i below x y cell ex ey here =
      here ∙ own_at w s (λ j h. place_inside v is k start s made j h (place_on s j).x (place_on s j).y refl refl (after_some j start) refl held same w w_is) m first by i below ∙ (λ j. cell_of w (sym ex j) (sym ey j))

  module _ (some : 0 < s.count) (rs : List Read) (rs_are : (r : ProgRule) → slice_get (of_transform v).rules k ≡ Some r → rs ≡ r.reads) (ws : List Window) (windows : (r : ProgRule) → slice_get (of_transform v).rules k ≡ Some r → AreWindows (of_sizes v) r.reads ws)
      (start_scratch now : RuleScratch) (are : AreAdvances v.views s rs ws (length rs) start_scratch.shown.advances.items) (i : ℕ) (below : i < s.count) (h : IsAlong v s rs ws start_scratch now i) where
    are_now : AreAdvances v.views s rs ws (length rs) now.shown.advances.items
    are_now = subst (λ l. AreAdvances v.views s rs ws (length rs) l.items) (sym h.advances) are

    -- ---- what is read there
    pub from_along : (x y : ℕ) → x ≡ (place_on s i).x → y ≡ (place_on s i).y → ReadFrom v k x y (cells_at now.shown.cells.items i)
    from_along x y ex ey =
        let shown = h.shown below in
        record {
          views = shown.views;
          reads = reads_at v is k start s made rs rs_are ws windows v.views refl x y shown.views (subst (λ (q : ℕ × ℕ). AreShown v.views q.0 q.1 rs ws (length rs) shown.views) (λ j. (sym ex j, sym ey j)) shown.shown);
          begin = begin_at v.views rs ws s i now.shown.advances.items (cells_at now.shown.cells.items i) (as_many_along v is k start s made rs rs_are ws windows v.views refl some) are_now shown;
        }

    pub terms_along : AreOfCells (length rs) start_scratch.terms → AreOfCells (length now.shown.cells.items) now.terms
    terms_along of_cells =
        let many = as_many_cells v.views rs ws s i now.shown.advances.items now.shown.cells.items (h.shown below) in
        subst (AreOfCells (length now.shown.cells.items)) (sym h.terms) (subst (λ n. AreOfCells n start_scratch.terms) (sym many) of_cells)

    -- ---- and at the next place
    pub along_next : (later : RuleScratch) → IsKept now later → IsAlong v s rs ws start_scratch later (i + 1)
    along_next later kept = record {
      room = record { locals = kept.room.locals ∙ h.room.locals; outs = kept.room.outs ∙ h.room.outs };
      terms = kept.terms ∙ h.terms;
      sum = subst (λ (p : List Moving × TermsValue × SumValue). StandsInFor p.0 p.1 p.2) (λ j. (sym (ap (λ l. l.items) kept.cells) j, sym kept.terms j, sym kept.sum j)) h.sum;
      advances = kept.advances ∙ h.advances;
      by = λ n a m at_a at_m. h.by n a m (ap (λ l. slice_get l.items n) (sym kept.advances) ∙ at_a) (ap (λ l. slice_get l.items n) (sym kept.cells) ∙ at_m);
      shown = λ next.
          subst (λ l. ShowFrom v.views s (i + 1) rs ws later.shown.advances.items (cells_at l.items (i + 1))) (sym kept.cells)
          (subst (λ l. ShowFrom v.views s (i + 1) rs ws l.items (cells_at now.shown.cells.items (i + 1))) (sym kept.advances)
          (all_on v.views rs ws s (within_along v is k start s made rs rs_are ws windows v.views refl) (as_many_along v is k start s made rs rs_are ws windows v.views refl some)
          i next now.shown.advances.items are_now now.shown.cells.items h.by (h.shown below)));
    }
