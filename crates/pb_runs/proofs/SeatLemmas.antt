-- Where matrices stand among the cells of a run.
use Rattle.std.proofs.Common.{◌≡◌, ◌∙◌, refl, sym, ap, subst, ℕ, zero, suc, ◌+◌, ◌-◌, ◌*◌, ◌<◌, ◌≤◌, Bool, true, false, List, [], ◌∷◌, slice_get, Some, None, arith}
use Rattle.std.specs.Prelude.{if◌then◌else◌, not}
use Rattle.pb_values.specs.declared.rect.Rect.{Rect}
use Rattle.pb_program.specs.declared.view.ReadView.{ReadView}
use Rattle.pb_model.specs.Calls.{Outcomes}
use Rattle.pb_model.specs.Cells.{natural}
use Rattle.pb_check.proofs.FirstLemmas.{some_at}
use Rattle.pb_plan.proofs.NumberLemmas.{row_at, row_below}
use Rattle.pb_recursion.specs.Depths.{IsWhole}
use Rattle.pb_recursion.specs.Shapes.{Sides, area}
use Rattle.pb_views.specs.declared.seat.Seat.{Seat}
use Rattle.pb_views.specs.Seats.{across, base_x, base_y, cell_at, down, is_turning, part_seat}
use Rattle.pb_runs.specs.Unrolled.{Met, whole_seat}
use Rattle.pb_runs.proofs.BaseLemmas.{Stands, outcome_there}
use Rattle.pb_runs.specs.Placed.{IsPlaced, before, greatest_side, outcome_of}

zero_plus : (n : ℕ) → 0 + n ≡ n
zero_plus n = omega arith

-- ---- a rectangle of a rectangle
-- the place of what a view shows, in what it shows a part of
abbrev pub of_turning : Bool → ℕ → ℕ → ℕ
of_turning turning x y = if turning then y else x

shift_x : (turning turned : Bool) (a rx ry x y : ℕ) → (a + (if turned then ry else rx)) + (if (if turning then not turned else turned) then y else x) ≡ a + (if turned then (ry + (if turning then x else y)) else (rx + (if turning then y else x)))
shift_x true true a rx ry x y = omega arith
shift_x true false a rx ry x y = omega arith
shift_x false true a rx ry x y = omega arith
shift_x false false a rx ry x y = omega arith

shift_y : (turning turned : Bool) (a rx ry x y : ℕ) → (a + (if turned then rx else ry)) + (if (if turning then not turned else turned) then x else y) ≡ a + (if turned then (rx + (if turning then y else x)) else (ry + (if turning then x else y)))
shift_y true true a rx ry x y = omega arith
shift_y true false a rx ry x y = omega arith
shift_y false true a rx ry x y = omega arith
shift_y false false a rx ry x y = omega arith

-- how far it goes
extent_is : (turning turned : Bool) (a b x0 y0 x1 y1 : ℕ)
    → (if (if turning then not turned else turned) then (b + (if turned then x1 else y1)) - (b + (if turned then x0 else y0)) else (a + (if turned then y1 else x1)) - (a + (if turned then y0 else x0))) ≡ (if turning then y1 - y0 else x1 - x0)
extent_is true true a b x0 y0 x1 y1 = omega arith
extent_is true false a b x0 y0 x1 y1 = omega arith
extent_is false true a b x0 y0 x1 y1 = omega arith
extent_is false false a b x0 y0 x1 y1 = omega arith

module _ (v : ReadView) (s : Seat) (r : Rect) where
  abbrev k : Bool
  k = is_turning v

  -- a place of the part, in the seat
  abbrev pub part_x : ℕ → ℕ → ℕ
  part_x x y = r.x0 + (if k then y else x)

  abbrev pub part_y : ℕ → ℕ → ℕ
  part_y x y = r.y0 + (if k then x else y)

  pub part_base_x : (x y : ℕ) → base_x (part_seat v s r) x y ≡ base_x s (part_x x y) (part_y x y)
  part_base_x x y = shift_x k s.turned s.rect.x0 r.x0 r.y0 x y

  pub part_base_y : (x y : ℕ) → base_y (part_seat v s r) x y ≡ base_y s (part_x x y) (part_y x y)
  part_base_y x y = shift_y k s.turned s.rect.y0 r.x0 r.y0 x y

  pub part_cell : (x y : ℕ) → cell_at (part_seat v s r) x y ≡ cell_at s (part_x x y) (part_y x y)
  unfolding cell_at
  part_cell x y = (λ i. s.first + (part_base_y x y i * s.row + part_base_x x y i))

  pub part_across : across (part_seat v s r) ≡ (if k then r.y1 - r.y0 else r.x1 - r.x0)
  part_across = extent_is k s.turned s.rect.x0 s.rect.y0 r.x0 r.y0 r.x1 r.y1

  pub part_down : down (part_seat v s r) ≡ (if k then r.x1 - r.x0 else r.y1 - r.y0)
  part_down = other k s.turned s.rect.x0 s.rect.y0 r.x0 r.y0 r.x1 r.y1
    where
      other : (turning turned : Bool) (a b x0 y0 x1 y1 : ℕ)
          → (if (if turning then not turned else turned) then (a + (if turned then y1 else x1)) - (a + (if turned then y0 else x0)) else (b + (if turned then x1 else y1)) - (b + (if turned then x0 else y0))) ≡ (if turning then x1 - x0 else y1 - y0)
      other true true a b x0 y0 x1 y1 = omega arith
      other true false a b x0 y0 x1 y1 = omega arith
      other false true a b x0 y0 x1 y1 = omega arith
      other false false a b x0 y0 x1 y1 = omega arith

  -- the rectangle lies in the seat
  pub record LiesIn : Type 0 where
    pub right : r.x1 ≤ across s
    pub high : r.y1 ≤ down s

  pub part_inside : LiesIn → (x y : ℕ) → x < across (part_seat v s r) → y < down (part_seat v s r) → (part_x x y < across s) × (part_y x y < down s)
  part_inside lies x y on_x on_y = by k (subst (λ n. x < n) part_across on_x) (subst (λ n. y < n) part_down on_y)
    where
      by : (b : Bool) → x < (if b then r.y1 - r.y0 else r.x1 - r.x0) → y < (if b then r.x1 - r.x0 else r.y1 - r.y0) → (r.x0 + (if b then y else x) < across s) × (r.y0 + (if b then x else y) < down s)
      by true h l = (omega (arith, h, l, lies.right), omega (arith, h, l, lies.high))
      by false h l = (omega (arith, h, l, lies.right), omega (arith, h, l, lies.high))

-- ---- placed matrices
-- no side is longer than the greatest
greatest_of : (ms : List Outcomes) (k : ℕ) (m : Outcomes) → slice_get ms k ≡ Some m → (m.width ≤ greatest_side ms) × (m.height ≤ greatest_side ms)
greatest_of [] k m at = absurd (let wrong : None ≡ Some m = at in cc)
greatest_of (g ∷ ms) zero m at = let is : Some g ≡ Some m = at in let same : g ≡ m = cc in (omega (arith, ap (λ (q : Outcomes). q.width) same), omega (arith, ap (λ (q : Outcomes). q.height) same))
greatest_of (g ∷ ms) (suc k) m at = let rest = greatest_of ms k m at in (omega (arith, rest.0), omega (arith, rest.1))

module _ (ms : List Outcomes) where
  -- the next matrix that is met
  first_there : (n : Met) (m : Outcomes) (rest : List Outcomes) → Stands ms n (m ∷ rest) → slice_get ms n.matrices ≡ Some m
  first_there n m rest stands = let here : n.matrices + 0 ≡ n.matrices = omega arith in ap (slice_get ms) (sym here) ∙ stands.at 0 m refl

  -- a matrix that has cells of its own
  pub whole_placed : (n : Met) (s : Sides) (m : Outcomes) (rest : List Outcomes) → Stands ms n (m ∷ rest) → m.width ≡ natural s.0 → m.height ≡ natural s.1 → IsWhole m → IsPlaced ms (whole_seat n s) m
  unfolding cell_at
  whole_placed n s m rest stands width height whole = record {
    width = omega (arith, width);
    height = omega (arith, height);
    whole = whole;
    wide = (greatest_of ms n.matrices m (first_there n m rest stands)).0;
    tall = (greatest_of ms n.matrices m (first_there n m rest stands)).1;
    cells = λ x y on_x on_y.
        let below = row_below m.width m.height x y (omega (arith, on_x, width)) (omega (arith, on_y, height)) in
        let o = some_at m.cells (y * m.width + x) (omega (arith, below, whole)) in
        let there = first_there n m rest stands in
        let number : n.cells + ((0 + y) * natural s.0 + (0 + x)) ≡ before ms n.matrices + (y * m.width + x) = (let plain : (0 + y) * natural s.0 + (0 + x) ≡ y * natural s.0 + x = (λ i. zero_plus y i * natural s.0 + zero_plus x i) in omega (arith, plain, stands.cells, ap (λ w. y * w) width)) in (
          o.0,
          o.1,
          record {
            grid = m;
            there = there;
            first = sym stands.cells;
            row = sym width;
            whole = whole;
            inside_x = omega (arith, on_x, width);
            inside_y = omega (arith, on_y, height);
            is = ap (outcome_of ms) number ∙ outcome_there ms n.matrices m (y * m.width + x) o.0 there o.1;
          },
        );
  }

  -- what a view shows of a matrix
  pub record IsPart (v : ReadView) (s : Seat) (r : Rect) (m g : Outcomes) : Type 0 where
    pub width : g.width ≡ across (part_seat v s r)
    pub height : g.height ≡ down (part_seat v s r)
    pub whole : IsWhole g
    pub cells : (x y : ℕ) → x < across (part_seat v s r) → y < down (part_seat v s r) → slice_get g.cells (y * g.width + x) ≡ slice_get m.cells (part_y v s r x y * m.width + part_x v s r x y)

  pub part_placed : (v : ReadView) (s : Seat) (r : Rect) (m g : Outcomes) → IsPlaced ms s m → LiesIn v s r → IsPart v s r m g → IsPlaced ms (part_seat v s r) g
  part_placed v s r m g placed lies part = record {
    width = part.width;
    height = part.height;
    whole = part.whole;
    wide = (short (is_turning v) (part.width ∙ part_across v s r) (part.height ∙ part_down v s r)).0;
    tall = (short (is_turning v) (part.width ∙ part_across v s r) (part.height ∙ part_down v s r)).1;
    cells = λ x y on_x on_y.
        let inside = part_inside v s r lies x y on_x on_y in
        let o = placed.cells (part_x v s r x y) (part_y v s r x y) inside.0 inside.1 in
        let at = o.2 in (
          o.0,
          part.cells x y on_x on_y ∙ o.1,
          record {
            grid = at.grid;
            there = at.there;
            first = at.first;
            row = at.row;
            whole = at.whole;
            inside_x = subst (λ k. k < at.grid.width) (sym (part_base_x v s r x y)) at.inside_x;
            inside_y = subst (λ k. k < at.grid.height) (sym (part_base_y v s r x y)) at.inside_y;
            is = ap (outcome_of ms) (part_cell v s r x y) ∙ at.is;
          },
        );
  }
    where
      short : (b : Bool) → g.width ≡ (if b then r.y1 - r.y0 else r.x1 - r.x0) → g.height ≡ (if b then r.x1 - r.x0 else r.y1 - r.y0) → (g.width ≤ greatest_side ms) × (g.height ≤ greatest_side ms)
      short true w h = (omega (arith, w, lies.high, placed.height, placed.tall), omega (arith, h, lies.right, placed.width, placed.wide))
      short false w h = (omega (arith, w, lies.right, placed.width, placed.wide), omega (arith, h, lies.high, placed.height, placed.tall))

-- ---- the cells of a seat
abbrev pub HasCell : Seat → ℕ → Type 0
HasCell s c = (x : ℕ) × (y : ℕ) × (x < across s) × (y < down s) × (c ≡ cell_at s x y)

pub part_has : (v : ReadView) (s : Seat) (r : Rect) → LiesIn v s r → (c : ℕ) → HasCell (part_seat v s r) c → HasCell s c
part_has v s r lies c h =
    let inside = part_inside v s r lies h.0 h.1 h.2 h.3 in
    (part_x v s r h.0 h.1, part_y v s r h.0 h.1, inside.0, inside.1, h.4 ∙ part_cell v s r h.0 h.1)

-- of a matrix with cells of its own
pub whole_has : (n : Met) (s : Sides) (c : ℕ) → HasCell (whole_seat n s) c → (n.cells ≤ c) × (c < n.cells + area s)
unfolding cell_at
whole_has n s c h =
    let below = row_below (natural s.0) (natural s.1) h.0 h.1 (omega (arith, h.2)) (omega (arith, h.3)) in
    let plain : (0 + h.1) * natural s.0 + (0 + h.0) ≡ h.1 * natural s.0 + h.0 = (λ i. zero_plus h.1 i * natural s.0 + zero_plus h.0 i) in
    (omega (arith, h.4), omega (arith, h.4, below, plain))

pub has_whole : (n : Met) (s : Sides) (c : ℕ) → n.cells ≤ c → c < n.cells + area s → HasCell (whole_seat n s) c
unfolding cell_at
has_whole n s c low high =
    let p = row_at (natural s.0) (natural s.1) (c - n.cells) (omega (arith, low, high)) in
    let plain : (0 + p.1) * natural s.0 + (0 + p.0) ≡ p.1 * natural s.0 + p.0 = (λ i. zero_plus p.1 i * natural s.0 + zero_plus p.0 i) in
    (p.0, p.1, omega (arith, p.2), omega (arith, p.3), omega (arith, p.4, plain, low))
