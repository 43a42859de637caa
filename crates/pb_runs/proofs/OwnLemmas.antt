-- The cells that an instance makes, and their numbers.
use Rattle.std.proofs.Common.{◌≡◌, ◌∙◌, refl, sym, ap, subst, ⊎_elim, ℕ, zero, suc, ◌+◌, ◌-◌, ◌*◌, ◌<◌, ◌≤◌, ℤ, pos, negsuc, ◌<ℤ◌, List, [], ◌∷◌, ◌++◌, drop, length, slice_get, Some, None, arith}
use Rattle.std.specs.List.{Contains, range_with_len}
use Rattle.std.proofs.lemmas.Bool.{cases_lt}
use Rattle.std.proofs.lemmas.Int.{ints}
use Rattle.pb_linear.specs.Numbers.{exact_value}
use Rattle.pb_values.specs.declared.outcome.Outcome.{Outcome}
use Rattle.pb_linear.specs.Sizes.{InRange, leasts_of}
use Rattle.pb_program.specs.Forms.{DeclValue}
use Rattle.pb_program.specs.Trees.{ProgTransform}
use Rattle.pb_base.proofs.ListLemmas.{in_at}
use Rattle.pb_model.specs.Calls.{Outcomes, outcome_in}
use Rattle.pb_model.specs.Cells.{Cell, natural}
use Rattle.pb_check.proofs.FirstLemmas.{some_same}
use Rattle.pb_check.specs.Ranked.{IsMadeCell}
use Rattle.pb_solution.proofs.OutcomeLemmas.{get_right, index_at}
use Rattle.pb_plan.proofs.NumberLemmas.{row_below, row_once}
use Rattle.pb_recursion.specs.Shapes.{Sides, area, sides_of_decl}
use Rattle.pb_views.specs.declared.seat.Seat.{Seat}
use Rattle.pb_views.specs.Seats.{base_x, base_y, cell_at, no_seat}
use Rattle.pb_runs.specs.Steps.{Instance, number_at, seat_in}
use Rattle.pb_runs.specs.Unrolled.{Met, after_matrix, own_sides, seats_from, whole_seat}
use Rattle.pb_runs.proofs.BaseLemmas.{HaveSides, before_grows, before_next}
use Rattle.pb_runs.proofs.FailedLemmas.{seats_within}
use Rattle.pb_runs.proofs.SeatLemmas.{HasCell, has_whole}
use Rattle.pb_runs.proofs.ViewLemmas.{IsLocal, has_matrix, matrix_at}
use Rattle.pb_runs.specs.Placed.{IsAt, before, total}
use Rattle.pb_plan.proofs.JobLemmas.{at_map, map_at}

-- ---- numbers in the matrices of a run
module _ (ms : List Outcomes) where
  -- a cell of one of them
  below_next : (k : ℕ) (g : Outcomes) (j : ℕ) → slice_get ms k ≡ Some g → j < length g.cells → before ms k + j < before ms (k + 1)
  below_next k g j at low = omega (arith, before_next ms k g at, low)

  pub number_once : (k l : ℕ) (g h : Outcomes) (j m : ℕ) → slice_get ms k ≡ Some g → slice_get ms l ≡ Some h → j < length g.cells → m < length h.cells → before ms k + j ≡ before ms l + m → (k ≡ l) × (j ≡ m)
  number_once k l g h j m at_k at_l low_j low_m same = ⊎_elim
      (λ (less : k < l). absurd (omega (arith, below_next k g j at_k low_j, before_grows ms (k + 1) l (omega (arith, less)), same)))
      (λ (more : l ≤ k). ⊎_elim
      (λ (above : l < k). absurd (omega (arith, below_next l h m at_l low_m, before_grows ms (l + 1) k (omega (arith, above)), same)))
      (λ (least : k ≤ l). let e : k ≡ l = omega (arith, more, least) in (e, omega (arith, same, ap (before ms) e)))
      (cases_lt l k))
      (cases_lt k l)

  -- two places with one number are of one matrix of the run, and one place of it
  pub place_once : (s r : Seat) (x y u v : ℕ) (o q : Outcome) → IsAt ms s x y o → IsAt ms r u v q → cell_at s x y ≡ cell_at r u v
      → (s.base ≡ r.base) × (base_x s x y ≡ base_x r u v) × (base_y s x y ≡ base_y r u v)
  unfolding cell_at
  place_once s r x y u v o q at_s at_r same =
      let sx = base_x s x y in
      let sy = base_y s x y in
      let rx = base_x r u v in
      let ry = base_y r u v in
      let low_s = row_below at_s.grid.width at_s.grid.height sx sy at_s.inside_x at_s.inside_y in
      let low_r = row_below at_r.grid.width at_r.grid.height rx ry at_r.inside_x at_r.inside_y in
      let number : before ms s.base + (sy * at_s.grid.width + sx) ≡ before ms r.base + (ry * at_r.grid.width + rx) =
      (λ i. sym at_s.first i + (sy * sym at_s.row i + sx)) ∙ same ∙ (λ i. at_r.first i + (ry * at_r.row i + rx)) in
      let one = number_once s.base r.base at_s.grid at_r.grid (sy * at_s.grid.width + sx) (ry * at_r.grid.width + rx) at_s.there at_r.there (omega (arith, low_s, at_s.whole)) (omega (arith, low_r, at_r.whole)) number in
      let grid : at_s.grid ≡ at_r.grid = some_same at_s.grid at_r.grid (sym at_s.there ∙ ap (slice_get ms) one.0 ∙ at_r.there) in
      let width : at_s.grid.width ≡ at_r.grid.width = ap (λ (g : Outcomes). g.width) grid in
      let place = row_once at_s.grid.width sx sy rx ry at_s.inside_x (omega (arith, at_r.inside_x, width)) (one.1 ∙ ap (λ w. ry * w + rx) (sym width)) in
      (one.0, place.0, place.1)

-- ---- matrices with cells of their own
-- one of them
pub seat_there : (n : Met) (ss : List Sides) (k : ℕ) (s : Sides) → slice_get ss k ≡ Some s → (m : Met) × (slice_get (seats_from n ss) k ≡ Some (whole_seat m s)) × (m.matrices ≡ n.matrices + k)
seat_there n [] k s e = absurd (let wrong : None ≡ Some s = e in cc)
seat_there n (z ∷ ss) zero s e = (n, ap (λ q. Some (whole_seat n q)) (some_same z s e), omega arith)
seat_there n (z ∷ ss) (suc k) s e = let rest = seat_there (after_matrix n z) ss k s e in (rest.0, rest.1, omega (arith, rest.2))

-- a number in the row is that of a place
pub row_place : (ms : List Outcomes) (n : Met) (ss : List Sides) (mats : List Outcomes) → HaveSides ss mats → (c : ℕ) → n.cells ≤ c → c < n.cells + total mats
    → (k : ℕ) × (s : Sides) × (m : Met) × (slice_get ss k ≡ Some s) × (slice_get (seats_from n ss) k ≡ Some (whole_seat m s)) × HasCell (whole_seat m s) c
row_place ms n [] [] h c low high = absurd (omega (arith, low, high))
row_place ms n [] (m ∷ mats) h c low high = absurd h
row_place ms n (s ∷ ss) [] h c low high = absurd h
row_place ms n (s ∷ ss) (g ∷ mats) h c low high =
    let cells : length g.cells ≡ area s = h.0.2 ∙ (λ i. h.0.0 i * h.0.1 i) in
    ⊎_elim
    (λ (here : c < n.cells + area s). (0, s, n, refl, refl, has_whole n s c low here))
    (λ (later : n.cells + area s ≤ c). let rest = row_place ms (after_matrix n s) ss mats h.1 c later (omega (arith, high, cells)) in (suc rest.0, rest.1, rest.2, rest.3, rest.4, rest.5))
    (cases_lt c (n.cells + area s))

pub below_side : (z : ℤ) (n : ℕ) → n < natural z → pos n <ℤ z
below_side (pos k) n h = omega (arith, ints, h)
below_side (negsuc k) n h = absurd (omega (arith, h))

pub side_below : (z : ℤ) (n : ℕ) → pos n <ℤ z → n < natural z
side_below (pos k) n h = omega (arith, ints, h)
side_below (negsuc k) n h = absurd (omega (arith, ints, h))

dropped_at : {A : Type 0} (xs : List A) (n k : ℕ) (x : A) → slice_get (drop n xs) k ≡ Some x → slice_get xs (n + k) ≡ Some x
dropped_at xs zero k x at = let here : 0 + k ≡ k = omega arith in rw here at
dropped_at [] (suc n) k x at = absurd (let none : None ≡ Some x = at in cc)
dropped_at (y ∷ xs) (suc n) k x at = let here : suc n + k ≡ suc (n + k) = omega arith in rw here (dropped_at xs n k x at)

pub at_dropped : {A : Type 0} (xs : List A) (n k : ℕ) (x : A) → slice_get xs (n + k) ≡ Some x → slice_get (drop n xs) k ≡ Some x
at_dropped xs zero k x at = let here : 0 + k ≡ k = omega arith in subst (λ i. slice_get xs i ≡ Some x) here at
at_dropped [] (suc n) k x at = absurd (let none : None ≡ Some x = at in cc)
at_dropped (y ∷ xs) (suc n) k x at = let here : suc n + k ≡ suc (n + k) = omega arith in at_dropped xs n k x (subst (λ i. slice_get (y ∷ xs) i ≡ Some x) here at)

-- ---- an instance, whose own matrices begin here
module _ (ms : List Outcomes) (i : Instance) (given : List Seat) (n : Met) (own : List Outcomes) (seats : i.seats ≡ given ++ seats_from n (own_sides i.transform i.sizes)) (count : length given ≡ i.transform.inputs) (sides : HaveSides (own_sides i.transform i.sizes) own) where
  abbrev t : ProgTransform
  t = i.transform

  -- where the matrix of a made cell stands
  pub own_seat : (c : Cell) → IsMadeCell t i.sizes c → (d : DeclValue) × (m : Met) × (slice_get t.matrices c.matrix ≡ Some d) × (seat_in i c.matrix ≡ whole_seat m (sides_of_decl i.sizes d)) × (m.matrices ≡ n.matrices + (c.matrix - t.inputs)) × HasCell (whole_seat m (sides_of_decl i.sizes d)) (number_at i c) × Contains (seats_from n (own_sides t i.sizes)) (whole_seat m (sides_of_decl i.sizes d))
  own_seat c made =
      let place : ℕ = c.matrix - t.inputs in
      let matrix : t.inputs + place ≡ c.matrix = omega (arith, made.made) in
      let d = made.cell.decl in
      let declared = at_dropped t.matrices t.inputs place d (ap (slice_get t.matrices) matrix ∙ made.cell.there) in
      let there = seat_there n (own_sides t i.sizes) place (sides_of_decl i.sizes d) (at_map (sides_of_decl i.sizes) (drop t.inputs t.matrices) place d declared) in
      let number : length given + place ≡ c.matrix = omega (arith, count, matrix) in
      let at : slice_get i.seats c.matrix ≡ Some (whole_seat there.0 (sides_of_decl i.sizes d)) = ap (λ l. slice_get l c.matrix) seats ∙ ap (slice_get (given ++ seats_from n (own_sides t i.sizes))) (sym number) ∙ get_right given (seats_from n (own_sides t i.sizes)) place ∙ there.1 in
      let seat : seat_in i c.matrix ≡ whole_seat there.0 (sides_of_decl i.sizes d) = index_at i.seats c.matrix (whole_seat there.0 (sides_of_decl i.sizes d)) no_seat at in (
        d,
        there.0,
        made.cell.there,
        seat,
        there.2,
        (c.x, c.y, omega (arith, side_below (exact_value d.w i.sizes) c.x made.cell.before_x), omega (arith, side_below (exact_value d.h i.sizes) c.y made.cell.before_y), ap (λ s. cell_at s c.x c.y) seat),
        in_at (seats_from n (own_sides t i.sizes)) place (whole_seat there.0 (sides_of_decl i.sizes d)) there.1,
      )

  -- its number is in the row
  pub own_in_row : (c : Cell) → IsMadeCell t i.sizes c → Contains (range_with_len n.cells (total own)) (number_at i c)
  own_in_row c made = let s = own_seat c made in seats_within ms n (own_sides t i.sizes) own sides (whole_seat s.1 (sides_of_decl i.sizes s.0)) s.6 (number_at i c) s.5

  -- each number of the row is that of a made cell
  pub row_own : InRange (leasts_of t.ranges) i.sizes → (k : ℕ) → n.cells ≤ k → k < n.cells + total own → (c : Cell) × IsMadeCell t i.sizes c × (number_at i c ≡ k)
  row_own range k low high =
      let p = row_place ms n (own_sides t i.sizes) own sides k low high in
      let decl = map_at (sides_of_decl i.sizes) (drop t.inputs t.matrices) p.0 p.1 p.3 in
      let d = decl.0 in
      let has = p.5 in
      let c : Cell = record { matrix = t.inputs + p.0; x = has.0; y = has.1 } in
      let on_x : has.0 < natural p.1.0 = omega (arith, has.2) in
      let on_y : has.1 < natural p.1.1 = omega (arith, has.3) in
      let wide : natural p.1.0 ≡ natural (exact_value d.w i.sizes) = ap (λ (s : Sides). natural s.0) (sym decl.2) in
      let tall : natural p.1.1 ≡ natural (exact_value d.h i.sizes) = ap (λ (s : Sides). natural s.1) (sym decl.2) in
      let number : length given + p.0 ≡ t.inputs + p.0 = omega (arith, count) in
      let at : slice_get i.seats (t.inputs + p.0) ≡ Some (whole_seat p.2 p.1) = ap (λ l. slice_get l (t.inputs + p.0)) seats ∙ ap (slice_get (given ++ seats_from n (own_sides t i.sizes))) (sym number) ∙ get_right given (seats_from n (own_sides t i.sizes)) p.0 ∙ p.4 in (
        c,
        record {
          cell = record {
            in_range = range;
            decl = d;
            there = dropped_at t.matrices t.inputs p.0 d decl.1;
            before_x = below_side (exact_value d.w i.sizes) has.0 (omega (arith, on_x, wide));
            before_y = below_side (exact_value d.h i.sizes) has.1 (omega (arith, on_y, tall));
          };
          made = omega arith;
        },
        ap (λ s. cell_at s has.0 has.1) (index_at i.seats (t.inputs + p.0) (whole_seat p.2 p.1) no_seat at) ∙ sym has.4,
      )

  -- two made cells with one number are one
  pub own_once : (lm : List Outcomes) → IsLocal ms i lm → (c d : Cell) → IsMadeCell t i.sizes c → IsMadeCell t i.sizes d → number_at i c ≡ number_at i d → c ≡ d
  own_once lm local c d made_c made_d same =
      let hc = has_matrix ms i lm local c.matrix made_c.cell.decl made_c.cell.there in
      let hd = has_matrix ms i lm local d.matrix made_d.cell.decl made_d.cell.there in
      let at_c = (matrix_at ms i lm c.matrix made_c.cell.decl hc c.x c.y (omega (arith, side_below (exact_value made_c.cell.decl.w i.sizes) c.x made_c.cell.before_x, hc.sides.width)) (omega (arith, side_below (exact_value made_c.cell.decl.h i.sizes) c.y made_c.cell.before_y, hc.sides.height))).1 in
      let at_d = (matrix_at ms i lm d.matrix made_d.cell.decl hd d.x d.y (omega (arith, side_below (exact_value made_d.cell.decl.w i.sizes) d.x made_d.cell.before_x, hd.sides.width)) (omega (arith, side_below (exact_value made_d.cell.decl.h i.sizes) d.y made_d.cell.before_y, hd.sides.height))).1 in
      let place = place_once ms (seat_in i c.matrix) (seat_in i d.matrix) c.x c.y d.x d.y (outcome_in lm c) (outcome_in lm d) at_c at_d same in
      let sc = own_seat c made_c in
      let sd = own_seat d made_d in
      let matrix : c.matrix ≡ d.matrix = (let bc = ap (λ (s : Seat). s.base) sc.3 in let bd = ap (λ (s : Seat). s.base) sd.3 in omega (arith, bc, bd, place.0, sc.4, sd.4, made_c.made, made_d.made)) in
      let x : c.x ≡ d.x = (let fc = ap (λ (s : Seat). base_x s c.x c.y) sc.3 in let fd = ap (λ (s : Seat). base_x s d.x d.y) sd.3 in omega (arith, fc, fd, place.1)) in
      let y : c.y ≡ d.y = (let fc = ap (λ (s : Seat). base_y s c.x c.y) sc.3 in let fd = ap (λ (s : Seat). base_y s d.x d.y) sd.3 in omega (arith, fc, fd, place.2)) in
      λ k. record { matrix = matrix k; x = x k; y = y k }
