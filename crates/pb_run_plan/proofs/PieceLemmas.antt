-- The pieces of a step have its cells, each at one place.
use Rattle.std.proofs.Common.{◌≡◌, ◌∙◌, refl, sym, ap, subst, ℕ, ◌+◌, ◌-◌, ◌<◌, List, [], map, slice_get, Option, Some, None, arith}
use Rattle.std.specs.Prelude.{IsSomeAnd}
use Rattle.std.specs.List.{AllZip, Contains, flat_map, range_with_len}
use Rattle.pb_linear.specs.declared.boxes.Step.{Step as Direction}
use Rattle.pb_values.specs.Views.{HasPlace, cell_of, view_cells}
use Rattle.pb_base.proofs.ListLemmas.{at_in, flat_in, in_at, in_flat, in_map, in_range, map_in, range_in}
use Rattle.pb_check.proofs.FirstLemmas.{some_same}
use Rattle.pb_runs.specs.Handed.{FramePart}
use Rattle.pb_links.specs.declared.places.Spot.{Spot}
use Rattle.pb_taskgraph.specs.declared.task.Part.{Part}
use Rattle.pb_plan.specs.Boxes.{spot_of}
use Rattle.pb_plan.proofs.JobLemmas.{at_map, map_at}
use Rattle.pb_walk.specs.Walks.{walk_of}
use Rattle.pb_walk.specs.declared.stop.Stop.{Stop}
use Rattle.pb_walk.proofs.WalkLemmas.{in_walk, walk_in}
use Rattle.pb_plan.proofs.LinkedLemmas.{at_zip, in_view, once_view, view_in, zip_at}
use Rattle.pb_plan.proofs.OnceLemmas.{Once, once_flat}
use Rattle.pb_runs.specs.Handed.{steps_by}
use Rattle.pb_views.specs.declared.seat.Seat.{Seat}
use Rattle.pb_views.specs.Seats.{across, cell_at, down, seat_cells}
use Rattle.pb_runs.specs.Steps.{Failed, Instance, Step, by_copy, by_job, by_trap, cells_of, seat_in, stop_number}
use Rattle.pb_run_plan.specs.RunTasks.{IsPartOf, Piece, piece_of, pieces_of, trapped_piece}
use Rattle.pb_run_plan.proofs.OnceLemmas.{once_apart, once_mapped, once_part}

-- a place of a piece has this cell
pub record IsPlaceOf (pieces : List Piece) (c : ℕ) : Type 0 where
  pub number : ℕ
  pub piece : Piece
  pub there : slice_get pieces number ≡ Some piece
  pub x : ℕ
  pub y : ℕ
  pub place : HasPlace piece.rect x y
  pub is : cell_at piece.seat x y ≡ c

-- the places of the pieces have just these cells, each one
pub record HaveCells (pieces : List Piece) (cells : List ℕ) : Type 0 where
  pub to : (k : ℕ) (q : Piece) → slice_get pieces k ≡ Some q → (x y : ℕ) → HasPlace q.rect x y → Contains cells (cell_at q.seat x y)
  pub from : (c : ℕ) → Contains cells c → IsPlaceOf pieces c
  pub one : (c : ℕ) (a b : IsPlaceOf pieces c) → (a.number ≡ b.number) × (a.x ≡ b.x) × (a.y ≡ b.y)

-- ---- places that are walked
module _ (i : Instance) (by : List Direction) (parts : List FramePart) where
  abbrev spots : List Spot
  spots = map (spot_of i.found.nodes) parts

  abbrev walk : List Stop
  walk = walk_of by spots

  stop_at : (k : ℕ) (part : FramePart) → slice_get parts k ≡ Some part → (x y : ℕ) → HasPlace part.rect x y → Contains walk (record { piece = k; base = (spot_of i.found.nodes part).base; x = x; y = y })
  stop_at k part there x y place =
      in_walk by spots (record { piece = k; base = (spot_of i.found.nodes part).base; x = x; y = y })
      (subst (λ o. IsSomeAnd o (λ (p : Spot). ((spot_of i.found.nodes part).base ≡ p.base) × HasPlace p.rect x y)) (sym (at_map (spot_of i.found.nodes) parts k part there)) (refl, place))

  -- the stop of a place
  stop_of : (c : ℕ) (a : IsPlaceOf (map (piece_of i) parts) c) → (s : Stop) × Contains walk s × (stop_number i s ≡ c) × (s.piece ≡ a.number) × (s.x ≡ a.x) × (s.y ≡ a.y)
  stop_of c a =
      let part = map_at (piece_of i) parts a.number a.piece a.there in
      let place : HasPlace part.0.rect a.x a.y = subst (λ (q : Piece). HasPlace q.rect a.x a.y) (sym part.2) a.place in
      (record { piece = a.number; base = (spot_of i.found.nodes part.0).base; x = a.x; y = a.y }, stop_at a.number part.0 part.1 a.x a.y place, ap (λ (q : Piece). cell_at q.seat a.x a.y) part.2 ∙ a.is, refl, refl, refl)

  pub walked_cells : Once (map (stop_number i) walk) → HaveCells (map (piece_of i) parts) (map (stop_number i) walk)
  walked_cells once = record {
    to = λ k q at x y place.
        let part = map_at (piece_of i) parts k q at in
        let here : HasPlace part.0.rect x y = subst (λ (z : Piece). HasPlace z.rect x y) (sym part.2) place in
        subst (λ (z : Piece). Contains (map (stop_number i) walk) (cell_at z.seat x y)) part.2
        (in_map (stop_number i) walk (record { piece = k; base = (spot_of i.found.nodes part.0).base; x = x; y = y }) (stop_at k part.0 part.1 x y here));
    from = λ c own.
        let s = map_in (stop_number i) walk c own in
        by_spot s.0 (slice_get spots s.0.piece) refl (walk_in by spots s.0 s.1) c s.2;
    one = λ c a b.
        let s = stop_of c a in
        let r = stop_of c b in
        let at_s = at_in walk s.0 s.1 in
        let at_r = at_in walk r.0 r.1 in
        let index = once_mapped (stop_number i) walk once at_s.0 at_r.0 s.0 r.0 at_s.1 at_r.1 (s.2 ∙ sym r.2) in
        let same : s.0 ≡ r.0 = some_same s.0 r.0 (sym at_s.1 ∙ ap (slice_get walk) index ∙ at_r.1) in
        (sym s.3 ∙ ap (λ (z : Stop). z.piece) same ∙ r.3, sym s.4 ∙ ap (λ (z : Stop). z.x) same ∙ r.4, sym s.5 ∙ ap (λ (z : Stop). z.y) same ∙ r.5);
  }
    where
      by_spot : (s : Stop) (o : Option Spot) → slice_get spots s.piece ≡ o → IsSomeAnd o (λ (p : Spot). (s.base ≡ p.base) × HasPlace p.rect s.x s.y) → (c : ℕ) → stop_number i s ≡ c → IsPlaceOf (map (piece_of i) parts) c
      by_spot s None e none c is = absurd none
      by_spot s (Some p) e some c is =
          let part = map_at (spot_of i.found.nodes) parts s.piece p e in
          record {
            number = s.piece;
            piece = piece_of i part.0;
            there = at_map (piece_of i) parts s.piece part.0 part.1;
            x = s.x;
            y = s.y;
            place = subst (λ (q : Spot). HasPlace q.rect s.x s.y) (sym part.2) some.1;
            is = ap (λ (m : ℕ). cell_at (seat_in i m) s.x s.y) (ap (λ (q : Spot). q.base) part.2 ∙ sym some.0) ∙ is;
          }

-- ---- whole matrices
module _ (f : Failed) where
  abbrev row_of : Seat → ℕ → List ℕ
  row_of s y = map (λ x. cell_at s x y) (range_with_len 0 (across s))

  in_seat : (s : Seat) (x y : ℕ) → x < across s → y < down s → Contains (seat_cells s) (cell_at s x y)
  in_seat s x y on_x on_y = in_flat (row_of s) (range_with_len 0 (down s)) y (cell_at s x y) (in_range (down s) y on_y) (in_map (λ u. cell_at s u y) (range_with_len 0 (across s)) x (in_range (across s) x on_x))

  seat_of : (c : ℕ) (a : IsPlaceOf (map (trapped_piece f) f.seats) c) → (s : Seat) × (slice_get f.seats a.number ≡ Some s) × (a.x < across s) × (a.y < down s) × (cell_at s a.x a.y ≡ c)
  seat_of c a =
      let s = map_at (trapped_piece f) f.seats a.number a.piece a.there in
      let place : HasPlace (trapped_piece f s.0).rect a.x a.y = subst (λ (q : Piece). HasPlace q.rect a.x a.y) (sym s.2) a.place in
      (s.0, s.1, place.right, place.high, ap (λ (q : Piece). cell_at q.seat a.x a.y) s.2 ∙ a.is)

  range_at : (n k : ℕ) → k < n → (j : ℕ) × (slice_get (range_with_len 0 n) j ≡ Some k)
  range_at n k below = at_in (range_with_len 0 n) k (in_range n k below)

  pub trapped_cells : Once (flat_map seat_cells f.seats) → HaveCells (map (trapped_piece f) f.seats) (flat_map seat_cells f.seats)
  trapped_cells once = record {
    to = λ k q at x y place.
        let s = map_at (trapped_piece f) f.seats k q at in
        let here : HasPlace (trapped_piece f s.0).rect x y = subst (λ (z : Piece). HasPlace z.rect x y) (sym s.2) place in
        subst (λ (z : Piece). Contains (flat_map seat_cells f.seats) (cell_at z.seat x y)) s.2 (in_flat seat_cells f.seats s.0 (cell_at s.0 x y) (in_at f.seats k s.0 s.1) (in_seat s.0 x y here.right here.high));
    from = λ c own.
        let s = flat_in seat_cells f.seats c own in
        let k = at_in f.seats s.0 s.1 in
        let row = flat_in (row_of s.0) (range_with_len 0 (down s.0)) c s.2 in
        let cell = map_in (λ x. cell_at s.0 x row.0) (range_with_len 0 (across s.0)) c row.2 in
        record {
          number = k.0;
          piece = trapped_piece f s.0;
          there = at_map (trapped_piece f) f.seats k.0 s.0 k.1;
          x = cell.0;
          y = row.0;
          place = record { left = omega arith; right = range_in (across s.0) cell.0 cell.1; low = omega arith; high = range_in (down s.0) row.0 row.1 };
          is = cell.2;
        };
    one = λ c a b.
        let s = seat_of c a in
        let r = seat_of c b in
        let here : Contains (seat_cells s.0) c = subst (Contains (seat_cells s.0)) s.4 (in_seat s.0 a.x a.y s.2 s.3) in
        let there : Contains (seat_cells r.0) c = subst (Contains (seat_cells r.0)) r.4 (in_seat r.0 b.x b.y r.2 r.3) in
        let number = once_apart seat_cells f.seats once a.number b.number s.0 r.0 c s.1 r.1 here there in
        let same : s.0 ≡ r.0 = some_same s.0 r.0 (sym s.1 ∙ ap (slice_get f.seats) number ∙ r.1) in
        let place = in_one s.0 a.number s.1 c a.x a.y b.x b.y s.2 s.3 (subst (λ (z : Seat). b.x < across z) (sym same) r.2) (subst (λ (z : Seat). b.y < down z) (sym same) r.3) s.4 (ap (λ (z : Seat). cell_at z b.x b.y) same ∙ r.4) in
        (number, place.0, place.1);
  }
    where
      in_one : (s : Seat) (k : ℕ) → slice_get f.seats k ≡ Some s → (c x y u v : ℕ) → x < across s → y < down s → u < across s → v < down s → cell_at s x y ≡ c → cell_at s u v ≡ c → (x ≡ u) × (y ≡ v)
      in_one s k at c x y u v on_x on_y on_u on_v is_x is_u =
          let all = once_part seat_cells f.seats once k s at in
          let row_y = range_at (down s) y on_y in
          let row_v = range_at (down s) v on_v in
          let in_y : Contains (row_of s y) c = subst (Contains (row_of s y)) is_x (in_map (λ z. cell_at s z y) (range_with_len 0 (across s)) x (in_range (across s) x on_x)) in
          let in_v : Contains (row_of s v) c = subst (Contains (row_of s v)) is_u (in_map (λ z. cell_at s z v) (range_with_len 0 (across s)) u (in_range (across s) u on_u)) in
          let rows = once_apart (row_of s) (range_with_len 0 (down s)) all row_y.0 row_v.0 y v c row_y.1 row_v.1 in_y in_v in
          let same_y : y ≡ v = some_same y v (sym row_y.1 ∙ ap (slice_get (range_with_len 0 (down s))) rows ∙ row_v.1) in
          let row = once_part (row_of s) (range_with_len 0 (down s)) all row_y.0 y row_y.1 in
          let at_x = range_at (across s) x on_x in
          let at_u = range_at (across s) u on_u in
          let columns = once_mapped (λ z. cell_at s z y) (range_with_len 0 (across s)) row at_x.0 at_u.0 x u at_x.1 at_u.1 (is_x ∙ sym is_u ∙ ap (cell_at s u) (sym same_y)) in
          (some_same x u (sym at_x.1 ∙ ap (slice_get (range_with_len 0 (across s))) columns ∙ at_u.1), same_y)

pub step_cells : (s : Step) → Once (cells_of s) → HaveCells (pieces_of s) (cells_of s)
unfolding cells_of
step_cells (by_job i job) once = walked_cells i (steps_by i.found.order.layers job.layer job.rule) job.parts once
step_cells (by_copy i c) once = walked_cells i [] c.parts once
step_cells (by_trap f) once = trapped_cells f once

-- ---- parts of a task
module _ (pieces : List Piece) (cells : List ℕ) (have : HaveCells pieces cells) (parts : List Part) (are : AllZip IsPartOf pieces parts) where
  abbrev all_cells : List ℕ
  all_cells = flat_map (λ (q : Part). view_cells q.view) parts

  -- a place of a part
  place_of : (k : ℕ) (part : Part) → slice_get parts k ≡ Some part → (x y : ℕ) → x < part.view.shape.w → y < part.view.shape.h → (c : ℕ) → cell_of part.view x y ≡ c → (a : IsPlaceOf pieces c) × (a.number ≡ k) × (a.x ≡ a.piece.rect.x0 + x) × (a.y ≡ a.piece.rect.y0 + y) × (slice_get pieces k ≡ Some a.piece)
  place_of k part at x y on_x on_y c is =
      let q = zip_at IsPartOf pieces parts are k part at in
      let shape = q.2.cells.shape in
      let wide : x < q.0.rect.x1 - q.0.rect.x0 = subst (λ s. x < s.w) shape on_x in
      let tall : y < q.0.rect.y1 - q.0.rect.y0 = subst (λ s. y < s.h) shape on_y in (
        record {
          number = k;
          piece = q.0;
          there = q.1;
          x = q.0.rect.x0 + x;
          y = q.0.rect.y0 + y;
          place = record { left = omega arith; right = omega (arith, wide); low = omega arith; high = omega (arith, tall) };
          is = sym (q.2.cells.cells x y wide tall) ∙ is;
        },
        refl,
        refl,
        refl,
        q.1,
      )

  pub part_to : (c : ℕ) → Contains all_cells c → Contains cells c
  part_to c h =
      let part = flat_in (λ (q : Part). view_cells q.view) parts c h in
      let k = at_in parts part.0 part.1 in
      let v = in_view part.0.view c part.2 in
      let a = (place_of k.0 part.0 k.1 v.0 v.1 v.2 v.3 c v.4).0 in
      subst (Contains cells) a.is (have.to a.number a.piece a.there a.x a.y a.place)

  pub part_from : (c : ℕ) → Contains cells c → Contains all_cells c
  part_from c h =
      let a = have.from c h in
      let part = at_zip IsPartOf pieces parts are a.number a.piece a.there in
      let shape = part.2.cells.shape in
      let rect = a.piece.rect in
      let wide : a.x - rect.x0 < rect.x1 - rect.x0 = omega (arith, a.place.left, a.place.right) in
      let tall : a.y - rect.y0 < rect.y1 - rect.y0 = omega (arith, a.place.low, a.place.high) in
      let back_x : rect.x0 + (a.x - rect.x0) ≡ a.x = omega (arith, a.place.left) in
      let back_y : rect.y0 + (a.y - rect.y0) ≡ a.y = omega (arith, a.place.low) in
      let shown = part.2.cells.cells (a.x - rect.x0) (a.y - rect.y0) wide tall in
      let is : cell_of part.0.view (a.x - rect.x0) (a.y - rect.y0) ≡ c = shown ∙ (λ k. cell_at a.piece.seat (back_x k) (back_y k)) ∙ a.is in
      in_flat (λ (q : Part). view_cells q.view) parts part.0 c (in_at parts a.number part.0 part.1)
      (subst (Contains (view_cells part.0.view)) is (view_in part.0.view (a.x - rect.x0) (a.y - rect.y0) (subst (λ s. a.x - rect.x0 < s.w) (sym shape) wide) (subst (λ s. a.y - rect.y0 < s.h) (sym shape) tall)))

  pub part_once : Once all_cells
  part_once =
      once_flat (λ (q : Part). view_cells q.view) parts
      (λ k part at. once_view part.view (λ x y u v on_x on_y on_u on_v same.
      let c = cell_of part.view u v in
      let a = place_of k part at x y on_x on_y c same in
      let b = place_of k part at u v on_u on_v c refl in
      let one = have.one c a.0 b.0 in
      let piece : a.0.piece ≡ b.0.piece = some_same a.0.piece b.0.piece (sym a.4 ∙ b.4) in
      let left : a.0.piece.rect.x0 ≡ b.0.piece.rect.x0 = ap (λ (q : Piece). q.rect.x0) piece in
      let low : a.0.piece.rect.y0 ≡ b.0.piece.rect.y0 = ap (λ (q : Piece). q.rect.y0) piece in
      (omega (arith, one.1, a.2, b.2, left), omega (arith, one.2, a.3, b.3, low))))
      (λ k l p q c at_p at_q in_p in_q.
      let vp = in_view p.view c in_p in
      let vq = in_view q.view c in_q in
      let a = place_of k p at_p vp.0 vp.1 vp.2 vp.3 c vp.4 in
      let b = place_of l q at_q vq.0 vq.1 vq.2 vq.3 c vq.4 in
      let one = have.one c a.0 b.0 in
      sym a.1 ∙ one.0 ∙ b.1)
