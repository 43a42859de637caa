-- Calls that can't be made: a trap in each cell of their targets.
use Rattle.std.proofs.Common.{◌≡◌, ◌∙◌, refl, sym, ap, subst, inl, inr, ℕ, zero, suc, ◌+◌, ◌-◌, ◌*◌, ◌<◌, Bool, true, false, List, [], ◌∷◌, ◌++◌, length, map, slice_get, Some, None, arith}
use Rattle.std.specs.Prelude.{filter, replicate, nat_lt, ◌&&◌}
use Rattle.std.specs.List.{AllZip, Contains, flat_map, range_with_len}
use Rattle.std.proofs.lemmas.Bool.Decides.{nat_tests}
use Rattle.std.proofs.lemmas.List.{length-replicate}
use Rattle.pb_values.specs.Views.{HasPlace}
use Rattle.pb_values.specs.declared.outcome.Outcome.{Outcome}
use Rattle.pb_links.specs.declared.places.Spot.{Spot}
use Rattle.pb_program.specs.Configs.{ConfigValue}
use Rattle.pb_model.specs.Calls.{Outcomes}
use Rattle.pb_model.specs.Cells.{natural}
use Rattle.pb_base.proofs.ListLemmas.{filter_in, flat_in, in_cases, in_flat, in_map, in_none, map_in}
use Rattle.pb_recursion.specs.Depths.{filled}
use Rattle.pb_recursion.specs.Shapes.{Sides, area}
use Rattle.pb_views.specs.declared.seat.Seat.{Seat}
use Rattle.pb_views.specs.Seats.{across, base_x, base_y, cell_at, down, seat_cells}
use Rattle.pb_runs.specs.Steps.{Target, by_trap, cells_in, cells_of}
use Rattle.pb_runs.specs.Unrolled.{Met, after_call, after_matrices, after_matrix, failed, seat_has_cells, seats_from, trap_step, whole_seat}
use Rattle.pb_runs.proofs.BaseLemmas.{HasSides, HaveSides, Reaches, Stands, reaches_both, stands_right}
use Rattle.pb_runs.proofs.CountLemmas.{counted, in_row, row_in, row_split}
use Rattle.pb_runs.proofs.SeatLemmas.{HasCell, whole_has, whole_placed}
use Rattle.pb_runs.proofs.OriginLemmas.{IsSmallTrap}
use Rattle.pb_runs.proofs.SoundLemmas.{Cells, IsDeep, IsLaid, Sound}
use Rattle.pb_runs.proofs.SpotLemmas.{IsCellAt, cell_has, cell_moved}
use Rattle.pb_runs.proofs.TallyLemmas.{Tallies, tallied}
use Rattle.pb_recursion.specs.Counts.{all_of, both, matrix_of, one_more}
use Rattle.pb_runs.specs.Placed.{IsPlaced, outcome_of, total}

-- ---- matrices one after the other
module _ (ms : List Outcomes) where
  area_is : (s : Sides) (m : Outcomes) → HasSides s m → length m.cells ≡ area s
  area_is s m h = h.2 ∙ (λ i. h.0 i * h.1 i)

  one_reaches : (n : Met) (s : Sides) (m : Outcomes) → HasSides s m → Reaches ms n (m ∷ []) (after_matrix n s)
  one_reaches n s m h = record { matrices = omega arith; cells = let cells = area_is s m h in omega (arith, cells) }

  pub seats_reach : (n : Met) (ss : List Sides) (mats : List Outcomes) → HaveSides ss mats → Reaches ms n mats (after_matrices n ss)
  seats_reach n [] [] h = record { matrices = omega arith; cells = omega arith }
  seats_reach n [] (m ∷ mats) h = absurd h
  seats_reach n (s ∷ ss) [] h = absurd h
  seats_reach n (s ∷ ss) (m ∷ mats) h = reaches_both ms n (after_matrix n s) (after_matrices (after_matrix n s) ss) (m ∷ []) mats (one_reaches n s m h.0) (seats_reach (after_matrix n s) ss mats h.1)

  pub seats_placed : (n : Met) (ss : List Sides) (mats : List Outcomes) → HaveSides ss mats → Stands ms n mats → AllZip (IsPlaced ms) (seats_from n ss) mats
  seats_placed n [] [] h stands = tt
  seats_placed n [] (m ∷ mats) h stands = absurd h
  seats_placed n (s ∷ ss) [] h stands = absurd h
  seats_placed n (s ∷ ss) (m ∷ mats) h stands = (
    whole_placed ms n s m mats stands h.0.0 h.0.1 h.0.2,
    seats_placed (after_matrix n s) ss mats h.1 (stands_right ms n (after_matrix n s) (m ∷ []) mats stands (one_reaches n s m h.0)),
  )

  pub seats_within : (n : Met) (ss : List Sides) (mats : List Outcomes) → HaveSides ss mats → (s : Seat) → Contains (seats_from n ss) s → (c : ℕ) → HasCell s c → Contains (range_with_len n.cells (total mats)) c
  seats_within n [] mats h s there c has = absurd (in_none s there)
  seats_within n (z ∷ ss) [] h s there c has = absurd h
  seats_within n (z ∷ ss) (m ∷ mats) h s there c has = elim (in_cases (whole_seat n z) s (seats_from (after_matrix n z) ss) there) [
    | inl same ↦
        let in_whole = whole_has n z c (subst (λ q. HasCell q c) (sym same) has) in
        let cells = area_is z m h.0 in
        row_in c n.cells (total (m ∷ mats)) in_whole.0 (omega (arith, in_whole.1, cells))
    | inr later ↦
        let rest = in_row c (n.cells + area z) (total mats) (seats_within (after_matrix n z) ss mats h.1 s later c has) in
        let cells = area_is z m h.0 in
        row_in c n.cells (total (m ∷ mats)) (omega (arith, rest.0)) (omega (arith, rest.1, cells))
  ]

-- ---- the cells of such a seat are numbers in a row
map_row : (f a n k : ℕ) → map (λ x. f + (a + (0 + x))) (range_with_len k n) ≡ range_with_len (f + a + k) n
map_row f a zero k = refl
map_row f a (suc n) k =
    let head : f + (a + (0 + k)) ≡ f + a + k = omega arith in
    let next : f + a + (k + 1) ≡ (f + a + k) + 1 = omega arith in
    (λ i. head i ∷ (map_row f a n (k + 1) ∙ ap (λ m. range_with_len m n) next) i)

rows_row : (f w h a : ℕ) → flat_map (λ y. map (λ x. f + ((0 + y) * w + (0 + x))) (range_with_len 0 w)) (range_with_len a h) ≡ range_with_len (f + a * w) (h * w)
rows_row f w zero a = let none : 0 ≡ 0 * w = omega arith in ap (range_with_len (f + a * w)) none
rows_row f w (suc h) a =
    let first : map (λ x. f + ((0 + a) * w + (0 + x))) (range_with_len 0 w) ≡ range_with_len (f + a * w) w = (map_row f ((0 + a) * w) w 0 ∙ ap (λ m. range_with_len m w) (let plain : (0 + a) * w ≡ a * w = ap (λ k. k * w) (omega arith) in omega (arith, plain))) in
    let step : f + (a + 1) * w ≡ (f + a * w) + w = grind arith in
    let count : suc h * w ≡ w + h * w = grind arith in
    (λ i. first i ++ (rows_row f w h (a + 1) ∙ ap (λ m. range_with_len m (h * w)) step) i) ∙ sym (row_split (f + a * w) w (h * w)) ∙ ap (range_with_len (f + a * w)) (sym count)

pub whole_cells : (n : Met) (s : Sides) → seat_cells (whole_seat n s) ≡ range_with_len n.cells (area s)
unfolding cell_at
whole_cells n s =
    let w = natural s.0 in
    let h = natural s.1 in
    let none : n.cells + 0 * w ≡ n.cells = omega arith in
    let count : h * w ≡ w * h = grind arith in
    (λ i. flat_map (λ y. map (λ x. n.cells + ((0 + y) * w + (0 + x))) (range_with_len 0 (minus_none w i))) (range_with_len 0 (minus_none h i))) ∙ rows_row n.cells w h 0 ∙ (λ i. range_with_len (none i) (count i))
  where
    minus_none : (k : ℕ) → k - 0 ≡ k
    minus_none k = omega arith

-- the seats without cells can be left out
pub full_cells : (n : Met) (ss : List Sides) → flat_map seat_cells (filter seat_has_cells (seats_from n ss)) ≡ flat_map seat_cells (seats_from n ss)
full_cells n [] = refl
full_cells n (s ∷ ss) = by (seat_has_cells (whole_seat n s)) refl (full_cells (after_matrix n s) ss)
  where
    some : (k : ℕ) → nat_lt 0 (suc k) ≡ true
    some k = grind (arith, nat_tests)

    empty : (w h : ℕ) → (nat_lt 0 w && nat_lt 0 h) ≡ false → w * h ≡ 0
    empty zero h f = omega arith
    empty (suc w) zero f = omega arith
    empty (suc w) (suc h) f = absurd (let wrong : true ≡ false = (λ i. sym (some w) i && sym (some h) i) ∙ f in cc)

    none : seat_has_cells (whole_seat n s) ≡ false → seat_cells (whole_seat n s) ≡ []
    none e = whole_cells n s ∙ ap (range_with_len n.cells) (empty (natural s.0) (natural s.1) e)

    by : (b : Bool) → seat_has_cells (whole_seat n s) ≡ b → flat_map seat_cells (filter seat_has_cells (seats_from (after_matrix n s) ss)) ≡ flat_map seat_cells (seats_from (after_matrix n s) ss)
        → flat_map seat_cells (filter seat_has_cells (seats_from n (s ∷ ss))) ≡ flat_map seat_cells (seats_from n (s ∷ ss))
    by true e rest = rw e (ap (λ l. seat_cells (whole_seat n s) ++ l) rest)
    by false e rest = rw e (rest ∙ ap (λ l. l ++ flat_map seat_cells (seats_from (after_matrix n s) ss)) (sym (none e)))

-- all together they are the cells of the matrices
pub all_cells : (ms : List Outcomes) (n : Met) (ss : List Sides) (mats : List Outcomes) → HaveSides ss mats → flat_map seat_cells (seats_from n ss) ≡ range_with_len n.cells (total mats)
all_cells ms n [] [] h = refl
all_cells ms n [] (m ∷ mats) h = absurd h
all_cells ms n (s ∷ ss) [] h = absurd h
all_cells ms n (s ∷ ss) (m ∷ mats) h =
    let cells : area s ≡ length m.cells = sym (h.0.2 ∙ (λ i. h.0.0 i * h.0.1 i)) in
    (λ i. whole_cells n s i ++ all_cells ms (after_matrix n s) ss mats h.1 i) ∙ sym (row_split n.cells (area s) (total mats)) ∙ ap (λ a. range_with_len n.cells (a + total mats)) cells

-- ---- a call that can't be made
pub filled_sides : (ms : List Outcomes) (o : Outcome) (ss : List Sides) → HaveSides ss (map (filled o) ss)
filled_sides ms o [] = tt
filled_sides ms o (s ∷ ss) = ((refl, refl, length-replicate (area s) o), filled_sides ms o ss)

same_filled : (n k : ℕ) (o q : Outcome) → slice_get (replicate n o) k ≡ Some q → q ≡ o
same_filled zero k o q e = absurd (let wrong : None ≡ Some q = e in cc)
same_filled (suc n) zero o q e = let some : Some o ≡ Some q = e in cc
same_filled (suc n) (suc k) o q e = same_filled n k o q e

module _ (config : ConfigValue) (ms : List Outcomes) where
  -- each cell has the trap
  filled_right : (o : Outcome) (n : Met) (ss : List Sides) → AllZip (IsPlaced ms) (seats_from n ss) (map (filled o) ss) → (s : Seat) → Contains (seats_from n ss) s → (c : ℕ) → HasCell s c → outcome_of ms c ≡ o
  filled_right o n [] placed s there c has = absurd (in_none s there)
  filled_right o n (z ∷ ss) placed s there c has = elim (in_cases (whole_seat n z) s (seats_from (after_matrix n z) ss) there) [
    | inl same ↦
        let h = subst (λ q. HasCell q c) (sym same) has in
        let at = placed.0.cells h.0 h.1 h.2 h.3 in
        ap (outcome_of ms) h.4 ∙ at.2.is ∙ same_filled (area z) (h.1 * natural z.0 + h.0) o at.0 at.1
    | inr later ↦ filled_right o (after_matrix n z) ss placed.1 s later c has
  ]

  seat_in_row : (s : Seat) (c : ℕ) → Contains (seat_cells s) c → HasCell s c
  seat_in_row s c h =
      let row = flat_in (λ y. map (λ x. cell_at s x y) (range_with_len 0 (across s))) (range_with_len 0 (down s)) c h in
      let at = map_in (λ x. cell_at s x row.0) (range_with_len 0 (across s)) c row.2 in
      let in_x = in_row at.0 0 (across s) at.1 in
      let in_y = in_row row.0 0 (down s) row.1 in
      (at.0, row.0, omega (arith, in_x.1), omega (arith, in_y.1), sym at.2)

  filter_from : (ss : List Seat) (s : Seat) → Contains (filter seat_has_cells ss) s → Contains ss s
  filter_from ss s h = (filter_in seat_has_cells ss s h).0

  trap_cells : (targets : List Target) (first call : ℕ) (o : Outcome) (seats : List Seat) → cells_in (trap_step targets first call o seats) ≡ flat_map seat_cells seats
  unfolding cells_of
  trap_cells targets first call o [] = refl
  trap_cells targets first call o (s ∷ seats) = append_none (flat_map seat_cells (s ∷ seats))
    where
      append_none : (xs : List ℕ) → xs ++ [] ≡ xs
      append_none [] = refl
      append_none (x ∷ xs) = ap (λ l. x ∷ l) (append_none xs)

  -- a seat of a matrix with cells of its own
  record IsWholeSeat (s : Seat) : Type 0 where
    met : Met
    sides : Sides
    is : s ≡ whole_seat met sides
    grid : Outcomes
    placed : IsPlaced ms s grid

  whole_in : (n : Met) (ss : List Sides) (mats : List Outcomes) → AllZip (IsPlaced ms) (seats_from n ss) mats → (s : Seat) → Contains (seats_from n ss) s → IsWholeSeat s
  whole_in n [] mats placed s h = absurd (in_none s h)
  whole_in n (z ∷ ss) [] placed s h = absurd placed
  whole_in n (z ∷ ss) (m ∷ mats) placed s h = elim (in_cases (whole_seat n z) s (seats_from (after_matrix n z) ss) h) [
    | inl same ↦ record { met = n; sides = z; is = sym same; grid = m; placed = subst (λ q. IsPlaced ms q m) same placed.0 }
    | inr later ↦ whole_in (after_matrix n z) ss mats placed.1 s later
  ]

  -- its places have its cells
  seat_place : (s : Seat) → IsWholeSeat s → (u v : ℕ) → HasPlace s.rect u v → (u < across s) × (v < down s) × IsCellAt ms s.base u v (cell_at s u v)
  seat_place s w u v place =
      let right = ap (λ (q : Seat). q.rect.x1) w.is in
      let high = ap (λ (q : Seat). q.rect.y1) w.is in
      let wide = ap across w.is in
      let tall = ap down w.is in
      let on_x : u < across s = omega (arith, place.right, right, wide) in
      let on_y : v < down s = omega (arith, place.high, high, tall) in
      let at_x : base_x s u v ≡ u = (let e = ap (λ (q : Seat). base_x q u v) w.is in omega (arith, e)) in
      let at_y : base_y s u v ≡ v = (let e = ap (λ (q : Seat). base_y q u v) w.is in omega (arith, e)) in
      (on_x, on_y, cell_moved ms s.base s.base (base_x s u v) (base_y s u v) u v (cell_at s u v) refl at_x at_y (cell_has ms s w.grid w.placed u v on_x on_y))

  place_seat : (s : Seat) → IsWholeSeat s → (u v : ℕ) → u < across s → v < down s → HasPlace s.rect u v
  place_seat s w u v on_x on_y =
      let left = ap (λ (q : Seat). q.rect.x0) w.is in
      let right = ap (λ (q : Seat). q.rect.x1) w.is in
      let low = ap (λ (q : Seat). q.rect.y0) w.is in
      let high = ap (λ (q : Seat). q.rect.y1) w.is in
      let wide = ap across w.is in
      let tall = ap down w.is in
      record { left = omega (arith, left); right = omega (arith, on_x, right, wide); low = omega (arith, low); high = omega (arith, on_y, high, tall) }

  trap_laid : (targets : List Target) (first call : ℕ) (o : Outcome) (seats : List Seat) → ((s : Seat) → Contains seats s → IsWholeSeat s) → IsLaid config ms (by_trap (record { call = call; outcome = o; targets = targets; first = first; seats = seats }))
  unfolding cells_of
  trap_laid targets first call o seats whole = record {
    shown = λ b h u v has. absurd (in_none b h);
    reads = λ c none. absurd none;
    parts = λ b h u v has.
        let f = map_in (λ (s : Seat). record { base = s.base; rect = s.rect }) seats b h in
        let s = f.0 in
        let at = seat_place s (whole s f.1) u v (subst (λ (z : Spot). HasPlace z.rect u v) (sym f.2) has) in
        let row = in_map (λ x. cell_at s x v) (range_with_len 0 (across s)) u (row_in u 0 (across s) (omega arith) (omega (arith, at.0))) in
        let own = in_flat (λ y. map (λ x. cell_at s x y) (range_with_len 0 (across s))) (range_with_len 0 (down s)) v (cell_at s u v) (row_in v 0 (down s) (omega arith) (omega (arith, at.1))) row in
        (cell_at s u v, subst (λ (z : Spot). IsCellAt ms z.base u v (cell_at s u v)) f.2 at.2, in_flat seat_cells seats s (cell_at s u v) f.1 own);
    held = λ n h.
        let f = flat_in seat_cells seats n h in
        let s = f.0 in
        let c = seat_in_row s n f.2 in
        let place = place_seat s (whole s f.1) c.0 c.1 c.2 c.3 in
        (record { base = s.base; rect = s.rect }, in_map (λ (z : Seat). record { base = z.base; rect = z.rect }) seats s f.1, c.0, c.1, place, subst (IsCellAt ms s.base c.0 c.1) (sym c.4) (seat_place s (whole s f.1) c.0 c.1 place).2);
  }

  trap_sound : (known : Cells) (targets : List Target) (first call : ℕ) (o : Outcome) → IsSmallTrap config ms o → (seats : List Seat) → ((s : Seat) → Contains seats s → (c : ℕ) → HasCell s c → outcome_of ms c ≡ o) → IsLaid config ms (by_trap (record { call = call; outcome = o; targets = targets; first = first; seats = seats })) → Sound config ms known (trap_step targets first call o seats)
  unfolding cells_of
  trap_sound known targets first call o small [] right laid = tt
  trap_sound known targets first call o small (s ∷ seats) right laid =
      (record { from = small; given = tt; reads = λ b h c cell. absurd (in_none b h); right = λ c h. (let seat = flat_in seat_cells (s ∷ seats) c h in right seat.0 seat.1 c (seat_in_row seat.0 c seat.2)); laid = laid }, tt)

  pub failed_deep : (known : Cells) (targets : List Target) (o : Outcome) → IsSmallTrap config ms o → (ss : List Sides) (n : Met) → Stands ms n (map (filled o) ss) → IsDeep config ms known n (failed targets o ss n) (map (filled o) ss) (map (filled o) ss)
  failed_deep known targets o small ss n stands =
      let m = after_call n in
      let sides = filled_sides ms o ss in
      let stands_m : Stands ms m (map (filled o) ss) = record { at = stands.at; cells = stands.cells } in
      let placed = seats_placed ms m ss (map (filled o) ss) sides stands_m in
      let reach = seats_reach ms m ss (map (filled o) ss) sides in
      let full = filter seat_has_cells (seats_from m ss) in
      record {
        placed = placed;
        within = seats_within ms m ss (map (filled o) ss) sides;
        sound = trap_sound known targets n.matrices n.calls o small full (λ s there c has. filled_right o m ss placed s (filter_from (seats_from m ss) s there) c has) (trap_laid targets n.matrices n.calls o full (λ s there. whole_in m ss (map (filled o) ss) placed s (filter_from (seats_from m ss) s there)));
        counts = λ c. ap (counted c) (trap_cells targets n.matrices n.calls o full ∙ full_cells m ss ∙ all_cells ms m ss (map (filled o) ss) sides);
        reaches = record { matrices = reach.matrices; cells = reach.cells };
      }

-- it counts once, with a matrix for each target
seats_calls : (n : Met) (ss : List Sides) → (after_matrices n ss).calls ≡ n.calls
seats_calls n [] = refl
seats_calls n (s ∷ ss) = seats_calls (after_matrix n s) ss

pub failed_tally : (ms : List Outcomes) (targets : List Target) (o : Outcome) (ss : List Sides) (n : Met) → Tallies n (failed targets o ss n).next (map (filled o) ss) (both one_more (all_of (map matrix_of ss)))
failed_tally ms targets o ss n =
    let t = tallied ss (map (filled o) ss) (filled_sides ms o ss) in
    record { calls = omega (arith, seats_calls (after_call n) ss, t.calls); side = omega (arith, t.side); cells = omega (arith, t.cells) }

-- matrices that are met one after the other
pub seats_tally : (n : Met) (ss : List Sides) (mats : List Outcomes) → HaveSides ss mats → Tallies n (after_matrices n ss) mats (all_of (map matrix_of ss))
seats_tally n ss mats h = let t = tallied ss mats h in record { calls = omega (arith, seats_calls n ss, t.calls); side = t.side; cells = t.cells }
