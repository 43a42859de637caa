-- The first trap among outcomes.
use Rattle.std.proofs.Common.{◌≡◌, ◌∙◌, refl, sym, ap, subst, ℕ, zero, suc, ◌+◌, ◌-◌, ◌<◌, ◌≤◌, List, [], ◌∷◌, ◌++◌, length, drop, get_or, map, Option, Some, None, drop-cons, add-one, arith}
use Rattle.std.specs.List.{flat_map, range_with_len}
use Rattle.std.proofs.lemmas.List.{map-append}
use Rattle.pb_values.specs.Cells.{TellsTrap, Turn}
use Rattle.pb_values.specs.Views.{cell_of, view_cells}
use Rattle.pb_values.specs.declared.outcome.Outcome.{Outcome}
use Rattle.pb_values.specs.declared.outcome.Outcome.TheVariants.{Trapped, Value}
use Rattle.pb_values.specs.declared.outcome.Trap.{Trap}
use Rattle.pb_values.specs.declared.view.View.{View}
use Rattle.pb_model.specs.Equations.{first_trap}
use Rattle.pb_statements.specs.Shown.{outcome_of, seen_by}
use Rattle.pb_eval.specs.Traps.{outcomes_from, rows_seen, views_seen}
use Rattle.pb_statements.proofs.PlaceLemmas.{map_rows}
use Rattle.pb_statements.proofs.SumLemmas.{range_end, range_next}
use Rattle.pb_statements.proofs.ViewLemmas.{has_trap, has_value}

trap_none : (l rest : List Outcome) → first_trap l ≡ None → first_trap (l ++ rest) ≡ first_trap rest
unfolding first_trap
trap_none [] rest e = refl
trap_none (Trapped t ∷ l) rest e = absurd (cc)
trap_none (Value v ∷ l) rest e = trap_none l rest e

trap_some : (l rest : List Outcome) (t : Trap) → first_trap l ≡ Some t → first_trap (l ++ rest) ≡ Some t
unfolding first_trap
trap_some [] rest t e = absurd (cc)
trap_some (Trapped u ∷ l) rest t e = e
trap_some (Value v ∷ l) rest t e = trap_some l rest t e

module _ (turn : Turn) (v : View) where
  row_next : (y x : ℕ) → x < v.shape.w → outcomes_from turn v y x ≡ outcome_of turn (cell_of v x y) ∷ outcomes_from turn v y (x + 1)
  unfolding outcomes_from
  row_next y x below = ap (map (λ i. outcome_of turn (cell_of v i y))) (range_next x v.shape.w below)

  pub row_number : (y x cell : ℕ) (o : Option Trap) → x < v.shape.w → cell ≡ cell_of v x y → TellsTrap (turn.outcomes cell) o → o ≡ None → first_trap (outcomes_from turn v y (x + 1)) ≡ first_trap (outcomes_from turn v y x)
  unfolding first_trap
  row_number y x cell o below at told is =
      let value = has_value turn cell (subst (TellsTrap (turn.outcomes cell)) is told) in
      sym (ap first_trap (row_next y x below) ∙ ap (λ p. first_trap (p ∷ outcomes_from turn v y (x + 1))) (ap (outcome_of turn) (sym at) ∙ value.1))

  pub row_trapped : (y x cell : ℕ) (o : Option Trap) (t : Trap) → x < v.shape.w → cell ≡ cell_of v x y → TellsTrap (turn.outcomes cell) o → o ≡ Some t → Some t ≡ first_trap (outcomes_from turn v y x)
  unfolding first_trap
  row_trapped y x cell o t below at told is =
      let trap = has_trap turn cell t (subst (TellsTrap (turn.outcomes cell)) is told) in
      sym (ap first_trap (row_next y x below) ∙ ap (λ p. first_trap (p ∷ outcomes_from turn v y (x + 1))) (ap (outcome_of turn) (sym at) ∙ trap))

  pub row_end : (y x : ℕ) → v.shape.w ≤ x → None ≡ first_trap (outcomes_from turn v y x)
  unfolding first_trap outcomes_from
  row_end y x past = sym (ap (λ l. first_trap (map (λ i. outcome_of turn (cell_of v i y)) l)) (range_end x v.shape.w past))

  rows_next : (y : ℕ) → y < v.shape.h → rows_seen turn v y ≡ outcomes_from turn v y 0 ++ rows_seen turn v (y + 1)
  unfolding rows_seen
  rows_next y below = ap (flat_map (λ j. outcomes_from turn v j 0)) (range_next y v.shape.h below)

  pub rows_none : (y : ℕ) → y < v.shape.h → None ≡ first_trap (outcomes_from turn v y 0) → first_trap (rows_seen turn v (y + 1)) ≡ first_trap (rows_seen turn v y)
  rows_none y below e = sym (ap first_trap (rows_next y below) ∙ trap_none (outcomes_from turn v y 0) (rows_seen turn v (y + 1)) (sym e))

  pub rows_some : (y : ℕ) (t : Trap) → y < v.shape.h → Some t ≡ first_trap (outcomes_from turn v y 0) → Some t ≡ first_trap (rows_seen turn v y)
  rows_some y t below e = sym (ap first_trap (rows_next y below) ∙ trap_some (outcomes_from turn v y 0) (rows_seen turn v (y + 1)) t (sym e))

  pub rows_end : (y : ℕ) → v.shape.h ≤ y → None ≡ first_trap (rows_seen turn v y)
  unfolding first_trap rows_seen
  rows_end y past = sym (ap (λ l. first_trap (flat_map (λ j. outcomes_from turn v j 0) l)) (range_end y v.shape.h past))

  pub cell_alone : (cell : ℕ) (o : Option Trap) → v.shape.w ≡ 1 → v.shape.h ≡ 1 → cell ≡ cell_of v 0 0 → TellsTrap (turn.outcomes cell) o → o ≡ first_trap (rows_seen turn v 0)
  cell_alone cell None wide tall at told =
      let row : None ≡ first_trap (outcomes_from turn v 0 0) = row_end 0 1 (omega (arith, wide)) ∙ row_number 0 0 cell None (omega (arith, wide)) at told refl in
      rows_end 1 (omega (arith, tall)) ∙ rows_none 0 (omega (arith, tall)) row
  cell_alone cell (Some t) wide tall at told = rows_some 0 t (omega (arith, tall)) (row_trapped 0 0 cell (Some t) t (omega (arith, wide)) at told refl)

module _ (turn : Turn) (views : List View) where
  views_next : (i : ℕ) (v : View) → i < length views → v ≡ get_or views i v → views_seen turn (drop i views) ≡ rows_seen turn v 0 ++ views_seen turn (drop (i + 1) views)
  unfolding views_seen
  views_next i v below is = rw (add-one) (ap (flat_map (λ u. rows_seen turn u 0)) (drop-cons views i v below ∙ ap (λ u. u ∷ drop (suc i) views) (sym is)))

  pub views_none : (i : ℕ) (v : View) → i < length views → v ≡ get_or views i v → None ≡ first_trap (rows_seen turn v 0) → first_trap (views_seen turn (drop (i + 1) views)) ≡ first_trap (views_seen turn (drop i views))
  views_none i v below is e = sym (ap first_trap (views_next i v below is) ∙ trap_none (rows_seen turn v 0) (views_seen turn (drop (i + 1) views)) (sym e))

  pub views_some : (i : ℕ) (v : View) (t : Trap) → i < length views → v ≡ get_or views i v → Some t ≡ first_trap (rows_seen turn v 0) → Some t ≡ first_trap (views_seen turn (drop i views))
  views_some i v t below is e = sym (ap first_trap (views_next i v below is) ∙ trap_some (rows_seen turn v 0) (views_seen turn (drop (i + 1) views)) t (sym e))

  pub views_end : (i : ℕ) → length views ≤ i → None ≡ first_trap (views_seen turn (drop i views))
  unfolding first_trap views_seen
  views_end i past = sym (ap (λ l. first_trap (flat_map (λ u. rows_seen turn u 0) l)) (none views i past))
    where
      none : (l : List View) (i : ℕ) → length l ≤ i → drop i l ≡ []
      none [] zero past = refl
      none [] (suc i) past = refl
      none (n ∷ l) zero past = absurd (omega arith)
      none (n ∷ l) (suc i) past = none l i (omega arith)

-- all of them
view_seen : (turn : Turn) (v : View) → map (outcome_of turn) (view_cells v) ≡ rows_seen turn v 0
unfolding rows_seen outcomes_from
view_seen turn v =
    let ew : v.shape.w - 0 ≡ v.shape.w = omega arith in
    let eh : v.shape.h - 0 ≡ v.shape.h = omega arith in
    map_rows (outcome_of turn) (cell_of v) v.shape.w (range_with_len 0 v.shape.h)
    ∙ ap (λ w. flat_map (λ j. map (λ i. outcome_of turn (cell_of v i j)) (range_with_len 0 w)) (range_with_len 0 v.shape.h)) (sym ew)
    ∙ ap (λ h. flat_map (λ j. map (λ i. outcome_of turn (cell_of v i j)) (range_with_len 0 (v.shape.w - 0))) (range_with_len 0 h)) (sym eh)

pub seen_is : (turn : Turn) (views : List View) → views_seen turn views ≡ seen_by turn views
unfolding views_seen
seen_is turn [] = refl
seen_is turn (v ∷ views) = ap (λ l. l ++ views_seen turn views) (sym (view_seen turn v)) ∙ ap (λ l. map (outcome_of turn) (view_cells v) ++ l) (seen_is turn views) ∙ sym (map-append (outcome_of turn) (view_cells v) (flat_map view_cells views))
