-- The outputs of a rule that makes more than a cell: each cell that it makes lies in one of them.
use Rattle.std.proofs.Common.{◌≡◌, ◌∙◌, refl, sym, ap, subst, inl, inr, ⊎_elim, ℕ, zero, suc, ◌+◌, ◌-◌, ◌<◌, ◌≤◌, ℤ, pos, ◌≤ℤ◌, ◌<ℤ◌, Bool, true, false, ◌&&◌, ◌||◌, not, List, [], ◌∷◌, slice_get, Option, Some, None, arith}
use Rattle.std.specs.Prelude.{◌==◌, nat_lt, int_le, int_lt}
use Rattle.std.specs.List.{list_any}
use Rattle.std.specs.Option.{option_map_or}
use Rattle.std.proofs.lemmas.Bool.{and_parts, cases_lt, eq-eqb, eqb-true}
use Rattle.std.proofs.lemmas.Bool.Decides.{nat_tests}
use Rattle.std.proofs.lemmas.Int.{ints}
use Rattle.pb_linear.specs.Sizes.{InRange}
use Rattle.pb_linear.proofs.SizesLemmas.{le_everywhere-at}
use Rattle.pb_program.specs.Areas.{Area, IsIn, area_of}
use Rattle.pb_program.specs.Forms.{CoordinateValue, DeclValue, coordinate_at}
use Rattle.pb_program.specs.Trees.{ProgTransform}
use Rattle.pb_program.specs.declared.plan.Slot.{Slot}
use Rattle.pb_program.specs.declared.plan.Slot.TheVariants as slot
use Rattle.pb_program.specs.declared.view.Read.{Read}
use Rattle.pb_region.specs.Ends.{Interval, area_at, ends_of}
use Rattle.pb_region.specs.Overlaps.{HasNoOverlap, are_apart, are_separate, both_overlap, is_before, overlap_at}
use Rattle.pb_region.proofs.AreaLemmas.{ends_area}
use Rattle.pb_model.specs.Cells.{Cell, natural}
use Rattle.pb_model.specs.Equations.{shown_area}
use Rattle.pb_model.specs.Grids.{Grid, at_place}
use Rattle.pb_model.specs.Lawful.{has, output_holds}
use Rattle.pb_check.proofs.LawfulLemmas.{le_true, lt_true}
use Rattle.pb_grid.proofs.OrderLemmas.{or_cases}
use Rattle.pb_recursion.specs.Depths.{in_outputs_of}
use Rattle.pb_recursion.specs.Plans.{no_cell}

module _ (matrices : List DeclValue) (sizes : List ℕ) (c : Cell) where
  -- an output holds the cell
  pub record Holds (o : Read) : Type 0 where
    pub matrix : o.matrix ≡ c.matrix
    pub decl : DeclValue
    pub there : slice_get matrices o.matrix ≡ Some decl
    pub inside : IsIn (shown_area matrices sizes no_cell o) (pos c.x) (pos c.y)

  pub holds_is : (o : Read) → output_holds matrices sizes c o ≡ true → Holds o
  holds_is o h = by (slice_get matrices o.matrix) refl (and_parts (o.matrix == c.matrix) (option_map_or (λ d. has (area_of sizes (pos 0) (pos 0) o d) (pos c.x) (pos c.y)) (slice_get matrices o.matrix) false) h)
    where
      by : (q : Option DeclValue) → slice_get matrices o.matrix ≡ q → ((o.matrix == c.matrix) ≡ true) × (option_map_or (λ d. has (area_of sizes (pos 0) (pos 0) o d) (pos c.x) (pos c.y)) q false ≡ true) → Holds o
      by None e parts = absurd (let wrong : false ≡ true = parts.1 in cc)
      by (Some d) e parts =
          let a = area_of sizes (pos 0) (pos 0) o d in
          let area : a ≡ shown_area matrices sizes no_cell o = sym (rw e refl) in
          let axes = and_parts (int_le a.x.low (pos c.x) && int_lt (pos c.x) a.x.high) (int_le a.y.low (pos c.y) && int_lt (pos c.y) a.y.high) parts.1 in
          let on_x = and_parts (int_le a.x.low (pos c.x)) (int_lt (pos c.x) a.x.high) axes.0 in
          let on_y = and_parts (int_le a.y.low (pos c.y)) (int_lt (pos c.y) a.y.high) axes.1 in
          let here : IsIn a (pos c.x) (pos c.y) = record { left = (le_true _ _).0 on_x.0; right = (lt_true _ _).0 on_x.1; low = (le_true _ _).0 on_y.0; high = (lt_true _ _).0 on_y.1 } in
          record { matrix = eqb-true o.matrix c.matrix parts.0; decl = d; there = e; inside = subst (λ (z : Area). IsIn z (pos c.x) (pos c.y)) area here }

  -- the first that does
  pub some_output : (outs : List Read) → list_any (output_holds matrices sizes c) outs ≡ true → (m : ℕ) × (o : Read) × (slice_get outs m ≡ Some o) × (output_holds matrices sizes c o ≡ true)
  some_output [] h = absurd (let wrong : false ≡ true = h in cc)
  some_output (o ∷ outs) h = by (output_holds matrices sizes c o) refl h (some_output outs)
    where
      by : (b : Bool) → output_holds matrices sizes c o ≡ b → (b || list_any (output_holds matrices sizes c) outs) ≡ true → (list_any (output_holds matrices sizes c) outs ≡ true → (m : ℕ) × (q : Read) × (slice_get outs m ≡ Some q) × (output_holds matrices sizes c q ≡ true))
          → (m : ℕ) × (q : Read) × (slice_get (o ∷ outs) m ≡ Some q) × (output_holds matrices sizes c q ≡ true)
      by true e h rest = (0, o, refl, e)
      by false e h rest = let r = rest h in (suc r.0, r.1, r.2, r.3)

  module _ (leasts : List ℕ) (range : InRange leasts sizes) where
    before_at : (a b : CoordinateValue) → is_before leasts a b ≡ true → coordinate_at a sizes (pos 0) (pos 0) ≤ℤ coordinate_at b sizes (pos 0) (pos 0)
    unfolding is_before
    before_at a b h = le_everywhere-at leasts (λ s. coordinate_at a s (pos 0) (pos 0)) (λ s. coordinate_at b s (pos 0) (pos 0)) h sizes range

    abbrev low_of : Interval → ℤ
    low_of e = coordinate_at e.low sizes (pos 0) (pos 0)

    abbrev high_of : Interval → ℤ
    high_of e = coordinate_at e.high sizes (pos 0) (pos 0)

    apart_never : (a b : Interval) (z : ℤ) → are_apart leasts a b ≡ true → low_of a ≤ℤ z → z <ℤ high_of a → low_of b ≤ℤ z → z <ℤ high_of b → ⊥
    apart_never a b z h la ha lb hb = elim (or_cases (is_before leasts a.high b.low) (is_before leasts b.high a.low) h) [
      | inl first ↦ let e = before_at a.high b.low first in omega (arith, ints, e, ha, lb)
      | inr second ↦ let e = before_at b.high a.low second.1 in omega (arith, ints, e, hb, la)
    ]

    in_ends : (o : Read) (h : Holds o) → IsIn (area_at (ends_of matrices o) sizes (pos 0) (pos 0)) (pos c.x) (pos c.y)
    in_ends o h = subst (λ (z : Area). IsIn z (pos c.x) (pos c.y)) (area ∙ sym (ends_area sizes (pos 0) (pos 0) matrices o h.decl h.there)) h.inside
      where
        area : shown_area matrices sizes no_cell o ≡ area_of sizes (pos 0) (pos 0) o h.decl
        area = let e = h.there in rw e refl

    separate_never : (o q : Read) → Holds o → Holds q → are_separate leasts (ends_of matrices o) (ends_of matrices q) ≡ true → ⊥
    separate_never o q ho hq h =
        let io = in_ends o ho in
        let iq = in_ends q hq in
        elim (or_cases (are_apart leasts (ends_of matrices o).x (ends_of matrices q).x) (are_apart leasts (ends_of matrices o).y (ends_of matrices q).y) h) [
          | inl on_x ↦ apart_never (ends_of matrices o).x (ends_of matrices q).x (pos c.x) on_x io.left io.right iq.left iq.right
          | inr on_y ↦ apart_never (ends_of matrices o).y (ends_of matrices q).y (pos c.y) on_y.1 io.low io.high iq.low iq.high
        ]

    later_never : (outs : List Read) → HasNoOverlap leasts matrices outs → (l m : ℕ) (o q : Read) → l < m → slice_get outs l ≡ Some o → slice_get outs m ≡ Some q → Holds o → Holds q → ⊥
    unfolding overlap_at
    later_never outs free l m o q less at_l at_m ho hq =
        let test : nat_lt l m ≡ true = grind (arith, nat_tests, less) in
        let none : (nat_lt l m && both_overlap leasts matrices (slice_get outs l) (slice_get outs m)) ≡ false = free l m in
        let both_none : (true && both_overlap leasts matrices (Some o) (Some q)) ≡ false = (λ k. sym test k && both_overlap leasts matrices (sym at_l k) (sym at_m k)) ∙ none in
        let on : (o.matrix == q.matrix) ≡ true = eq-eqb o.matrix q.matrix (ho.matrix ∙ sym hq.matrix) in
        separate_never o q ho hq (separate (o.matrix == q.matrix) (are_separate leasts (ends_of matrices o) (ends_of matrices q)) on both_none)
      where
        separate : (b s : Bool) → b ≡ true → (b && not s) ≡ false → s ≡ true
        separate true true e h = refl
        separate true false e h = absurd (let wrong : true ≡ false = h in cc)
        separate false s e h = absurd (let wrong : false ≡ true = e in cc)

    -- one output at most holds it
    pub one_output : (outs : List Read) → HasNoOverlap leasts matrices outs → (l m : ℕ) (o q : Read) → slice_get outs l ≡ Some o → slice_get outs m ≡ Some q → Holds o → Holds q → l ≡ m
    one_output outs free l m o q at_l at_m ho hq = ⊎_elim
        (λ (less : l < m). absurd (later_never outs free l m o q less at_l at_m ho hq))
        (λ (more : m ≤ l). ⊎_elim (λ (above : m < l). absurd (later_never outs free m l q o above at_m at_l hq ho)) (λ (least : l ≤ m). omega (arith, more, least)) (cases_lt m l))
        (cases_lt l m)

-- ---- the cell's place in the output that holds it
pub in_output : {A : Type 0} (t : ProgTransform) (sizes : List ℕ) (M : Slot → Grid A) (c : Cell) (outs : List Read) (n m : ℕ) (o : Read) → slice_get outs m ≡ Some o → output_holds t.matrices sizes c o ≡ true
    → ((l : ℕ) (q : Read) → slice_get outs l ≡ Some q → output_holds t.matrices sizes c q ≡ true → l ≡ m)
    → in_outputs_of t sizes M c n outs ≡ at_place (M (slot.Out (n + m))) (c.x - natural (shown_area t.matrices sizes no_cell o).x.low) (c.y - natural (shown_area t.matrices sizes no_cell o).y.low)
in_output t sizes M c [] n m o at holds alone = absurd (let wrong : None ≡ Some o = at in cc)
in_output t sizes M c (z ∷ outs) n zero o at holds alone =
    let some : Some z ≡ Some o = at in
    let same : z ≡ o = cc in
    let here : output_holds t.matrices sizes c z ≡ true = ap (output_holds t.matrices sizes c) same ∙ holds in
    let number : n + 0 ≡ n = omega arith in
    rw (here, number) (ap (λ (q : Read). at_place (M (slot.Out n)) (c.x - natural (shown_area t.matrices sizes no_cell q).x.low) (c.y - natural (shown_area t.matrices sizes no_cell q).y.low)) same)
in_output t sizes M c (z ∷ outs) n (suc m) o at holds alone = by (output_holds t.matrices sizes c z) refl (in_output t sizes M c outs (n + 1) m o at holds (λ l q at_l h. let same = alone (suc l) q at_l h in omega (arith, same)))
  where
    by : (b : Bool) → output_holds t.matrices sizes c z ≡ b → in_outputs_of t sizes M c (n + 1) outs ≡ at_place (M (slot.Out ((n + 1) + m))) (c.x - natural (shown_area t.matrices sizes no_cell o).x.low) (c.y - natural (shown_area t.matrices sizes no_cell o).y.low)
        → in_outputs_of t sizes M c n (z ∷ outs) ≡ at_place (M (slot.Out (n + suc m))) (c.x - natural (shown_area t.matrices sizes no_cell o).x.low) (c.y - natural (shown_area t.matrices sizes no_cell o).y.low)
    by true e rest = absurd (let same = alone 0 z refl e in omega (arith, same))
    by false e rest = let number : n + suc m ≡ (n + 1) + m = omega arith in rw (e, number) rest
