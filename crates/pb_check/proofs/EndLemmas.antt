-- The numbers of the ends of segments and reads are small, and segments are few.
use Rattle.std.proofs.Common.{◌≡◌, ◌∙◌, refl, sym, ap, subst, inl, inr, ℕ, ◌-◌, ◌*◌, ◌^◌, ◌<◌, ◌≤◌, List, [], ◌∷◌, length, map, get_or, slice_get, Some, arith}
use Rattle.std.specs.List.{All, AllByRecursion, Contains, enumerate_from}
use Rattle.std.proofs.lemmas.List.{length-append, length-map}
use Rattle.std.proofs.lemmas.List.FromFn.{length-range_with_len}
use Rattle.std.proofs.lemmas.List.Elements.{All-append, All-nil, Contains-get_or}
use Rattle.pb_linear.specs.Form.{numbers}
use Rattle.pb_linear.specs.Numbers.{Numbers}
use Rattle.pb_linear.specs.RuleBox.{Bounds}
use Rattle.pb_linear.specs.Sizes.{IsRanges}
use Rattle.pb_linear.specs.declared.boxes.ReadBox.{ReadBox}
use Rattle.pb_linear.specs.declared.form.Form.{Form}
use Rattle.pb_linear.specs.declared.vform.SymBox.{SymBox}
use Rattle.pb_grid.specs.Cuts.{zero as zero_form}
use Rattle.pb_grid.specs.Grids.{Matrix, areas_of}
use Rattle.pb_grid.specs.Segments.{SegmentValue, segment_of}
use Rattle.pb_grid.proofs.EachLemmas.{HaveBounds, ends_each, few_areas}
use Rattle.pb_graph.specs.Nodes.{NodeValue}
use Rattle.pb_graph.specs.Small.{IsSmallArea, IsSmallEnd, IsSmallRead}
use Rattle.pb_program.specs.Forms.{DeclValue}
use Rattle.pb_program.specs.Trees.{ProgRule, ProgTransform}
use Rattle.pb_program.specs.WellFormed.{IsDecl, IsForm, IsRule, IsTransform}
use Rattle.pb_region.specs.Boxes.{box_of}
use Rattle.pb_region.specs.Reads.{ReadValue, read_value, reads_of}
use Rattle.pb_region.specs.Rules.{IsAccepted}
use Rattle.pb_region.specs.Small.{HaveSmallEnds, IsSmallBound}
use Rattle.pb_region.proofs.EndLemmas.{small_reads}
use Rattle.pb_region.proofs.LimitLemmas.{bound_form, small_form}
use Rattle.pb_region.proofs.SmallLemmas.{at_place}
use Rattle.pb_base.proofs.ListLemmas.{flat_in, in_cases, in_map, map_in}
use Rattle.pb_check.specs.Cuts.{AreNodes, AreNodesOf, IsCut, IsMatrix, made_matrices, node}
use Rattle.pb_check.specs.Orders.{made_reads}
use Rattle.pb_check.specs.Phases.{IsBounded}
use Rattle.pb_check.proofs.FirstLemmas.{all_at}
use Rattle.pb_check.proofs.LawfulLemmas.{numbered_at}
use Rattle.pb_check.proofs.SegmentLemmas.{same_decl, small_on}

-- ---- forms
end_form : (f : Form) → IsSmallBound (numbers f) → IsSmallEnd f
end_form f h = record { constant = h.constant; whole = h.whole; half = h.half; third = h.third; quarter = h.quarter }

small_zero : IsSmallEnd zero_form
small_zero = record { constant = refl; whole = refl; half = refl; third = refl; quarter = refl }

-- ---- all of a list
all_from_each : {A : Type 0} (P : A → Type 0) (xs : List A) → ((x : A) → Contains xs x → P x) → All P xs
all_from_each P xs h k d below = h (get_or xs k d) (Contains-get_or xs k d below)

each_of : {A : Type 0} (P : A → Type 0) (xs : List A) (x : A) → AllByRecursion P xs → Contains xs x → P x
each_of P [] x h c = absurd (omega (arith, c.1))
each_of P (y ∷ xs) x h c = elim (in_cases y x xs c) [ inl is ↦ subst P is h.0 | inr later ↦ each_of P xs x h.1 later ]

-- ---- a matrix that is cut
module _ (t : ProgTransform) (number count : ℕ) (fits : IsTransform count t) (ranges : IsRanges t.ranges) (d : DeclValue) (there : slice_get t.matrices number ≡ Some d) (m : Matrix) (is : IsMatrix t number m) where
  forms_each : (fs : List Form) → AllByRecursion IsSmallBound (map numbers fs) → (f : Form) → Contains fs f → IsSmallEnd f
  forms_each [] h f c = absurd (omega (arith, c.1))
  forms_each (g ∷ fs) h f c = elim (in_cases g f fs c) [ inl same ↦ subst IsSmallEnd same (end_form g h.0) | inr later ↦ forms_each fs h.1 f later ]

  box_small : (b : Bounds) → Contains m.boxes b → HaveBounds IsSmallEnd b
  box_small b c =
      let limits = small_on count t fits ranges number (box_of b) (subst (λ l. Contains l (box_of b)) is.boxes (in_map box_of m.boxes b c)) in
      record { lower_x = forms_each b.lower_x limits.lower_x; upper_x = forms_each b.upper_x limits.upper_x; lower_y = forms_each b.lower_y limits.lower_y; upper_y = forms_each b.upper_y limits.upper_y }

  fit : IsDecl (length t.sizes) d
  fit = at_place (IsDecl (length t.sizes)) t.matrices number d fits.matrices there

  side_small : (f : Form) (n : Numbers) → numbers f ≡ n → IsForm (length t.sizes) n → IsSmallEnd f
  side_small f n e h = end_form f (subst IsSmallBound (sym e) (bound_form n (small_form (length t.sizes) n h)))

  width_small : IsSmallEnd m.width
  width_small = side_small m.width d.w (is.width ∙ ap (λ (x : DeclValue). x.w) (same_decl is.decl d (sym is.there ∙ there))) fit.w

  height_small : IsSmallEnd m.height
  height_small = side_small m.height d.h (is.height ∙ ap (λ (x : DeclValue). x.h) (same_decl is.decl d (sym is.there ∙ there))) fit.h

  area_small : (s : SymBox) → Contains (areas_of m) s → IsSmallArea s
  area_small s c = let h = ends_each m IsSmallEnd small_zero width_small height_small box_small s c in record { x0 = h.x0; x1 = h.x1; y0 = h.y0; y1 = h.y1 }

-- ---- all segments of a transform
module _ (count : ℕ) (t : ProgTransform) (fits : IsTransform count t) (ranges : IsRanges t.ranges) where
  cut_small : (number : ℕ) (ss : List SegmentValue) → IsCut t number ss → All (λ (n : NodeValue). IsSmallArea n.area) (map (node number) ss) × (length ss ≤ 256)
  cut_small number ss cut =
      let m = cut.matrix in
      let d = cut.is.decl in (
        all_from_each (λ (n : NodeValue). IsSmallArea n.area) (map (node number) ss) (λ n c.
            let s = map_in (node number) ss n c in
            let a = map_in (segment_of m.leasts m.boxes) (areas_of m) s.0 (subst (λ l. Contains l s.0) cut.grid.segments s.1) in
            let small = area_small t number count fits ranges d cut.is.there m cut.is a.0 a.1 in
            subst (λ (n : NodeValue). IsSmallArea n.area) s.2 (subst (λ (z : SegmentValue). IsSmallArea z.area) a.2 small)),
        omega (arith, ap length cut.grid.segments, length-map (areas_of m) (segment_of m.leasts m.boxes), few_areas m cut.grid.cut.few),
      )

  nodes_small : (ms : List ℕ) (ns : List NodeValue) → AreNodesOf t ms ns → All (λ (n : NodeValue). IsSmallArea n.area) ns × (length ns ≤ 256 * length ms)
  nodes_small [] ns h = (subst (All (λ (n : NodeValue). IsSmallArea n.area)) (sym h) (All-nil (λ (n : NodeValue). IsSmallArea n.area)), omega (arith, ap length h))
  nodes_small (m ∷ ms) ns (ss, rest, cut, more, is) =
      let here = cut_small m ss cut in
      let later = nodes_small ms rest more in
      let P : NodeValue → Type 0 = λ n. IsSmallArea n.area in (
        subst (All P) (sym is) (All-append P (map (node m) ss) rest here.0 later.0),
        omega (arith, ap length is, length-append (map (node m) ss) rest, length-map ss (node m), here.1, later.1),
      )

  pub small_areas : (ns : List NodeValue) → AreNodes t ns → All (λ (n : NodeValue). IsSmallArea n.area) ns
  small_areas ns h = (nodes_small (made_matrices t) ns h).0

  pub few_nodes : (ns : List NodeValue) → AreNodes t ns → length ns < 2 ^ 32
  few_nodes ns h = omega (arith, (nodes_small (made_matrices t) ns h).1, length-range_with_len t.inputs (length t.matrices - t.inputs), fits.few_matrices)

-- ---- what the rules read
read_small : (r : ReadBox) → HaveSmallEnds (read_value r).ends → IsSmallRead r
read_small r h = record {
  x0 = record { coefficients = h.x_low.coefficients; rest = end_form r.x0.rest h.x_low.rest };
  x1 = record { coefficients = h.x_high.coefficients; rest = end_form r.x1.rest h.x_high.rest };
  y0 = record { coefficients = h.y_low.coefficients; rest = end_form r.y0.rest h.y_low.rest };
  y1 = record { coefficients = h.y_high.coefficients; rest = end_form r.y1.rest h.y_high.rest };
}

reads_small : (rs : List ReadBox) (vs : List ReadValue) → map read_value rs ≡ vs → ((v : ReadValue) → Contains vs v → HaveSmallEnds v.ends) → All IsSmallRead rs
reads_small rs vs e h = all_from_each IsSmallRead rs (λ r c. read_small r (h (read_value r) (subst (λ l. Contains l (read_value r)) e (in_map read_value rs r c))))

module _ (count : ℕ) (t : ProgTransform) (fits : IsTransform count t) (bounded : IsBounded t) where
  pub made_small : (v : ReadValue) → Contains (made_reads t) v → HaveSmallEnds v.ends
  made_small v c =
      let r = flat_in (λ (r : ℕ × ProgRule). reads_of t r.0 r.1) (enumerate_from 0 t.rules) v c in
      let place = numbered_at 0 t.rules r.0 r.1 in
      let rule = at_place (IsRule (length t.sizes) t.inputs (length t.matrices) count) t.rules place.0 r.0.1 fits.rules place.2 in
      let accepted = all_at (IsAccepted t) t.rules place.0 r.0.1 bounded.rules place.2 in
      each_of (λ (w : ReadValue). HaveSmallEnds w.ends) (reads_of t r.0.0 r.0.1) v (small_reads count t r.0.1 fits.matrices rule accepted r.0.0) r.2

  pub small_made : (rs : List ReadBox) → map read_value rs ≡ made_reads t → All IsSmallRead rs
  small_made rs e = reads_small rs (made_reads t) e made_small
