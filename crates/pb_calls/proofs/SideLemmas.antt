-- A segment lies within its matrix.
use Rattle.std.proofs.Common.{◌≡◌, ◌∙◌, refl, sym, ap, subst, inl, inr, ◌⊎◌, ⊎_elim, ℕ, ℤ, pos, ◌≤ℤ◌, ◌*ℤ◌, Bool, true, false, ◌||◌, not, List, [], ◌∷◌, length, map, slice_get, Some, None, arith}
use Rattle.std.specs.Prelude.{◌==◌, filter}
use Rattle.std.specs.List.{Contains, list_all, list_any}
use Rattle.std.proofs.Math.Bool.{cond}
use Rattle.std.proofs.Math.IntN.{zero-*ℤ}
use Rattle.std.proofs.lemmas.Bool.{and_parts, eqb-true}
use Rattle.std.proofs.lemmas.Int.{ints}
use Rattle.std.proofs.lemmas.List.Elements.{Contains-append_cases}
use Rattle.pb_linear.specs.Form.{numbers, value}
use Rattle.pb_linear.specs.Numbers.{exact_value}
use Rattle.pb_linear.specs.Sizes.{InRange, leasts_of}
use Rattle.pb_linear.specs.declared.form.Form.{Form}
use Rattle.pb_linear.specs.declared.vform.SymBox.{SymBox}
use Rattle.pb_linear.proofs.SizesLemmas.{le_everywhere-at}
use Rattle.pb_linear.proofs.Values.{exact_value-multiple, exact_value-with_constant}
use Rattle.pb_grid.specs.Crossings.{crossing}
use Rattle.pb_grid.specs.Cuts.{cuts, is_inner, le, same, zero as zero_form}
use Rattle.pb_grid.specs.Grids.{Matrix, areas_of, cuts_x, cuts_y}
use Rattle.pb_grid.specs.Lists.{firsts, in_order, neighbours, pairs_from, placed}
use Rattle.pb_grid.specs.Segments.{SegmentValue, area_of, segment_of}
use Rattle.pb_grid.proofs.OrderLemmas.{Rises, list_any-in_order, rises}
use Rattle.pb_grid.proofs.RuleLemmas.{any_here}
use Rattle.pb_grid.proofs.CutLemmas.{le-refl, le-trans}
use Rattle.pb_graph.specs.Nodes.{NodeValue}
use Rattle.pb_program.specs.Forms.{DeclValue, constant_numbers}
use Rattle.pb_program.specs.Trees.{ProgTransform}
use Rattle.pb_program.specs.WellFormed.{IsDecl, IsTransform, IsWellFormed}
use Rattle.pb_region.specs.Dims.{HasNoNegative, IsNeverNegative, sides}
use Rattle.pb_region.proofs.SmallLemmas.{at_place}
use Rattle.pb_base.proofs.ListLemmas.{filter_in, flat_in, in_at, in_map, in_cases, in_head, in_none, in_tail, map_in}
use Rattle.pb_check.specs.Cuts.{AreNodesOf, IsCut, made_matrices, node}
use Rattle.pb_check.specs.Orders.{AnalysisValue, IsAnalysis}
use Rattle.pb_check.specs.Phases.{IsBounded, IsSound}
use Rattle.pb_check.proofs.FirstLemmas.{all_at, some_same}
use Rattle.pb_check.proofs.RankedLemmas.{are}

-- ---- members of lists that are made of others
module _ {A : Type 0} where
  firsts_in : (alike : A → A → Bool) (xs : List A) (x : A) → Contains (firsts alike xs) x → Contains xs x
  firsts_in alike [] x h = h
  firsts_in alike (y ∷ xs) x h = ⊎_elim
      (λ here. subst (Contains (y ∷ xs)) here (in_head y xs))
      (λ later. in_tail y x xs (firsts_in alike xs x (filter_in (λ z. not (alike y z)) (firsts alike xs) x later).0))
      (in_cases y x (filter (λ z. not (alike y z)) (firsts alike xs)) h)

  placed_in : (at_most : A → A → Bool) (y : A) (xs : List A) (x : A) → Contains (placed at_most y xs) x → (y ≡ x) ⊎ Contains xs x
  placed_in at_most y [] x h = in_cases y x [] h
  placed_in at_most y (z ∷ xs) x h = by (at_most y z) h (placed_in at_most y xs x)
    where
      by : (b : Bool) → Contains (cond b (y ∷ z ∷ xs) (z ∷ placed at_most y xs)) x → (Contains (placed at_most y xs) x → (y ≡ x) ⊎ Contains xs x) → (y ≡ x) ⊎ Contains (z ∷ xs) x
      by true h rest = in_cases y x (z ∷ xs) h
      by false h rest = ⊎_elim
          (λ here. inr (subst (Contains (z ∷ xs)) here (in_head z xs)))
          (λ later. ⊎_elim (λ e. inl e) (λ k. inr (in_tail z x xs k)) (rest later))
          (in_cases z x (placed at_most y xs) h)

  ordered_in : (at_most : A → A → Bool) (xs : List A) (x : A) → Contains (in_order at_most xs) x → Contains xs x
  ordered_in at_most [] x h = h
  ordered_in at_most (y ∷ xs) x h = ⊎_elim
      (λ here. subst (Contains (y ∷ xs)) here (in_head y xs))
      (λ later. in_tail y x xs (ordered_in at_most xs x later))
      (placed_in at_most y (in_order at_most xs) x h)

  pairs_in : (y : A) (xs : List A) (q : A × A) → Contains (pairs_from y xs) q → Contains (y ∷ xs) q.1
  pairs_in y [] q h = absurd (in_none q h)
  pairs_in y (z ∷ xs) q h = ⊎_elim
      (λ here. in_tail y q.1 (z ∷ xs) (subst (Contains (z ∷ xs)) (ap (λ (r : A × A). r.1) here) (in_head z xs)))
      (λ later. in_tail y q.1 (z ∷ xs) (pairs_in z xs q later))
      (in_cases (y, z) q (pairs_from z xs) h)

  neighbour_in : (xs : List A) (q : A × A) → Contains (neighbours xs) q → Contains xs q.1
  neighbour_in [] q h = absurd (in_none q h)
  neighbour_in (y ∷ xs) q h = pairs_in y xs q h

  -- two members of a list that rises are comparable
  all_of : (p : A → Bool) (xs : List A) (x : A) → list_all p xs ≡ true → Contains xs x → p x ≡ true
  all_of p [] x all h = absurd (in_none x h)
  all_of p (y ∷ xs) x all h = let parts = and_parts (p y) (list_all p xs) all in ⊎_elim (λ here. subst (λ z. p z ≡ true) here parts.0) (λ later. all_of p xs x parts.1 later) (in_cases y x xs h)

  comparable : (at_most : A → A → Bool) → ((a : A) → at_most a a ≡ true) → (xs : List A) (a b : A) → Rises at_most xs → Contains xs a → Contains xs b → (at_most a b ≡ true) ⊎ (at_most b a ≡ true)
  comparable at_most itself [] a b r ha hb = absurd (in_none a ha)
  comparable at_most itself (y ∷ xs) a b r ha hb = ⊎_elim
      (λ ea. ⊎_elim
      (λ eb. inl (subst (λ z. at_most z b ≡ true) ea (subst (λ z. at_most y z ≡ true) eb (itself y))))
      (λ lb. inl (subst (λ z. at_most z b ≡ true) ea (all_of (at_most y) xs b r.0 lb)))
      (in_cases y b xs hb))
      (λ la. ⊎_elim
      (λ eb. inr (subst (λ z. at_most z a ≡ true) eb (all_of (at_most y) xs a r.0 la)))
      (λ lb. comparable at_most itself xs a b r.1 la lb)
      (in_cases y b xs hb))
      (in_cases y a xs ha)

-- ---- no cut is above the side
abbrev pub all_cuts : List ℕ → Form → List Form → List Form
all_cuts leasts side bounds = firsts (same leasts) (zero_form ∷ side ∷ filter (is_inner leasts side) bounds)

module _ (leasts sizes : List ℕ) (range : InRange leasts sizes) (side : Form) (bounds : List Form) (natural : pos 0 ≤ℤ value side sizes) (straight : crossing leasts (all_cuts leasts side bounds) ≡ None) where
  abbrev ordered : List Form
  ordered = in_order (le leasts) (all_cuts leasts side bounds)

  sound : (f g : Form) → le leasts f g ≡ true → value f sizes ≤ℤ value g sizes
  unfolding le
  sound f g h = le_everywhere-at leasts (value f) (value g) h sizes range

  nought : value zero_form sizes ≡ pos 0
  nought = exact_value-multiple (pos 0) (numbers zero_form) sizes ∙ zero-*ℤ (value zero_form sizes)

  rising : Rises (le leasts) ordered
  unfolding crossing
  rising = rises (le leasts) (le-trans leasts) (all_cuts leasts side bounds) straight

  same_self : (f : Form) → same leasts f f ≡ true
  same_self f = rw (le-refl leasts f) refl

  side_known : (b : Bool) (rest : List Form) → same leasts zero_form side ≡ b → list_any (λ z. same leasts z side) (zero_form ∷ cond (not b) (side ∷ rest) rest) ≡ true
  side_known true rest e = ap (λ t. t || list_any (λ z. same leasts z side) rest) e
  side_known false rest e = ap (λ t. t || (same leasts side side || list_any (λ z. same leasts z side) rest)) e ∙ ap (λ t. t || list_any (λ z. same leasts z side) rest) (same_self side)

  side_listed : list_any (λ z. same leasts z side) ordered ≡ true
  side_listed = list_any-in_order (le leasts) (λ z. same leasts z side) (all_cuts leasts side bounds) ∙ side_known (same leasts zero_form side) (filter (λ y. not (same leasts zero_form y)) (filter (λ y. not (same leasts side y)) (firsts (same leasts) (filter (is_inner leasts side) bounds)))) refl

  -- 0, the side, or a bound below the side somewhere
  abbrev Kind : Form → Type 0
  Kind f = (zero_form ≡ f) ⊎ ((side ≡ f) ⊎ (is_inner leasts side f ≡ true))

  kind_of : (f : Form) → Contains ordered f → Kind f
  kind_of f h =
      let there = firsts_in (same leasts) (zero_form ∷ side ∷ filter (is_inner leasts side) bounds) f (ordered_in (le leasts) (all_cuts leasts side bounds) f h) in
      let inner = filter (is_inner leasts side) bounds in
      ⊎_elim (λ z. inl z) (λ later. ⊎_elim (λ s. inr (inl s)) (λ rest. inr (inr (filter_in (is_inner leasts side) bounds f rest).1)) (in_cases side f inner later)) (in_cases zero_form f (side ∷ inner) there)

  by_kind : (f : Form) → Kind f → le leasts side f ≡ true → value f sizes ≤ℤ value side sizes
  by_kind f (inl z) above = subst (λ g. value g sizes ≤ℤ value side sizes) z (omega (arith, ints, nought, natural))
  by_kind f (inr (inl s)) above = subst (λ g. value g sizes ≤ℤ value side sizes) s (omega (arith, ints))
  by_kind f (inr (inr inner)) above = absurd (let parts = and_parts (not (le leasts f zero_form)) (not (le leasts side f)) inner in let no : false ≡ true = sym (ap not above) ∙ parts.1 in cc)

  pub cut_below : (f : Form) → Contains ordered f → value f sizes ≤ℤ value side sizes
  cut_below f h =
      let z = any_here (λ z. same leasts z side) ordered side_listed in
      let alike = and_parts (le leasts z.0 side) (le leasts side z.0) z.2 in
      ⊎_elim
      (λ zf. by_kind f (kind_of f h) (le-trans leasts side z.0 f alike.1 zf))
      (λ fz. let fs = sound f z.0 fz in let zs = sound z.0 side alike.0 in omega (arith, ints, fs, zs))
      (comparable (le leasts) (le-refl leasts) ordered z.0 f rising z.1 h)

-- ---- sides are never negative
one_is : (sizes : List ℕ) → exact_value (constant_numbers (pos 1)) sizes ≡ pos 1
one_is sizes =
    let n = constant_numbers (pos 0) in
    let none : exact_value n sizes ≡ pos 0 *ℤ exact_value n sizes = exact_value-multiple (pos 0) n sizes in
    omega (arith, ints, exact_value-with_constant (pos 1) n sizes, none, zero-*ℤ (exact_value n sizes))

pub width_natural : (n : ℕ) (d : DeclValue) (leasts sizes : List ℕ) → HasNoNegative leasts d → InRange leasts sizes → pos 0 ≤ℤ exact_value d.w sizes
width_natural n d leasts sizes none range = all_at (IsNeverNegative leasts) (sides d) 0 d.w none.sides refl sizes range

pub tall : (n : ℕ) (d : DeclValue) (leasts sizes : List ℕ) (flat : Bool) → (d.dims == 1) ≡ flat → IsDecl n d → HasNoNegative leasts d → InRange leasts sizes → pos 0 ≤ℤ exact_value d.h sizes
tall n d leasts sizes true e h none range = omega (arith, ints, ap (λ k. exact_value k sizes) (h.flat (eqb-true d.dims 1 e)), one_is sizes)
tall n d leasts sizes false e h none range = let there : slice_get (sides d) 1 ≡ Some d.h = rw e refl in all_at (IsNeverNegative leasts) (sides d) 1 d.h none.sides there sizes range

-- ---- a segment of a matrix
pub record EndsBelow (sizes : List ℕ) (w h : ℤ) (s : SymBox) : Type 0 where
  pub across : value s.x1 sizes ≤ℤ w
  pub down : value s.y1 sizes ≤ℤ h

area_below : (m : Matrix) (sizes : List ℕ) → InRange m.leasts sizes → pos 0 ≤ℤ value m.width sizes → pos 0 ≤ℤ value m.height sizes → crossing m.leasts (cuts_x m) ≡ None → crossing m.leasts (cuts_y m) ≡ None → (s : SymBox) → Contains (areas_of m) s
    → EndsBelow sizes (value m.width sizes) (value m.height sizes) s
unfolding cuts
area_below m sizes range width height on_x on_y s h =
    let xs = in_order (le m.leasts) (cuts_x m) in
    let ys = in_order (le m.leasts) (cuts_y m) in
    let row = flat_in (λ y. map (λ x. area_of x y) (neighbours xs)) (neighbours ys) s h in
    let x = map_in (λ x. area_of x row.0) (neighbours xs) s row.2 in
    subst (EndsBelow sizes (value m.width sizes) (value m.height sizes)) x.2 (record {
      across = cut_below m.leasts sizes range m.width _ width on_x x.0.1 (neighbour_in xs x.0 x.1);
      down = cut_below m.leasts sizes range m.height _ height on_y row.0.1 (neighbour_in ys row.0 row.1);
    })

-- each segment is of a matrix that is cut
from_cut : (t : ProgTransform) (ms : List ℕ) (ns : List NodeValue) → AreNodesOf t ms ns → (n : NodeValue) → Contains ns n → (ss : List SegmentValue) × IsCut t n.matrix ss × Contains (map (λ (s : SegmentValue). s.area) ss) n.area
from_cut t [] ns h n k = absurd (omega (arith, ap length h, k.1))
from_cut t (m ∷ ms) ns (ss, rest, cut, more, is) n k = ⊎_elim
    (λ here.
    let s = map_in (node m) ss n here in
    let matrix : m ≡ n.matrix = ap (λ (z : NodeValue). z.matrix) s.2 in
    (ss, subst (λ k. IsCut t k ss) matrix cut, subst (Contains (map (λ (z : SegmentValue). z.area) ss)) (ap (λ (z : NodeValue). z.area) s.2) (in_map (λ (z : SegmentValue). z.area) ss s.0 s.1)))
    (λ later. from_cut t ms rest more n later)
    (Contains-append_cases (map (node m) ss) rest n (subst (λ l. Contains l n) is k))

module _ (p : List ProgTransform) (number : ℕ) (t : ProgTransform) (a : AnalysisValue) (sizes : List ℕ) (well : IsWellFormed p) (sound : IsSound p) (at : slice_get p number ≡ Some t) (found : IsAnalysis t a) (range : InRange (leasts_of t.ranges) sizes) where
  pub segment_below : (u : ℕ) (n : NodeValue) (d : DeclValue) → slice_get a.nodes u ≡ Some n → slice_get t.matrices n.matrix ≡ Some d → EndsBelow sizes (exact_value d.w sizes) (exact_value d.h sizes) n.area
  segment_below u n d there decl =
      let nodes = are p number t sizes well sound at a found in
      let (ss, cut, among) = from_cut t (made_matrices t) a.nodes nodes n (in_at a.nodes u n there) in
      let m = cut.matrix in
      let s = map_in (λ (z : SegmentValue). z.area) ss n.area among in
      let area = map_in (segment_of m.leasts m.boxes) (areas_of m) s.0 (subst (λ l. Contains l s.0) cut.grid.segments s.1) in
      let same : area.0 ≡ n.area = ap (λ (z : SegmentValue). z.area) area.2 ∙ s.2 in
      let same_decl : cut.is.decl ≡ d = some_same cut.is.decl d (sym cut.is.there ∙ decl) in
      let wide : value m.width sizes ≡ exact_value d.w sizes = ap (λ k. exact_value k sizes) (cut.is.width ∙ ap (λ (e : DeclValue). e.w) same_decl) in
      let high : value m.height sizes ≡ exact_value d.h sizes = ap (λ k. exact_value k sizes) (cut.is.height ∙ ap (λ (e : DeclValue). e.h) same_decl) in
      let fits = at_place (IsTransform (length p)) p number t well.transforms at in
      let decl_fits = at_place (IsDecl (length t.sizes)) t.matrices n.matrix d fits.matrices decl in
      let none = all_at (HasNoNegative (leasts_of t.ranges)) t.matrices n.matrix d (all_at IsBounded p number t sound.bounded at).sides.each decl in
      let w0 : pos 0 ≤ℤ value m.width sizes = subst (λ z. pos 0 ≤ℤ z) (sym wide) (width_natural (length t.sizes) d (leasts_of t.ranges) sizes none range) in
      let h0 : pos 0 ≤ℤ value m.height sizes = subst (λ z. pos 0 ≤ℤ z) (sym high) (tall (length t.sizes) d (leasts_of t.ranges) sizes (d.dims == 1) refl decl_fits none range) in
      let below = area_below m sizes (subst (λ l. InRange l sizes) (sym cut.is.leasts) range) w0 h0 cut.grid.cut.straight.on_x cut.grid.cut.straight.on_y area.0 area.1 in
      subst (EndsBelow sizes (exact_value d.w sizes) (exact_value d.h sizes)) same (record { across = subst (λ z. value area.0.x1 sizes ≤ℤ z) wide below.across; down = subst (λ z. value area.0.y1 sizes ≤ℤ z) high below.down })
