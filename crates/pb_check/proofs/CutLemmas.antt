-- The boxes of a matrix, and the matrices of a transform, one after the other.
use Rattle.std.proofs.Common.{◌≡◌, ◌∙◌, refl, sym, ap, subst, inl, inr, ◌⊎◌, ℕ, zero, suc, ◌+◌, ◌-◌, ◌<◌, ◌≤◌, Bool, true, false, List, [], ◌∷◌, ◌++◌, length, map, take, drop, get_or, slice_get, Some, ℤ, Result, Ok, Err, append_assoc, arith, ◌||◌}
use Rattle.std.specs.Prelude.{◌==◌, IfErr, IfOk, OnOk, filter, if◌then◌else◌}
use Rattle.std.specs.List.{All, AllByRecursion, Contains, enumerate_from, flat_map, list_all, list_any}
use Rattle.std.proofs.lemmas.Bool.{le-leb, leb-true}
use Rattle.std.proofs.lemmas.Grind.{flat_map-append}
use Rattle.std.proofs.lemmas.List.{append-nil, length-take-le, map-append, take_all, take_more}
use Rattle.std.proofs.lemmas.Option.{get_or_from_slice_get, slice_get-get_or, slice_get_within}
use Rattle.std.proofs.lemmas.List.FromFn.{get_or-range_with_len, length-range_with_len}
use Rattle.std.proofs.lemmas.List.Elements.{All-append, All-cons, All-head, All-nil, All-tail}
use Rattle.std.specs.Option.{IfSome, IsSomeAnd}
use Rattle.pb_linear.specs.Form.{numbers}
use Rattle.pb_linear.specs.RuleBox.{Bounds}
use Rattle.pb_linear.specs.Numbers.{Numbers}
use Rattle.pb_linear.specs.Sizes.{IsRanges, leasts_of}
use Rattle.pb_linear.specs.declared.form.Form.{Form}
use Rattle.pb_syntax.specs.declared.refusal.Refusal.{Refusal}
use Rattle.pb_syntax.specs.declared.refusal.Refusal.TheVariants.{Memory}
use Rattle.pb_grid.specs.declared.refusal.GridRefusal.{GridRefusal}
use Rattle.pb_grid.specs.declared.refusal.GridRefusal.TheVariants as grid
use Rattle.pb_grid.specs.Cuts.{AreSmall, IsSmallBox, is_half_number}
use Rattle.pb_grid.specs.Grids.{IsGrid, IsRefused as HasGridRefusal, matrix_of}
use Rattle.pb_grid.specs.Segments.{SegmentValue}
use Rattle.pb_graph.specs.Nodes.{NodeValue}
use Rattle.pb_program.specs.declared.view.Read.{Read}
use Rattle.pb_program.specs.Configs.{writes}
use Rattle.pb_program.specs.Forms.{DeclValue}
use Rattle.pb_program.specs.Trees.{ProgRule, ProgTransform}
use Rattle.pb_program.specs.WellFormed.{IsDecl, IsForm, IsRule, IsTransform, IsWellFormed}
use Rattle.pb_region.specs.Boxes.{BoxValue, box, box_of, boxes}
use Rattle.pb_region.specs.Rules.{AtRule, HasBoxes, HasRule, IsAccepted, IsRefused}
use Rattle.pb_region.specs.Small.{AreSmallLimits, IsSmallBound, is_bound_number}
use Rattle.pb_region.proofs.AnswerLemmas.{not_both as accepted_and_refused}
use Rattle.pb_region.proofs.LimitLemmas.{all_numbers, bound_form, small_form, small_limits}
use Rattle.pb_region.proofs.SmallLemmas.{at_place, small_transform}
use Rattle.pb_check.specs.Cuts.{CutValue, AreCut, AreCutInto, AreNodes, AreNodesOf, FailsCut, HasCut, IsCut, IsMatrix, IsUncut, boxes_on, kept, made_matrices, node, rule_boxes, to_refusal}
use Rattle.pb_check.specs.Phases.{IsBounded, IsUncuttable}
use Rattle.pb_check.proofs.FirstLemmas.{all_at}

-- ---- the boxes of a rule
module _ (ts : List ProgTransform) (t : ℕ) (x : ProgTransform) (r : ℕ) (y : ProgRule) (at : slice_get ts t ≡ Some x) (there : slice_get x.rules r ≡ Some y) where
  said : (P : ProgTransform → ProgRule → Type 0) → AtRule ts t r P → P x y
  said P h = subst (λ o. IfSome o (P x)) there (subst (λ o. IfSome o (λ z. IfSome (slice_get z.rules r) (P z))) at h)

  had : (P : ProgTransform → ProgRule → Type 0) → HasRule ts t r P → P x y
  had P h = subst (λ o. IsSomeAnd o (P x)) there (subst (λ o. IsSomeAnd o (λ z. IsSomeAnd (slice_get z.rules r) (P z))) at h)

  pub has_boxes : {E : Type 0} (B : Type 0) (items : B → List Bounds) (o : Result B E) → IfOk o (λ b. AtRule ts t r (λ transform rule. HasBoxes r transform rule (items b))) → IfOk o (λ b. map box_of (items b) ≡ boxes (leasts_of x.ranges) x.matrices r y)
  has_boxes B items (Ok b) h = (said (λ transform rule. HasBoxes r transform rule (items b)) h).boxes
  has_boxes B items (Err e) h = tt

  pub never_refused : {B : Type 0} (o : Result B Refusal) → IsBounded x → IfErr o (λ e. (e ≡ Memory) ⊎ HasRule ts t r (λ transform rule. IsRefused t r transform rule e)) → IfErr o (λ e. e ≡ Memory)
  never_refused (Ok b) bounded h = tt
  never_refused (Err e) bounded (inl is) = is
  never_refused (Err e) bounded (inr bad) = absurd (accepted_and_refused t r x y e (all_at (IsAccepted x) x.rules r y bounded.rules there) (had (λ transform rule. IsRefused t r transform rule e) bad))

-- the bounds of a box are small enough to be cut at
half_number : (z : ℤ) → is_bound_number z ≡ true → is_half_number z ≡ true
half_number z h = le-leb _ _ (omega (arith, leb-true _ _ h))

half_row : (zs : List ℤ) → list_all is_bound_number zs ≡ true → list_all is_half_number zs ≡ true
half_row = all_numbers is_bound_number is_half_number half_number

half_form : (f : Form) → IsSmallBound (numbers f) → AreSmall f
half_form f h = record { constant = half_number f.constant h.constant; whole = half_row f.whole h.whole; half = half_row f.half h.half; third = half_row f.third h.third; quarter = half_row f.quarter h.quarter }

half_forms : (fs : List Form) → AllByRecursion IsSmallBound (map numbers fs) → All AreSmall fs
half_forms [] h k d below = absurd (omega arith)
half_forms (f ∷ fs) h zero d below = half_form f h.0
half_forms (f ∷ fs) h (suc k) d below = half_forms fs h.1 k d (omega arith)

small_box : (b : Bounds) → AreSmallLimits (box_of b).limits → IsSmallBox b
small_box b h = record { lower_x = half_forms b.lower_x h.lower_x; upper_x = half_forms b.upper_x h.upper_x; lower_y = half_forms b.lower_y h.lower_y; upper_y = half_forms b.upper_y h.upper_y }

small_each : (f : Read → BoxValue) (bs : List Bounds) (outs : List Read) → map box_of bs ≡ map f outs → ((o : Read) → Contains outs o → AreSmallLimits (f o).limits) → All IsSmallBox bs
small_each f [] outs e h k d below = absurd (omega arith)
small_each f (b ∷ bs) [] e h k d below = let n = ap length e in absurd (omega arith)
small_each f (b ∷ bs) (o ∷ outs) e h zero d below = small_box b (subst (λ (v : BoxValue). AreSmallLimits v.limits) (sym (ap (λ l. get_or l 0 (f o)) e)) (h o (0, omega arith, refl)))
small_each f (b ∷ bs) (o ∷ outs) e h (suc k) d below = small_each f bs outs (ap (drop 1) e) (λ p c. h p (suc c.0, omega (arith, c.1), c.2)) k d (omega arith)

module _ (ts : List ProgTransform) (t : ℕ) (x : ProgTransform) (r : ℕ) (y : ProgRule) (well : IsWellFormed ts) (at : slice_get ts t ≡ Some x) (there : slice_get x.rules r ≡ Some y) where
  fits : IsTransform (length ts) x
  fits = at_place (IsTransform (length ts)) ts t x well.transforms at

  rule_fits : IsRule (length x.sizes) x.inputs (length x.matrices) (length ts) y
  rule_fits = at_place (IsRule (length x.sizes) x.inputs (length x.matrices) (length ts)) x.rules r y fits.rules there

  pub small_boxes : {E : Type 0} (B : Type 0) (items : B → List Bounds) (o : Result B E) → IfOk o (λ b. map box_of (items b) ≡ boxes (leasts_of x.ranges) x.matrices r y) → IfOk o (λ b. All IsSmallBox (items b))
  small_boxes B items (Ok b) h = small_each (box (leasts_of x.ranges) x.matrices r y) (items b) y.outs h (small_limits (length x.sizes) x.matrices fits.matrices x.inputs (length x.matrices) (length ts) y rule_fits (leasts_of x.ranges) r)
  small_boxes B items (Err e) h = tt

-- ---- the boxes of outputs on a matrix
pub kept_end : (m : ℕ) (outs : List Read) (bs : List Bounds) → (length outs ≡ 0) ⊎ (length bs ≡ 0) → kept m outs bs ≡ []
kept_end m [] bs h = refl
kept_end m (o ∷ outs) [] h = refl
kept_end m (o ∷ outs) (b ∷ bs) (inl h) = absurd (omega arith)
kept_end m (o ∷ outs) (b ∷ bs) (inr h) = absurd (omega arith)

kept_step : (f : Read → BoxValue) (o : Read) (b : Bounds) (outs : List Read) (bs : List Bounds) (on : Bool) → box_of b ≡ f o → map box_of bs ≡ map f outs
    → map box_of (if on then b ∷ bs else bs) ≡ map f (if on then o ∷ outs else outs)
kept_step f o b outs bs true e rest = ap (λ v. v ∷ map box_of bs) e ∙ ap (λ l. f o ∷ l) rest
kept_step f o b outs bs false e rest = rest

pub kept_are : (m : ℕ) (f : Read → BoxValue) (outs : List Read) (bs : List Bounds) → map box_of bs ≡ map f outs → map box_of (kept m outs bs) ≡ map f (filter (λ (o : Read). o.matrix == m) outs)
kept_are m f [] bs e = refl
kept_are m f (o ∷ outs) [] e = let n = ap length e in absurd (omega arith)
kept_are m f (o ∷ outs) (b ∷ bs) e = kept_step f o b (filter (λ (p : Read). p.matrix == m) outs) (kept m outs bs) (o.matrix == m) (ap (λ l. get_or l 0 (f o)) e) (kept_are m f outs bs (ap (drop 1) e))

if_both : (P : Bounds → Type 0) (on : Bool) (b : Bounds) (bs : List Bounds) → P b → All P bs → All P (if on then b ∷ bs else bs)
if_both P true b bs h k = All-cons P b bs h k
if_both P false b bs h k = k

pub kept_all : (P : Bounds → Type 0) (m : ℕ) (outs : List Read) (bs : List Bounds) → All P bs → All P (kept m outs bs)
kept_all P m [] bs h = All-nil P
kept_all P m (o ∷ outs) [] h = All-nil P
kept_all P m (o ∷ outs) (b ∷ bs) h = if_both P (o.matrix == m) b (kept m outs bs) (All-head P b bs h) (kept_all P m outs bs (All-tail P b bs h))

or_false : (a b : Bool) → (a || b) ≡ false → (a ≡ false) × (b ≡ false)
or_false false b h = (refl, h)
or_false true b h = absurd (cc)

-- a rule without an output on the matrix has no box there
none_on : (m : ℕ) (outs : List Read) → list_any (λ (o : Read). o.matrix == m) outs ≡ false → filter (λ (o : Read). o.matrix == m) outs ≡ []
none_on m [] h = refl
none_on m (o ∷ outs) h = let parts = or_false (o.matrix == m) (list_any (λ (p : Read). p.matrix == m) outs) h in rw (parts.0, none_on m outs parts.1) refl

pub no_boxes : (t : ProgTransform) (m r : ℕ) (rule : ProgRule) (bs : List BoxValue) → writes m rule ≡ false → bs ≡ bs ++ rule_boxes t m (r, rule)
no_boxes t m r rule bs h = rw (none_on m rule.outs h, append-nil) refl

numbered_join : {A : Type 0} (n : ℕ) (xs : List A) (x : A) → enumerate_from n (xs ++ x ∷ []) ≡ enumerate_from n xs ++ (n + length xs, x) ∷ []
numbered_join n [] x = let e : n + 0 ≡ n = omega arith in rw e refl
numbered_join n (y ∷ xs) x =
    let e : (n + 1) + length xs ≡ n + length (y ∷ xs) = omega arith in
    ap (λ l. (n, y) ∷ l) (numbered_join (n + 1) xs x ∙ ap (λ k. enumerate_from (n + 1) xs ++ (k, x) ∷ []) e)

-- what is made of the first elements of a list, with their numbers, and of one more
pub more_made : {A B : Type 0} (f : ℕ × A → List B) (xs : List A) (k : ℕ) (x : A) → slice_get xs k ≡ Some x → flat_map f (enumerate_from 0 (take (k + 1) xs)) ≡ flat_map f (enumerate_from 0 (take k xs)) ++ f (k, x)
more_made f xs k x there =
    let below = slice_get_within xs k x there in
    let is : get_or xs k x ≡ x = get_or_from_slice_get xs k x x there in
    let all = ap (λ l. flat_map f (enumerate_from 0 l)) (take_more xs k x below) ∙ ap (flat_map f) (numbered_join 0 (take k xs) (get_or xs k x)) in
    let e : 0 + length (take k xs) ≡ k = omega (arith, length-take-le k xs (omega arith)) in
    all ∙ flat_map-append f (enumerate_from 0 (take k xs)) ((0 + length (take k xs), get_or xs k x) ∷ []) ∙ rw (e, is, append-nil) refl

pub more_boxes : (t : ProgTransform) (m k : ℕ) (rule : ProgRule) → slice_get t.rules k ≡ Some rule →
    flat_map (rule_boxes t m) (enumerate_from 0 (take (k + 1) t.rules)) ≡ flat_map (rule_boxes t m) (enumerate_from 0 (take k t.rules)) ++ rule_boxes t m (k, rule)
more_boxes t m k rule there = more_made (rule_boxes t m) t.rules k rule there

pub on_ok : {T E : Type 0} (r : Result T E) (P Q : Type 0) → (P → Q) → OnOk r P → OnOk r Q
on_ok (Ok x) P Q f h = f h
on_ok (Err e) P Q f h = tt

pub kept_added : (m r : ℕ) (t : ProgTransform) (rule : ProgRule) (old new bs : List Bounds) → new ≡ old ++ kept m rule.outs bs → map box_of bs ≡ boxes (leasts_of t.ranges) t.matrices r rule → map box_of new ≡ map box_of old ++ rule_boxes t m (r, rule)
kept_added m r t rule old new bs is are = ap (map box_of) is ∙ map-append box_of old (kept m rule.outs bs) ∙ ap (λ l. map box_of old ++ l) (kept_are m (box (leasts_of t.ranges) t.matrices r rule) rule.outs bs are)

pub kept_small : (m : ℕ) (outs : List Read) (old new bs : List Bounds) → new ≡ old ++ kept m outs bs → All IsSmallBox old → All IsSmallBox bs → All IsSmallBox new
kept_small m outs old new bs is h k = subst (All IsSmallBox) (sym is) (All-append IsSmallBox old (kept m outs bs) h (kept_all IsSmallBox m outs bs k))

-- ---- a matrix, cut or not
module _ (t : ProgTransform) (number : ℕ) (d : DeclValue) (bs : List Bounds) (w h : Form) (there : slice_get t.matrices number ≡ Some d) (width : numbers w ≡ d.w) (height : numbers h ≡ d.h) (are : map box_of bs ≡ boxes_on t number) where
  is_matrix : IsMatrix t number (matrix_of t.ranges bs w h)
  is_matrix = record { decl = d; there = there; leasts = refl; boxes = are; width = width; height = height }

  pub cut_is : (ss : List SegmentValue) → IsGrid (matrix_of t.ranges bs w h) ss → IsCut t number ss
  cut_is ss grid = record { matrix = matrix_of t.ranges bs w h; is = is_matrix; grid = grid }

  pub uncut_is : (k : ℕ) (why : GridRefusal) (e : Refusal) → (why ≡ grid.Memory) ⊎ HasGridRefusal (matrix_of t.ranges bs w h) why → e ≡ to_refusal k number why → (e ≡ Memory) ⊎ IsUncut t k number e
  uncut_is k why e (inl is) told = inl (told ∙ ap (to_refusal k number) is)
  uncut_is k why e (inr refused) told = inr (record { of = matrix_of t.ranges bs w h; is = is_matrix; why = why; refused = refused; told = told })

-- what a grid asks of a transform's matrices
module _ (ts : List ProgTransform) (t : ℕ) (x : ProgTransform) (well : IsWellFormed ts) (at : slice_get ts t ≡ Some x) where
  form_half : (sizes : ℕ) (f : Form) (n : Numbers) → numbers f ≡ n → IsForm sizes n → AreSmall f
  form_half sizes f n e h = half_form f (subst IsSmallBound (sym e) (bound_form n (small_form sizes n h)))

  decl_fits : (m : ℕ) (d : DeclValue) → slice_get x.matrices m ≡ Some d → IsDecl (length x.sizes) d
  decl_fits m d e = at_place (IsDecl (length x.sizes)) x.matrices m d (at_place (IsTransform (length ts)) ts t x well.transforms at).matrices e

  pub small_width : (m : ℕ) (d : DeclValue) (f : Form) → slice_get x.matrices m ≡ Some d → numbers f ≡ d.w → AreSmall f
  small_width m d f e is = form_half (length x.sizes) f d.w is (decl_fits m d e).w

  pub small_height : (m : ℕ) (d : DeclValue) (f : Form) → slice_get x.matrices m ≡ Some d → numbers f ≡ d.h → AreSmall f
  small_height m d f e is = form_half (length x.sizes) f d.h is (decl_fits m d e).h

  pub ranges_fit : IsRanges x.ranges
  ranges_fit = (small_transform ts well t x at).ranges

  pub parts_fit : x.inputs ≤ length x.matrices
  parts_fit = omega (arith, (at_place (IsTransform (length ts)) ts t x well.transforms at).parts)

  pub few_matrices : length x.matrices ≤ 16
  few_matrices = (at_place (IsTransform (length ts)) ts t x well.transforms at).few_matrices

-- ---- the matrices of a transform, one after the other
module _ (t : ProgTransform) where
  pub nodes_more : (ms : List ℕ) (ns : List NodeValue) (m : ℕ) (ss : List SegmentValue) → AreNodesOf t ms ns → IsCut t m ss → AreNodesOf t (ms ++ m ∷ []) (ns ++ map (node m) ss)
  nodes_more [] ns m ss h cut = (ss, [], cut, refl, rw h (sym (append-nil (map (node m) ss))))
  nodes_more (k ∷ ms) ns m ss (others, rest, here, later, is) cut =
      (others, rest ++ map (node m) ss, here, nodes_more ms rest m ss later cut, ap (λ l. l ++ map (node m) ss) is ∙ append_assoc (map (node k) others) rest (map (node m) ss))

  pub nodes_cut : (ms : List ℕ) (ns : List NodeValue) → AreNodesOf t ms ns → All (HasCut t) ms
  nodes_cut [] ns h = All-nil (HasCut t)
  nodes_cut (k ∷ ms) ns (ss, rest, here, later, is) = All-cons (HasCut t) k ms (record { segments = ss; cut = here }) (nodes_cut ms rest later)

  made_at : (k : ℕ) → k < length t.matrices - t.inputs → (slice_get (made_matrices t) k ≡ Some (t.inputs + k)) × (take (k + 1) (made_matrices t) ≡ take k (made_matrices t) ++ (t.inputs + k) ∷ [])
  made_at k below =
      let long = length-range_with_len t.inputs (length t.matrices - t.inputs) in
      let e : get_or (made_matrices t) k 0 ≡ t.inputs + k = get_or-range_with_len t.inputs (length t.matrices - t.inputs) k 0 below in
      let within : k < length (made_matrices t) = omega (arith, long) in
      (slice_get-get_or (made_matrices t) k 0 within ∙ ap (λ z. Some z) e, take_more (made_matrices t) k 0 within ∙ ap (λ z. take k (made_matrices t) ++ z ∷ []) e)

  pub next_nodes : (k m : ℕ) (ns more : List NodeValue) (ss : List SegmentValue) → AreNodesOf t (take k (made_matrices t)) ns → k < length t.matrices - t.inputs → m ≡ t.inputs + k → IsCut t m ss → more ≡ ns ++ map (node m) ss
      → AreNodesOf t (take (k + 1) (made_matrices t)) more
  next_nodes k m ns more ss h below e cut is =
      let made = (made_at k below).1 ∙ ap (λ z. take k (made_matrices t) ++ z ∷ []) (sym e) in
      subst (AreNodesOf t (take (k + 1) (made_matrices t))) (sym is) (subst (λ ms. AreNodesOf t ms (ns ++ map (node m) ss)) (sym made) (nodes_more (take k (made_matrices t)) ns m ss h cut))

  pub all_nodes : (k : ℕ) (ns : List NodeValue) → AreNodesOf t (take k (made_matrices t)) ns → length t.matrices - t.inputs ≤ k → AreNodes t ns
  all_nodes k ns h end = subst (λ ms. AreNodesOf t ms ns) (take_all k (made_matrices t) (omega (arith, end, length-range_with_len t.inputs (length t.matrices - t.inputs)))) h

  pub fails_at : (k m number : ℕ) (ns : List NodeValue) (e : Refusal) → AreNodesOf t (take k (made_matrices t)) ns → k < length t.matrices - t.inputs → m ≡ t.inputs + k → (e ≡ Memory) ⊎ IsUncut t number m e
      → (e ≡ Memory) ⊎ FailsCut t number e
  fails_at k m number ns e h below is (inl memory) = inl memory
  fails_at k m number ns e h below is (inr uncut) =
      inr (record { place = k; item = m; there = (made_at k below).0 ∙ ap (λ z. Some z) (sym is); fails = uncut; earlier = nodes_cut (take k (made_matrices t)) ns h })

-- ---- the transforms of a program, one after the other
nodes_of : (t : ProgTransform) (a : CutValue) → AreNodes t a.nodes → AreCut t
nodes_of t a h = record { each = nodes_cut t (made_matrices t) a.nodes h }

pub all_cut : (p : List ProgTransform) (found : List CutValue) → AreCutInto p found → All AreCut p
all_cut [] [] h = All-nil AreCut
all_cut [] (a ∷ found) h = absurd h
all_cut (t ∷ p) [] h = absurd h
all_cut (t ∷ p) (a ∷ found) h = All-cons AreCut t p (nodes_of t a h.0) (all_cut p found h.1)

found_join : (p : List ProgTransform) (found : List CutValue) (t : ProgTransform) (a : CutValue) → AreCutInto p found → AreNodes t a.nodes → AreCutInto (p ++ t ∷ []) (found ++ a ∷ [])
found_join [] [] t a h n = (n, tt)
found_join [] (b ∷ found) t a h n = absurd h
found_join (u ∷ p) [] t a h n = absurd h
found_join (u ∷ p) (b ∷ found) t a h n = (h.0, found_join p found t a h.1 n)

module _ (p : List ProgTransform) (k : ℕ) (t : ProgTransform) (there : slice_get p k ≡ Some t) where
  one_more : take (k + 1) p ≡ take k p ++ t ∷ []
  one_more = take_more p k t (slice_get_within p k t there) ∙ ap (λ x. take k p ++ x ∷ []) (get_or_from_slice_get p k t t there)

  pub next_found : (found more : List CutValue) (a : CutValue) → AreCutInto (take k p) found → AreNodes t a.nodes → more ≡ found ++ a ∷ [] → AreCutInto (take (k + 1) p) more
  next_found found more a h n is = subst (AreCutInto (take (k + 1) p)) (sym is) (subst (λ q. AreCutInto q (found ++ a ∷ [])) (sym one_more) (found_join (take k p) found t a h n))

  pub fails_found : (found : List CutValue) (e : Refusal) → AreCutInto (take k p) found → (e ≡ Memory) ⊎ FailsCut t k e → (e ≡ Memory) ⊎ IsUncuttable p e
  fails_found found e h (inl is) = inl is
  fails_found found e h (inr fails) = inr (record { place = k; item = t; there = there; fails = fails; earlier = all_cut (take k p) found h })
