-- A matrix is cut or refused for one reason, and so are the matrices of a transform.
use Rattle.std.proofs.Common.{◌≡◌, ◌∙◌, refl, sym, ap, subst, inl, inr, ◌⊎◌, ℕ, zero, suc, ◌+◌, ◌-◌, ◌<◌, true, List, [], ◌∷◌, length, map, drop, get_or, slice_get, Some, ℤ, arith}
use Rattle.std.specs.Prelude.{◌==◌, filter}
use Rattle.std.specs.List.{All, AllByRecursion, Contains, enumerate_from, list_all}
use Rattle.std.proofs.lemmas.Bool.{and_parts, le-leb, leb-true}
use Rattle.std.proofs.lemmas.List.FromFn.{get_or-range_with_len, length-range_with_len}
use Rattle.std.proofs.lemmas.Option.{get_or_from_slice_get, slice_get_within}
use Rattle.pb_linear.specs.Form.{numbers}
use Rattle.pb_linear.specs.Limits.{is_number}
use Rattle.pb_linear.specs.Numbers.{Numbers}
use Rattle.pb_linear.specs.RuleBox.{Bounds}
use Rattle.pb_linear.specs.Sizes.{IsRanges, leasts_of}
use Rattle.pb_linear.specs.declared.form.Form.{Form}
use Rattle.pb_linear.proofs.SameForms.{Form-same}
use Rattle.pb_syntax.specs.declared.refusal.Refusal.{Refusal}
use Rattle.pb_grid.specs.Grids.{HasGrid, HasRefusal, IsGrid, IsRefused as IsMatrixRefused, Matrix, matrix_of}
use Rattle.pb_grid.proofs.AnswerLemmas.{not_refused, one_refusal, some_answer}
use Rattle.pb_program.specs.declared.view.Read.{Read}
use Rattle.pb_program.specs.Forms.{DeclValue}
use Rattle.pb_program.specs.Trees.{ProgTransform}
use Rattle.pb_program.specs.WellFormed.{IsDecl, IsRule, IsTransform}
use Rattle.pb_region.specs.Boxes.{BoxValue, box, box_of}
use Rattle.pb_region.specs.Small.{AreSmallLimits, IsSmallBound, is_bound_number}
use Rattle.pb_region.proofs.LimitLemmas.{bound_form, small_form, small_limits}
use Rattle.pb_region.proofs.SmallLemmas.{at_place}
use Rattle.pb_base.proofs.ListLemmas.{at_in, filter_in, flat_in, map_in}
use Rattle.pb_check.specs.Cuts.{AreCut, FailsCut, HasCut, IsMatrix, IsUncut, boxes_on, made_matrices, rule_boxes, to_refusal}
use Rattle.pb_check.specs.Firsts.{IsFirst}
use Rattle.pb_check.proofs.FirstLemmas.{none_first, same_item, same_place, some_at, some_first}

-- ---- forms and boxes by what contracts see of them
pub same_form : (f g : Form) → numbers f ≡ numbers g → f ≡ g
same_form f g e = Form-same f g (record {
  constant = ap (λ (n : Numbers). n.constant) e;
  whole = ap (λ (n : Numbers). n.whole) e;
  half = ap (λ (n : Numbers). n.half) e;
  third = ap (λ (n : Numbers). n.third) e;
  quarter = ap (λ (n : Numbers). n.quarter) e;
})

pub same_list : {A B : Type 0} (f : A → B) → ((x y : A) → f x ≡ f y → x ≡ y) → (xs ys : List A) → map f xs ≡ map f ys → xs ≡ ys
same_list f same [] [] e = refl
same_list f same [] (y ∷ ys) e = let n = ap length e in absurd (omega arith)
same_list f same (x ∷ xs) [] e = let n = ap length e in absurd (omega arith)
same_list f same (x ∷ xs) (y ∷ ys) e = ap (λ z. z ∷ xs) (same x y (ap (λ l. get_or l 0 (f x)) e)) ∙ ap (λ l. y ∷ l) (same_list f same xs ys (ap (drop 1) e))

same_forms : (fs gs : List Form) → map numbers fs ≡ map numbers gs → fs ≡ gs
same_forms = same_list numbers same_form

same_box : (a b : Bounds) → box_of a ≡ box_of b → a ≡ b
same_box a b e =
    let lower_x = same_forms a.lower_x b.lower_x (ap (λ (v : BoxValue). v.limits.lower_x) e) in
    let upper_x = same_forms a.upper_x b.upper_x (ap (λ (v : BoxValue). v.limits.upper_x) e) in
    let lower_y = same_forms a.lower_y b.lower_y (ap (λ (v : BoxValue). v.limits.lower_y) e) in
    let upper_y = same_forms a.upper_y b.upper_y (ap (λ (v : BoxValue). v.limits.upper_y) e) in
    let rule = ap (λ (v : BoxValue). v.rule) e in
    let priority = ap (λ (v : BoxValue). v.priority) e in
    let guarded = ap (λ (v : BoxValue). v.guarded) e in
    let wide = ap (λ (v : BoxValue). v.wide) e in
    λ i. record { rule = rule i; priority = priority i; guarded = guarded i; wide = wide i; lower_x = lower_x i; upper_x = upper_x i; lower_y = lower_y i; upper_y = upper_y i }

pub same_decl : (d e : DeclValue) → Some d ≡ Some e → d ≡ e
same_decl d e h = cc

-- ---- a transform's matrix of a number is one
module _ (t : ProgTransform) (number : ℕ) where
  pub one_matrix : (m n : Matrix) → IsMatrix t number m → IsMatrix t number n → m ≡ n
  one_matrix m n h k =
      let decl = same_decl h.decl k.decl (sym h.there ∙ k.there) in
      let leasts = h.leasts ∙ sym k.leasts in
      let boxes = same_list box_of same_box m.boxes n.boxes (h.boxes ∙ sym k.boxes) in
      let width = same_form m.width n.width (h.width ∙ ap (λ (d : DeclValue). d.w) decl ∙ sym k.width) in
      let height = same_form m.height n.height (h.height ∙ ap (λ (d : DeclValue). d.h) decl ∙ sym k.height) in
      λ i. record { leasts = leasts i; boxes = boxes i; width = width i; height = height i }

  pub cut_or_uncut : (k : ℕ) (e : Refusal) → HasCut t number → IsUncut t k number e → ⊥
  cut_or_uncut k e h u =
      let same = one_matrix h.cut.matrix u.of h.cut.is u.is in
      not_refused u.of h.segments u.why (subst (λ m. IsGrid m h.segments) same h.cut.grid) u.refused

  pub one_uncut : (k : ℕ) (e f : Refusal) → IsUncut t k number e → IsUncut t k number f → e ≡ f
  one_uncut k e f h u =
      let same = one_matrix h.of u.of h.is u.is in
      let why = one_refusal u.of h.why u.why (subst (λ m. IsMatrixRefused m h.why) same h.refused) u.refused in
      h.told ∙ ap (to_refusal k number) why ∙ sym u.told

-- ---- there is such a matrix
bound_number : (z : ℤ) → is_bound_number z ≡ true → is_number z ≡ true
bound_number z h = le-leb _ _ (omega (arith, leb-true _ _ h))

bound_row : (xs : List ℤ) → list_all is_bound_number xs ≡ true → list_all is_number xs ≡ true
bound_row [] h = refl
bound_row (x ∷ xs) h = let parts = and_parts (is_bound_number x) (list_all is_bound_number xs) h in rw (bound_number x parts.0, bound_row xs parts.1) refl

form_of : (n : Numbers) → IsSmallBound n → Form
form_of n h = record {
  constant = n.constant;
  whole = n.whole;
  half = n.half;
  third = n.third;
  quarter = n.quarter;
  small_constant = bound_number n.constant h.constant;
  small_whole = bound_row n.whole h.whole;
  small_half = bound_row n.half h.half;
  small_third = bound_row n.third h.third;
  small_quarter = bound_row n.quarter h.quarter;
}

pub some_form : (n : Numbers) → IsSmallBound n → (f : Form) × (numbers f ≡ n)
unfolding form_of
some_form n h = (form_of n h, refl)

some_forms : (ns : List Numbers) → AllByRecursion IsSmallBound ns → (fs : List Form) × (map numbers fs ≡ ns)
some_forms [] h = ([], refl)
some_forms (n ∷ ns) h = let f = some_form n h.0 in let rest = some_forms ns h.1 in (f.0 ∷ rest.0, ap (λ z. z ∷ map numbers rest.0) f.1 ∙ ap (λ l. n ∷ l) rest.1)

some_box : (v : BoxValue) → AreSmallLimits v.limits → (b : Bounds) × (box_of b ≡ v)
some_box v h =
    let lower_x = some_forms v.limits.lower_x h.lower_x in
    let upper_x = some_forms v.limits.upper_x h.upper_x in
    let lower_y = some_forms v.limits.lower_y h.lower_y in
    let upper_y = some_forms v.limits.upper_y h.upper_y in (
      record { rule = v.rule; priority = v.priority; guarded = v.guarded; wide = v.wide; lower_x = lower_x.0; upper_x = upper_x.0; lower_y = lower_y.0; upper_y = upper_y.0 },
      λ i. record { rule = v.rule; priority = v.priority; guarded = v.guarded; wide = v.wide; limits = record { lower_x = lower_x.1 i; upper_x = upper_x.1 i; lower_y = lower_y.1 i; upper_y = upper_y.1 i } },
    )

some_boxes : (vs : List BoxValue) → ((v : BoxValue) → Contains vs v → AreSmallLimits v.limits) → (bs : List Bounds) × (map box_of bs ≡ vs)
some_boxes [] h = ([], refl)
some_boxes (v ∷ vs) h =
    let b = some_box v (h v (0, omega arith, refl)) in
    let rest = some_boxes vs (λ w c. h w (suc c.0, omega (arith, c.1), c.2)) in
    (b.0 ∷ rest.0, ap (λ z. z ∷ map box_of rest.0) b.1 ∙ ap (λ l. v ∷ l) rest.1)

numbered_in : {A : Type 0} (n : ℕ) (xs : List A) (e : ℕ × A) → Contains (enumerate_from n xs) e → Contains xs e.1
numbered_in n [] e c = absurd (omega (arith, c.1))
numbered_in n (x ∷ xs) e (zero, below, is) = (0, omega arith, ap (λ (p : _). p.1) is)
numbered_in n (x ∷ xs) e (suc k, below, is) = let rest = numbered_in (n + 1) xs e (k, omega arith, is) in (suc rest.0, omega (arith, rest.1), rest.2)

module _ (count : ℕ) (t : ProgTransform) (fits : IsTransform count t) (ranges : IsRanges t.ranges) where
  pub small_on : (number : ℕ) (v : BoxValue) → Contains (boxes_on t number) v → AreSmallLimits v.limits
  small_on number v c =
      let rule = flat_in (rule_boxes t number) (enumerate_from 0 t.rules) v c in
      let place = at_in t.rules rule.0.1 (numbered_in 0 t.rules rule.0 rule.1) in
      let out = map_in (box (leasts_of t.ranges) t.matrices rule.0.0 rule.0.1) (filter (λ (o : Read). o.matrix == number) rule.0.1.outs) v rule.2 in
      let rule_fits = at_place (IsRule (length t.sizes) t.inputs (length t.matrices) count) t.rules place.0 rule.0.1 fits.rules place.1 in
      subst (λ (w : BoxValue). AreSmallLimits w.limits) out.2
      (small_limits (length t.sizes) t.matrices fits.matrices t.inputs (length t.matrices) count rule.0.1 rule_fits (leasts_of t.ranges) rule.0.0 out.0 (filter_in (λ (o : Read). o.matrix == number) rule.0.1.outs out.0 out.1).0)

  answer_by : (number k : ℕ) (m : Matrix) → IsMatrix t number m → HasGrid m ⊎ HasRefusal m → HasCut t number ⊎ ((e : Refusal) × IsUncut t k number e)
  answer_by number k m is (inl grid) = inl (record { segments = grid.segments; cut = record { matrix = m; is = is; grid = grid.is } })
  answer_by number k m is (inr bad) = inr (to_refusal k number bad.why, record { of = m; is = is; why = bad.why; refused = bad.told; told = refl })

  pub some_cut : (number k : ℕ) (d : DeclValue) → slice_get t.matrices number ≡ Some d → HasCut t number ⊎ ((e : Refusal) × IsUncut t k number e)
  some_cut number k d there =
      let decl = at_place (IsDecl (length t.sizes)) t.matrices number d fits.matrices there in
      let w = some_form d.w (bound_form d.w (small_form (length t.sizes) d.w decl.w)) in
      let h = some_form d.h (bound_form d.h (small_form (length t.sizes) d.h decl.h)) in
      let bs = some_boxes (boxes_on t number) (small_on number) in
      answer_by number k (matrix_of t.ranges bs.0 w.0 h.0) (record { decl = d; there = there; leasts = refl; boxes = bs.1; width = w.1; height = h.1 }) (some_answer t.ranges ranges bs.0 w.0 h.0)

  made_there : (k number : ℕ) → slice_get (made_matrices t) k ≡ Some number → (d : DeclValue) × (slice_get t.matrices number ≡ Some d)
  made_there k number at =
      let below : k < length t.matrices - t.inputs = omega (arith, slice_get_within (made_matrices t) k number at, length-range_with_len t.inputs (length t.matrices - t.inputs)) in
      let e : number ≡ t.inputs + k = sym (get_or_from_slice_get (made_matrices t) k number number at) ∙ get_or-range_with_len t.inputs (length t.matrices - t.inputs) k number below in
      some_at t.matrices number (omega arith)

  all_or_first : (n : ℕ) → All (HasCut t) (made_matrices t) ⊎ IsFirst (HasCut t) (λ k m. (e : Refusal) × IsUncut t n m e) (made_matrices t) → AreCut t ⊎ ((e : Refusal) × FailsCut t n e)
  all_or_first n (inl all) = inl (record { each = all })
  all_or_first n (inr f) = inr (f.fails.0, record { place = f.place; item = f.item; there = f.there; fails = f.fails.1; earlier = f.earlier })

  pub cut_answer : (n : ℕ) → AreCut t ⊎ ((e : Refusal) × FailsCut t n e)
  cut_answer n = all_or_first n (some_first (HasCut t) (λ k m. (e : Refusal) × IsUncut t n m e) (made_matrices t) (λ k m at. let d = made_there k m at in some_cut m n d.0 d.1))

module _ (n : ℕ) (t : ProgTransform) where
  pub cut_apart : (e : Refusal) → AreCut t → FailsCut t n e → ⊥
  cut_apart e all f = none_first (HasCut t) (λ k m. IsUncut t n m e) (λ k m. cut_or_uncut t m n e) (made_matrices t) all.each f

  pub one_failing : (e f : Refusal) → FailsCut t n e → FailsCut t n f → e ≡ f
  one_failing e f a b =
      let P : Refusal → ℕ → ℕ → Type 0 = λ x k m. IsUncut t n m x in
      let place = same_place (HasCut t) (P e) (P f) (λ k m. cut_or_uncut t m n e) (λ k m. cut_or_uncut t m n f) (made_matrices t) a b in
      let item = same_item (HasCut t) (P e) (P f) (made_matrices t) a b place in
      one_uncut t b.item n e f (subst (λ m. IsUncut t n m e) item a.fails) b.fails
