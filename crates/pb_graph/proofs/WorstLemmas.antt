-- What forms put at the worst place of an area are worth, and that they aren't refused.
use Rattle.std.proofs.Common.{◌≡◌, ◌∙◌, refl, ap, ℕ, ◌+◌, ◌^◌, List, true, false, Bool, None, ℤ, pos, negsuc, ◌+ℤ◌, ◌-ℤ◌, ◌*ℤ◌, int_lt, suc, zero, ◌/◌, get_or, replicate, ◌==◌, arith}
use Rattle.std.proofs.Math.Bool.{cond}
use Rattle.std.proofs.lemmas.Int.{ints}
use Rattle.std.proofs.Math.IntN.{zero-*ℤ}
use Rattle.std.proofs.lemmas.Bool.{leb-true, le-leb}
use Rattle.pb_linear.specs.Form.{HasNumbers, numbers, value}
use Rattle.pb_linear.specs.Numbers.{Numbers, coefficient, value_before, difference, exact_value, multiple, refusal, sum_of, with_constant}
use Rattle.pb_linear.specs.Sizes.{le_everywhere}
use Rattle.pb_linear.specs.VForm.{worst_end, worst_numbers}
use Rattle.pb_linear.specs.declared.form.Form.{Form}
use Rattle.pb_linear.specs.declared.vform.SymBox.{SymBox}
use Rattle.pb_linear.specs.declared.vform.VForm.{VForm}
use Rattle.pb_linear.proofs.SizesLemmas.{le_everywhere-difference}
use Rattle.pb_linear.proofs.Values.{exact_value-multiple, exact_value-sum, exact_value-with_constant, value-sum, value_is}
use Rattle.pb_graph.specs.Expressions.{Expression, end_for, holds, minus, of_vform, own, plus, worst}
use Rattle.pb_graph.specs.Near.{AreNear, CanBeTaken, is_near}
use Rattle.pb_graph.specs.Edges.{at_or_before_by, before_by, span}
use Rattle.pb_graph.specs.Seen.{IsOwn}
use Rattle.pb_linear.specs.declared.boxes.ReadBox.{ReadBox}
use Rattle.pb_linear.specs.declared.boxes.Sign.TheVariants.{Plus, Minus}
use Rattle.pb_graph.specs.Small.{IsSmallArea, IsSmallEnd}
use Rattle.pb_graph.proofs.NearLemmas.{difference_near, near_multiple, near_nearer, near_sum, not_refused}

-- ---- the worst ends
end_near : (f : Form) → IsSmallEnd f → AreNear (2 ^ 24 + 2) (numbers f)
end_near f h = record { constant = h.constant; whole = h.whole; half = h.half; third = h.third; quarter = h.quarter }

less_near : (a : ℤ) (A : ℕ) → is_near A a ≡ true → is_near (A + 1) (a -ℤ pos 1) ≡ true
less_near a A h = le-leb _ _ (omega (arith, ints, leb-true _ _ h))

upper_near : (f : Form) → IsSmallEnd f → AreNear (2 ^ 24 + 3) (with_constant (f.constant -ℤ pos 1) (numbers f))
upper_near f h =
    let n = near_nearer (numbers f) (2 ^ 24 + 2) (2 ^ 24 + 3) (omega arith) (end_near f h) in
    record { constant = less_near f.constant (2 ^ 24 + 2) h.constant; whole = n.whole; half = n.half; third = n.third; quarter = n.quarter }

worst_near : (k : ℤ) (lower upper : Form) → IsSmallEnd lower → IsSmallEnd upper → AreNear (2 ^ 24 + 3) (worst_end k lower upper)
worst_near k lower upper l u = by_test (int_lt (pos 0) k) refl
  where
    by_test : (b : Bool) → int_lt (pos 0) k ≡ b → AreNear (2 ^ 24 + 3) (cond b (with_constant (upper.constant -ℤ pos 1) (numbers upper)) (numbers lower))
    by_test true e = upper_near upper u
    by_test false e = near_nearer (numbers lower) (2 ^ 24 + 2) (2 ^ 24 + 3) (omega arith) (end_near lower l)

end_value : (k : ℤ) (lower upper : Form) (sizes : List ℕ) → exact_value (worst_end k lower upper) sizes ≡ end_for k lower upper sizes
end_value k lower upper sizes = by_test (int_lt (pos 0) k)
  where
    by_test : (b : Bool) → exact_value (cond b (with_constant (upper.constant -ℤ pos 1) (numbers upper)) (numbers lower)) sizes ≡ cond b (value upper sizes -ℤ pos 1) (value lower sizes)
    by_test true = omega (arith, ints, exact_value-with_constant (upper.constant -ℤ pos 1) (numbers upper) sizes)
    by_test false = refl

-- ---- a difference at the worst place
module _ (left right gap : VForm) (area : SymBox) (x : gap.x ≡ left.x -ℤ right.x) (y : gap.y ≡ left.y -ℤ right.y) (rest : HasNumbers (difference (numbers left.rest) (numbers right.rest)) gap.rest) where
  rest_near : (A : ℕ) → AreNear A (difference (numbers left.rest) (numbers right.rest)) → AreNear A (numbers gap.rest)
  rest_near A h = record { constant = rw rest.constant h.constant; whole = rw rest.whole h.whole; half = rw rest.half h.half; third = rw rest.third h.third; quarter = rw rest.quarter h.quarter }

  pub worst_fits : IsSmallArea area → CanBeTaken left right → refusal (worst_numbers gap area) ≡ None
  worst_fits small t =
      let E : ℕ = 2 ^ 24 + 3 in
      let r = rest_near (t.left_top + t.right_top) (difference_near (numbers left.rest) (numbers right.rest) t.left_top t.right_top t.of_left.rest t.of_right.rest) in
      let at_x = near_multiple gap.x (worst_end gap.x area.x0 area.x1) E (worst_near gap.x area.x0 area.x1 small.x0 small.x1) in
      let at_y = near_multiple gap.y (worst_end gap.y area.y0 area.y1) E (worst_near gap.y area.y0 area.y1 small.y0 small.y1) in
      let sum = near_sum _ _ _ _ r (near_sum _ _ _ _ at_x at_y) in
      not_refused (worst_numbers gap area) _ (omega (arith, ints, t.room, t.of_left.coefficients, t.of_right.coefficients)) sum

  module _ (f : Form) (has : HasNumbers (worst_numbers gap area) f) where
    worst_value : (sizes : List ℕ) → value f sizes ≡ worst (minus (of_vform left) (of_vform right)) area sizes
    worst_value sizes =
        let at_x = multiple gap.x (worst_end gap.x area.x0 area.x1) in
        let at_y = multiple gap.y (worst_end gap.y area.y0 area.y1) in
        let split : value f sizes ≡ value gap.rest sizes +ℤ (gap.x *ℤ exact_value (worst_end gap.x area.x0 area.x1) sizes +ℤ gap.y *ℤ exact_value (worst_end gap.y area.y0 area.y1) sizes) =
        omega (arith, ints, value_is (worst_numbers gap area) f has sizes, exact_value-sum (numbers gap.rest) (sum_of at_x at_y) sizes, exact_value-sum at_x at_y sizes, exact_value-multiple gap.x (worst_end gap.x area.x0 area.x1) sizes, exact_value-multiple gap.y (worst_end gap.y area.y0 area.y1) sizes) in
        let base : value gap.rest sizes ≡ value left.rest sizes -ℤ value right.rest sizes = omega (arith, ints, value-sum left.rest right.rest gap.rest (negsuc 0) rest sizes) in
        split
        ∙ ap (λ z. z +ℤ (gap.x *ℤ exact_value (worst_end gap.x area.x0 area.x1) sizes +ℤ gap.y *ℤ exact_value (worst_end gap.y area.y0 area.y1) sizes)) base
        ∙ ap (λ z. (value left.rest sizes -ℤ value right.rest sizes) +ℤ (gap.x *ℤ z +ℤ gap.y *ℤ exact_value (worst_end gap.y area.y0 area.y1) sizes)) (end_value gap.x area.x0 area.x1 sizes)
        ∙ ap (λ z. (value left.rest sizes -ℤ value right.rest sizes) +ℤ (gap.x *ℤ end_for gap.x area.x0 area.x1 sizes +ℤ gap.y *ℤ z)) (end_value gap.y area.y0 area.y1 sizes)
        ∙ ap (λ z. (value left.rest sizes -ℤ value right.rest sizes) +ℤ (z *ℤ end_for z area.x0 area.x1 sizes +ℤ gap.y *ℤ end_for gap.y area.y0 area.y1 sizes)) x
        ∙ ap (λ z. (value left.rest sizes -ℤ value right.rest sizes) +ℤ ((left.x -ℤ right.x) *ℤ end_for (left.x -ℤ right.x) area.x0 area.x1 sizes +ℤ z *ℤ end_for z area.y0 area.y1 sizes)) y

    pub holds_by_worst : (leasts : List ℕ) → le_everywhere leasts (value f) (λ _. pos 0) ≡ holds leasts area (minus (of_vform left) (of_vform right))
    unfolding holds
    holds_by_worst leasts =
        le_everywhere-difference leasts (worst (minus (of_vform left) (of_vform right)) area) (λ _. pos 0) (value f) (λ sizes. omega (arith, ints, worst_value sizes))

-- ---- expressions of equal values
same_holds : (leasts : List ℕ) (area : SymBox) (e f : Expression) → e.x ≡ f.x → e.y ≡ f.y → ((sizes : List ℕ) → e.rest sizes ≡ f.rest sizes) → holds leasts area e ≡ holds leasts area f
unfolding holds
same_holds leasts area e f x y rest =
    le_everywhere-difference leasts (worst f area) (λ _. pos 0) (worst e area) (λ sizes. let same : worst e area sizes ≡ worst f area sizes = same_worst sizes in omega (arith, ints))
  where
    same_worst : (sizes : List ℕ) → worst e area sizes ≡ worst f area sizes
    same_worst sizes =
        ap (λ z. z +ℤ (e.x *ℤ end_for e.x area.x0 area.x1 sizes +ℤ e.y *ℤ end_for e.y area.y0 area.y1 sizes)) (rest sizes)
        ∙ ap (λ z. f.rest sizes +ℤ (z *ℤ end_for z area.x0 area.x1 sizes +ℤ e.y *ℤ end_for e.y area.y0 area.y1 sizes)) x
        ∙ ap (λ z. f.rest sizes +ℤ (f.x *ℤ end_for f.x area.x0 area.x1 sizes +ℤ z *ℤ end_for z area.y0 area.y1 sizes)) y

-- ---- the coordinate of the cell
abbrev zeros : List ℤ
zeros = replicate 8 (pos 0)

zero_at : (n i : ℕ) → coefficient (replicate n (pos 0)) i ≡ pos 0
zero_at zero i = refl
zero_at (suc n) zero = refl
zero_at (suc n) (suc i) = zero_at n i

abbrev number : ℤ → Numbers
number k = record { constant = k; whole = zeros; half = zeros; third = zeros; quarter = zeros }

number_before : (i : ℕ) (k : ℤ) (sizes : List ℕ) → value_before i (number k) sizes ≡ k
unfolding value_before
number_before zero k sizes = refl
number_before (suc i) k sizes =
    let term = λ (size : ℕ). ap (λ z. z *ℤ pos size) (zero_at 8 i) ∙ zero-*ℤ (pos size) in
    let v : ℕ = get_or sizes i 0 in
    omega (arith, ints, number_before i k sizes, term v, term (v / 2), term (v / 3), term (v / 4))

pub number_value : (k : ℤ) (sizes : List ℕ) → exact_value (number k) sizes ≡ k
number_value k sizes = number_before 8 k sizes

own_rest : (axis : ℕ) (sizes : List ℕ) → (own axis).rest sizes ≡ pos 0
own_rest axis sizes = by_test (axis == 0)
  where
    by_test : (b : Bool) → (cond b (own 0) (own 1)).rest sizes ≡ pos 0
    by_test true = refl
    by_test false = refl

module _ (leasts : List ℕ) (area : SymBox) (r : ReadBox) (axis : ℕ) (v bound : VForm) where
  abbrev low : Expression
  low = (span axis r).low

  abbrev high : Expression
  high = (span axis r).high

  pub before_plus : of_vform bound ≡ high → IsOwn axis (pos 0) v → holds leasts area (minus (of_vform bound) (of_vform v)) ≡ before_by leasts area r axis Plus
  before_plus e is =
      ap (λ b. holds leasts area (minus b (of_vform v))) e
      ∙ same_holds leasts area (minus high (of_vform v)) (minus high (own axis)) (ap (λ z. high.x -ℤ z) is.x) (ap (λ z. high.y -ℤ z) is.y) (λ sizes. omega (arith, ints, is.rest sizes, own_rest axis sizes))

  pub at_plus : of_vform bound ≡ high → IsOwn axis (pos 1) v → holds leasts area (minus (of_vform bound) (of_vform v)) ≡ at_or_before_by leasts area r axis Plus
  at_plus e is =
      ap (λ b. holds leasts area (minus b (of_vform v))) e
      ∙ same_holds leasts area (minus high (of_vform v)) (minus (plus high (negsuc 0)) (own axis)) (ap (λ z. high.x -ℤ z) is.x) (ap (λ z. high.y -ℤ z) is.y) (λ sizes. omega (arith, ints, is.rest sizes, own_rest axis sizes))

  pub before_minus : of_vform bound ≡ low → IsOwn axis (pos 1) v → holds leasts area (minus (of_vform v) (of_vform bound)) ≡ before_by leasts area r axis Minus
  before_minus e is =
      ap (λ b. holds leasts area (minus (of_vform v) b)) e
      ∙ same_holds leasts area (minus (of_vform v) low) (minus (plus (own axis) (pos 1)) low) (ap (λ z. z -ℤ low.x) is.x) (ap (λ z. z -ℤ low.y) is.y) (λ sizes. omega (arith, ints, is.rest sizes, own_rest axis sizes))

  pub at_minus : of_vform bound ≡ low → IsOwn axis (pos 0) v → holds leasts area (minus (of_vform v) (of_vform bound)) ≡ at_or_before_by leasts area r axis Minus
  at_minus e is =
      ap (λ b. holds leasts area (minus (of_vform v) b)) e
      ∙ same_holds leasts area (minus (of_vform v) low) (minus (own axis) low) (ap (λ z. z -ℤ low.x) is.x) (ap (λ z. z -ℤ low.y) is.y) (λ sizes. omega (arith, ints, is.rest sizes, own_rest axis sizes))
