-- The extents of views.
use Rattle.std.proofs.Common.{◌≡◌, ◌∙◌, refl, ap, ℕ, ◌+◌, ◌≤◌, ◌^◌, ℤ, pos, ◌+ℤ◌, ◌-ℤ◌, ◌*ℤ◌, unsigned_abs, FitsSigned, w64, to_z, of_z, Bool, true, false, List, arith}
use Rattle.std.specs.Prelude.{if◌then◌else◌}
use Rattle.std.proofs.lemmas.Int.{ints}
use Rattle.pb_linear.proofs.Integers.{add-mul, mul-add}
use Rattle.pb_program.specs.Areas.{one_place}
use Rattle.pb_program.specs.Forms.{CoordinateValue, coordinate_at}
use Rattle.pb_views.specs.Lines.{IsLine, line_at}
use Rattle.pb_views.specs.declared.line.Line.{Line}
use Rattle.pb_instance_cost.specs.Extents.{extent_at, span_length}
use Rattle.pb_instance_cost.specs.declared.extent.Extent.{Extent}

-- a span of one place
pub one_long : (z : ℤ) → span_length (one_place z) ≡ pos 1
one_long z = omega (arith, ints)

pub flat_long : (flat : Bool) (z : ℤ) → span_length (if flat then one_place (pos 0) else one_place z) ≡ pos 1
flat_long true z = refl
flat_long false z = one_long z

-- from one coordinate to another
sub-mul : (a b c : ℤ) → (a -ℤ b) *ℤ c ≡ a *ℤ c -ℤ b *ℤ c
sub-mul a b c = let whole : a -ℤ b +ℤ b ≡ a = omega (arith, ints) in omega (arith, ints, add-mul (a -ℤ b) b c, ap (λ z. z *ℤ c) whole)

line_is : (c : CoordinateValue) (sizes : List ℕ) (l : Line) (x y : ℤ) → IsLine c sizes l → line_at l x y ≡ coordinate_at c sizes x y
line_is c sizes l x y h i = h.of_rest i +ℤ (h.of_x i *ℤ x +ℤ h.of_y i *ℤ y)

-- as the machine computes a difference
abbrev minus : ℤ → ℤ → ℤ
minus a b = to_z w64 (of_z w64 (to_z w64 (of_z w64 a) -ℤ to_z w64 (of_z w64 b)))

minus_is : (a b : ℤ) → unsigned_abs a ≤ 2 ^ 52 → unsigned_abs b ≤ 2 ^ 52 → minus a b ≡ a -ℤ b
minus_is a b small_a small_b = omega (arith, ints)

pub between_is : (sizes : List ℕ) (high low : CoordinateValue) (h l : Line) → IsLine high sizes h → IsLine low sizes l → (x y : ℤ)
    → minus h.rest l.rest +ℤ (minus h.x l.x *ℤ x +ℤ minus h.y l.y *ℤ y) ≡ coordinate_at high sizes x y -ℤ coordinate_at low sizes x y
between_is sizes high low h l is_h is_l x y =
    let rest = minus_is h.rest l.rest h.small_rest l.small_rest in
    let of_x = minus_is h.x l.x (omega (arith, h.small_x)) (omega (arith, l.small_x)) in
    let of_y = minus_is h.y l.y (omega (arith, h.small_y)) (omega (arith, l.small_y)) in
    let terms : minus h.rest l.rest +ℤ (minus h.x l.x *ℤ x +ℤ minus h.y l.y *ℤ y) ≡ h.rest -ℤ l.rest +ℤ ((h.x -ℤ l.x) *ℤ x +ℤ (h.y -ℤ l.y) *ℤ y) = λ i. rest i +ℤ (of_x i *ℤ x +ℤ of_y i *ℤ y) in
    let lines : h.rest -ℤ l.rest +ℤ ((h.x -ℤ l.x) *ℤ x +ℤ (h.y -ℤ l.y) *ℤ y) ≡ line_at h x y -ℤ line_at l x y = omega (arith, ints, sub-mul h.x l.x x, sub-mul h.y l.y y) in
    terms ∙ lines ∙ λ i. line_is high sizes h x y is_h i -ℤ line_is low sizes l x y is_l i

-- one step along a row
pub step_is : (e : Extent) (x k : ℕ) (y : ℤ) → extent_at e (pos (x + k)) y ≡ extent_at e (pos x) y +ℤ e.x *ℤ pos k
step_is e x k y = omega (arith, ints, mul-add e.x (pos x) (pos k))

-- ---- as the machine computes an extent
factor_is : (a : ℤ) → unsigned_abs a ≤ 2 ^ 27 → to_z w64 (of_z w64 a) ≡ a
factor_is a small = omega (arith, ints)

module _ (a b d : ℤ) (small_a : unsigned_abs a ≤ 2 ^ 53) (small_b : unsigned_abs b ≤ 2 ^ 50) (small_d : unsigned_abs d ≤ 2 ^ 50) where
  pub three_fit : FitsSigned w64 (to_z w64 (of_z w64 a) +ℤ to_z w64 (of_z w64 (to_z w64 (of_z w64 b) +ℤ to_z w64 (of_z w64 d))))
  three_fit = omega (arith, ints)

  three_are : to_z w64 (of_z w64 (to_z w64 (of_z w64 a) +ℤ to_z w64 (of_z w64 (to_z w64 (of_z w64 b) +ℤ to_z w64 (of_z w64 d))))) ≡ a +ℤ (b +ℤ d)
  three_are = omega (arith, ints)

pub along_is : (e : Extent) (x y : ℕ) (p q : ℤ) → unsigned_abs p ≤ 2 ^ 50 → unsigned_abs q ≤ 2 ^ 50 → p ≡ to_z w64 (of_z w64 e.x) *ℤ pos x → q ≡ to_z w64 (of_z w64 e.y) *ℤ pos y
    → to_z w64 (of_z w64 (to_z w64 (of_z w64 e.rest) +ℤ to_z w64 (of_z w64 (to_z w64 (of_z w64 p) +ℤ to_z w64 (of_z w64 q))))) ≡ extent_at e (pos x) (pos y)
along_is e x y p q small_p small_q is_p is_q =
    let of_p = is_p ∙ ap (λ z. z *ℤ pos x) (factor_is e.x e.small_x) in
    let of_q = is_q ∙ ap (λ z. z *ℤ pos y) (factor_is e.y e.small_y) in
    three_are e.rest p q e.small_rest small_p small_q ∙ λ i. e.rest +ℤ (of_p i +ℤ of_q i)
