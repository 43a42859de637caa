-- The end of an area at which a variable makes a value greatest.
use Rattle.std.proofs.Common.{◌≡◌, ℕ, zero, suc, List, ℤ, pos, negsuc, ◌+ℤ◌, ◌-ℤ◌, ◌*ℤ◌, ◌≤ℤ◌, ◌<ℤ◌, int_lt, true, sym, ap, ◌∙◌, arith}
use Rattle.std.proofs.Math.IntN.{*ℤ_comm, *ℤ-negsuc, zero-*ℤ}
use Rattle.std.proofs.lemmas.Int.{ints}
use Rattle.pb_linear.specs.Form.{HasNumbers, numbers, value}
use Rattle.pb_linear.specs.Numbers.{Numbers, exact_value, multiple, sum_of}
use Rattle.pb_linear.specs.VForm.{InArea, Reaches, put_numbers, value_at, worst_end, worst_numbers}
use Rattle.pb_linear.specs.declared.form.Form.{Form}
use Rattle.pb_linear.specs.declared.vform.SymBox.{SymBox}
use Rattle.pb_linear.specs.declared.vform.VForm.{VForm}
use Rattle.pb_linear.proofs.Integers.{mul-le}
use Rattle.pb_linear.proofs.Values.{exact_value-sum, exact_value-multiple, exact_value-with_constant, value_is}

-- numbers that are equal to those of the worst ends may be put in their place
pub same_worst : (v : VForm) (area : SymBox) (x y : Numbers) → x ≡ worst_end v.x area.x0 area.x1 → y ≡ worst_end v.y area.y0 area.y1 → put_numbers v x y ≡ worst_numbers v area
same_worst v area x y ex ey = ap (λ n. put_numbers v n y) ex ∙ ap (put_numbers v (worst_end v.x area.x0 area.x1)) ey

-- above 0 the end is the upper one minus 1
upper_end : (n : ℕ) (lower upper : Form) (sizes : List ℕ) → exact_value (worst_end (pos (suc n)) lower upper) sizes ≡ value upper sizes -ℤ pos 1
upper_end n lower upper sizes =
    let above : int_lt (pos 0) (pos (suc n)) ≡ true = grind (arith, ints) in
    rw above (omega (arith, ints, exact_value-with_constant (upper.constant -ℤ pos 1) (numbers upper) sizes))

-- no place from the lower end to before the upper end gives more
end_best : (k : ℤ) (lower upper : Form) (sizes : List ℕ) (x : ℤ) → value lower sizes ≤ℤ x → x <ℤ value upper sizes → (k *ℤ x) ≤ℤ (k *ℤ exact_value (worst_end k lower upper) sizes)
end_best (pos zero) lower upper sizes x low high = omega (arith, ints, zero-*ℤ x, zero-*ℤ (value lower sizes))
end_best (pos (suc n)) lower upper sizes x low high = mul-le (suc n) _ _ (omega (arith, ints, upper_end n lower upper sizes))
end_best (negsuc n) lower upper sizes x low high =
    omega (arith, ints, mul-le (suc n) (value lower sizes) x low, *ℤ_comm (negsuc n) x, *ℤ_comm (negsuc n) (value lower sizes), *ℤ-negsuc x n, *ℤ-negsuc (value lower sizes) n, *ℤ_comm x (pos (suc n)), *ℤ_comm (value lower sizes) (pos (suc n)))

end_inside : (k : ℤ) (lower upper : Form) (sizes : List ℕ) → value lower sizes <ℤ value upper sizes → (value lower sizes ≤ℤ exact_value (worst_end k lower upper) sizes) × (exact_value (worst_end k lower upper) sizes <ℤ value upper sizes)
end_inside (pos zero) lower upper sizes some = (omega (arith, ints), some)
end_inside (pos (suc n)) lower upper sizes some =
    let at = upper_end n lower upper sizes in
    (omega (arith, ints), omega (arith, ints))
end_inside (negsuc n) lower upper sizes some = (omega (arith, ints), some)

module _ (v : VForm) (area : SymBox) (f : Form) (has : HasNumbers (worst_numbers v area) f) (sizes : List ℕ) where
  worst_value : value f sizes ≡ value v.rest sizes +ℤ (v.x *ℤ exact_value (worst_end v.x area.x0 area.x1) sizes +ℤ v.y *ℤ exact_value (worst_end v.y area.y0 area.y1) sizes)
  worst_value =
      let x = multiple v.x (worst_end v.x area.x0 area.x1) in
      let y = multiple v.y (worst_end v.y area.y0 area.y1) in
      omega (arith, ints, value_is (worst_numbers v area) f has sizes, exact_value-sum (numbers v.rest) (sum_of x y) sizes, exact_value-sum x y sizes, exact_value-multiple v.x (worst_end v.x area.x0 area.x1) sizes, exact_value-multiple v.y (worst_end v.y area.y0 area.y1) sizes)

  pub worst_greatest : (x y : ℤ) → InArea area sizes x y → value_at v sizes x y ≤ℤ value f sizes
  worst_greatest x y at =
      omega (arith, ints, worst_value, end_best v.x area.x0 area.x1 sizes x at.from_x at.before_x, end_best v.y area.y0 area.y1 sizes y at.from_y at.before_y)

  pub worst_reached : (x y : ℤ) → InArea area sizes x y → Reaches v area sizes (value f sizes)
  worst_reached x y at =
      let in_x = end_inside v.x area.x0 area.x1 sizes (omega (arith, ints, at.from_x, at.before_x)) in
      let in_y = end_inside v.y area.y0 area.y1 sizes (omega (arith, ints, at.from_y, at.before_y)) in
      (exact_value (worst_end v.x area.x0 area.x1) sizes, exact_value (worst_end v.y area.y0 area.y1) sizes, record { from_x = in_x.0; before_x = in_x.1; from_y = in_y.0; before_y = in_y.1 }, sym worst_value)
