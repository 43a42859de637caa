use Rattle.std.specs.Prelude.{◌≡◌, ℕ, ℤ, pos, ◌+ℤ◌, ◌-ℤ◌, ◌*ℤ◌, ◌≤ℤ◌, ◌<ℤ◌, int_lt, if◌then◌else◌, List}
use Rattle.pb_linear.specs.Form.{numbers, value}
use Rattle.pb_linear.specs.Numbers.{Numbers, sum_of, multiple, with_constant}
use Rattle.pb_linear.specs.declared.form.Form.{Form}
use Rattle.pb_linear.specs.declared.vform.End.{End}
use Rattle.pb_linear.specs.declared.vform.SymBox.{SymBox}
use Rattle.pb_linear.specs.declared.vform.VForm.{VForm}

-- the value at sizes and at values of x and y
abbrev pub value_at : VForm → List ℕ → ℤ → ℤ → ℤ
value_at v sizes x y = value v.rest sizes +ℤ (v.x *ℤ x +ℤ v.y *ℤ y)

-- the numbers with other numbers put in the place of x and y
abbrev pub put_numbers : VForm → Numbers → Numbers → Numbers
put_numbers v x y = sum_of (numbers v.rest) (sum_of (multiple v.x x) (multiple v.y y))

-- a place of the area at sizes: each coordinate from the lower end to before the upper end
pub record InArea (area : SymBox) (sizes : List ℕ) (x y : ℤ) : Type 0 where
  pub from_x : value area.x0 sizes ≤ℤ x
  pub before_x : x <ℤ value area.x1 sizes
  pub from_y : value area.y0 sizes ≤ℤ y
  pub before_y : y <ℤ value area.y1 sizes

-- some place of the area has this value
abbrev pub Reaches : VForm → SymBox → List ℕ → ℤ → Type 0
Reaches v area sizes m = (x : ℤ) × (y : ℤ) × InArea area sizes x y × (value_at v sizes x y ≡ m)

-- the end of an area at which a variable with this coefficient makes a value greatest: the upper end minus 1 for a
-- coefficient above 0, else the lower end
abbrev pub worst_end : ℤ → Form → Form → Numbers
worst_end k lower upper =
    if int_lt (pos 0) k then with_constant (upper.constant -ℤ pos 1) (numbers upper) else numbers lower

-- the numbers with x and y put at the ends of the area that make the value greatest
abbrev pub worst_numbers : VForm → SymBox → Numbers
worst_numbers v area = put_numbers v (worst_end v.x area.x0 area.x1) (worst_end v.y area.y0 area.y1)

-- the numbers of an end of an area
abbrev pub end_numbers : End → Numbers
end_numbers e = with_constant e.constant (numbers e.form)
