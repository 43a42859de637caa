-- Linear expressions over x and y, and their worst values over an area.
use Rattle.std.specs.Prelude.{ℕ, ℤ, pos, ◌+ℤ◌, ◌-ℤ◌, ◌*ℤ◌, int_lt, ◌==◌, Bool, if◌then◌else◌, List}
use Rattle.pb_linear.specs.Form.{value}
use Rattle.pb_linear.specs.Sizes.{le_everywhere}
use Rattle.pb_linear.specs.declared.form.Form.{Form}
use Rattle.pb_linear.specs.declared.vform.SymBox.{SymBox}
use Rattle.pb_linear.specs.declared.vform.VForm.{VForm}

-- the coefficients of x and y, and the rest at sizes
pub record Expression : Type 0 where
  pub x : ℤ
  pub y : ℤ
  pub rest : List ℕ → ℤ

abbrev pub of_vform : VForm → Expression
of_vform v = record { x = v.x; y = v.y; rest = value v.rest }

abbrev pub of_form : Form → Expression
of_form f = record { x = pos 0; y = pos 0; rest = value f }

-- the coordinate on an axis: 0 is x, 1 is y
abbrev pub own : ℕ → Expression
own axis = if axis == 0 then record { x = pos 1; y = pos 0; rest = λ _. pos 0 } else record { x = pos 0; y = pos 1; rest = λ _. pos 0 }

-- so much more
abbrev pub plus : Expression → ℤ → Expression
plus e k = record { x = e.x; y = e.y; rest = λ sizes. e.rest sizes +ℤ k }

abbrev pub minus : Expression → Expression → Expression
minus a b = record { x = a.x -ℤ b.x; y = a.y -ℤ b.y; rest = λ sizes. a.rest sizes -ℤ b.rest sizes }

-- the value at sizes and at a place
abbrev pub value_of : Expression → List ℕ → ℤ → ℤ → ℤ
value_of e sizes x y = e.rest sizes +ℤ (e.x *ℤ x +ℤ e.y *ℤ y)

-- where a coordinate with this coefficient is put: at the upper end minus 1 for a coefficient above 0, else at the lower end
abbrev pub end_for : ℤ → Form → Form → List ℕ → ℤ
end_for k lower upper sizes = if int_lt (pos 0) k then value upper sizes -ℤ pos 1 else value lower sizes

-- the worst value over an area
abbrev pub worst : Expression → SymBox → List ℕ → ℤ
worst e area sizes = value_of e sizes (end_for e.x area.x0 area.x1 sizes) (end_for e.y area.y0 area.y1 sizes)

-- the worst value is at most 0 at all sizes in range
unfoldable pub holds : List ℕ → SymBox → Expression → Bool
holds leasts area e = le_everywhere leasts (worst e area) (λ _. pos 0)
