-- What contracts see of forms: their numbers.
use Rattle.std.specs.Prelude.{ℕ, ℤ, pos, ◌+ℤ◌, ◌*ℤ◌, Bool, false, List, [], ◌∷◌}
use Rattle.pb_linear.specs.Numbers.{Numbers, exact_value}
use Rattle.pb_values.specs.Name.{NameValue}
use Rattle.pb_program.specs.declared.statement.LocalTerm.{LocalTerm}

-- of a matrix
pub record DeclValue : Type 0 where
  pub name : NameValue
  pub dims : ℕ
  pub w : Numbers
  pub h : Numbers

-- of a coordinate or a side of a condition: the coefficients of the rule variables, and the form over the sizes
pub record CoordinateValue : Type 0 where
  pub x : ℤ
  pub y : ℤ
  pub rest : Numbers
  pub quotient : Bool

-- of a dimension of a local matrix
pub record LocalFormValue : Type 0 where
  pub minus : Bool
  pub terms : List LocalTerm

-- the value at sizes and at values of the rule variables
abbrev pub coordinate_at : CoordinateValue → List ℕ → ℤ → ℤ → ℤ
coordinate_at c sizes x y = exact_value c.rest sizes +ℤ (c.x *ℤ x +ℤ c.y *ℤ y)

abbrev pub no_coefficients : List ℤ
no_coefficients = pos 0 ∷ pos 0 ∷ pos 0 ∷ pos 0 ∷ pos 0 ∷ pos 0 ∷ pos 0 ∷ pos 0 ∷ []

abbrev pub constant_numbers : ℤ → Numbers
constant_numbers k = record { constant = k; whole = no_coefficients; half = no_coefficients; third = no_coefficients; quarter = no_coefficients }

-- a form over the sizes alone
abbrev pub over_sizes : Numbers → CoordinateValue
over_sizes n = record { x = pos 0; y = pos 0; rest = n; quotient = false }

abbrev pub nothing : CoordinateValue
nothing = over_sizes (constant_numbers (pos 0))
