-- Numbers so small that no sum of them that is made here passes the limit of forms.
use Rattle.std.specs.Prelude.{◌+◌, ◌^◌, ◌≤◌, ℤ, unsigned_abs, nat_le, Bool, IsTrue}
use Rattle.std.specs.List.{list_all}
use Rattle.pb_linear.specs.declared.boxes.ReadBox.{ReadBox}
use Rattle.pb_linear.specs.declared.form.Form.{Form}
use Rattle.pb_linear.specs.declared.vform.SymBox.{SymBox}
use Rattle.pb_linear.specs.declared.vform.VForm.{VForm}

-- a number of an end of a segment or of a read: at most 2^24 + 2 in absolute value
abbrev pub is_end_number : ℤ → Bool
is_end_number z = nat_le (unsigned_abs z) (2 ^ 24 + 2)

-- a form of such numbers
pub record IsSmallEnd (f : Form) : Type 0 where
  pub constant : IsTrue (is_end_number f.constant)
  pub whole : IsTrue (list_all is_end_number f.whole)
  pub half : IsTrue (list_all is_end_number f.half)
  pub third : IsTrue (list_all is_end_number f.third)
  pub quarter : IsTrue (list_all is_end_number f.quarter)

-- an area whose ends are
pub record IsSmallArea (a : SymBox) : Type 0 where
  pub x0 : IsSmallEnd a.x0
  pub x1 : IsSmallEnd a.x1
  pub y0 : IsSmallEnd a.y0
  pub y1 : IsSmallEnd a.y1

-- of x and y at most one, with the coefficient 1 or -1
pub record IsSmallForm (v : VForm) : Type 0 where
  pub coefficients : unsigned_abs v.x + unsigned_abs v.y ≤ 1
  pub rest : IsSmallEnd v.rest

-- a read whose ends are so
pub record IsSmallRead (r : ReadBox) : Type 0 where
  pub x0 : IsSmallForm r.x0
  pub x1 : IsSmallForm r.x1
  pub y0 : IsSmallForm r.y0
  pub y1 : IsSmallForm r.y1
