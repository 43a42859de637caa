use Rattle.std.specs.Prelude.{ℕ, Bool, List}
use Rattle.pb_linear.specs.declared.form.Form.{Form}

-- a rule's box as contracts see it, with lists of forms
pub record Bounds : Type 0 where
  pub rule : ℕ
  pub priority : ℕ
  pub guarded : Bool
  pub wide : Bool
  pub lower_x : List Form
  pub upper_x : List Form
  pub lower_y : List Form
  pub upper_y : List Form
