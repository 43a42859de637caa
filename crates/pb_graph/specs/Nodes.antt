-- What contracts see of segments.
use Rattle.std.specs.Prelude.{ℕ, List}
use Rattle.pb_linear.specs.declared.vform.SymBox.{SymBox}

pub record NodeValue : Type 0 where
  pub matrix : ℕ
  pub area : SymBox
  pub rules : List ℕ
