-- What contracts see of a name.
use Rattle.std.specs.Prelude.{ℕ, List}

pub record NameValue : Type 0 where
  pub bytes : List ℕ
  pub at : ℕ
