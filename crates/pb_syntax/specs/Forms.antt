-- What contracts see of forms and declared matrices.
use Rattle.std.specs.Prelude.{Bool, List}
use Rattle.pb_values.specs.Name.{NameValue}
use Rattle.pb_syntax.specs.declared.tree.form.TermText.{TermText}

pub record FormValue : Type 0 where
  pub minus : Bool
  pub terms : List TermText

pub record DeclValue : Type 0 where
  pub name : NameValue
  pub dims : List FormValue
