-- The rule variables that an output binds, as a list.
use Rattle.std.specs.Prelude.{List, [], ◌∷◌}
use Rattle.pb_values.specs.Name.{NameValue}
use Rattle.pb_names.specs.declared.binders.Binders.{Binders}
use Rattle.pb_names.specs.declared.binders.Binders.TheVariants as some

abbrev pub names_in : Binders → List NameValue
names_in some.None = []
names_in (some.One x) = x.now ∷ []
names_in (some.Two x y) = x.now ∷ y.now ∷ []
