-- What can be wrong with a name, and which of the faults is told.
use Rattle.std.specs.Prelude.{◌≡◌, Bool, true, false, List, [], ◌∷◌}
use Rattle.pb_values.specs.Name.{NameValue}
use Rattle.pb_names.specs.declared.fault.Fault.{Fault}
use Rattle.pb_names.specs.declared.fault.Fault.TheVariants.{Duplicate, Unknown, NotBound, BadOutput, Memory}

-- a fault of a name, where it has it
abbrev pub duplicate : Bool → NameValue → List Fault
duplicate true n = Duplicate n ∷ []
duplicate false n = []

abbrev pub unknown : Bool → NameValue → List Fault
unknown true n = Unknown n ∷ []
unknown false n = []

abbrev pub not_bound : Bool → NameValue → List Fault
not_bound true n = NotBound n ∷ []
not_bound false n = []

abbrev pub bad_output : Bool → NameValue → List Fault
bad_output true n = BadOutput n.at ∷ []
bad_output false n = []

-- the first of some faults
abbrev pub IsFirst : Fault → List Fault → Type 0
IsFirst f [] = ⊥
IsFirst f (first ∷ _) = f ≡ first

-- the first of some faults is told, or memory ran out
pub data Fails (f : Fault) (faults : List Fault) : Type 0 where
  by_memory : f ≡ Memory → Fails f faults
  by_first : IsFirst f faults → Fails f faults
