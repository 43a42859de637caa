-- Names, each with what it names.
use Rattle.std.specs.Prelude.{ℕ, List, Option}
use Rattle.std.specs.Str.{bytes_eq}
use Rattle.std.specs.Map.{lookup}

-- what a name names: the first of this name counts
abbrev pub look : {V : Type 0} → List ℕ → List (List ℕ × V) → Option V
look name names = lookup (bytes_eq name) names
