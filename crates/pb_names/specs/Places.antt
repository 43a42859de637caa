-- The places of faults.
use Rattle.std.specs.Prelude.{ℕ, ◌≤◌, List, [], ◌∷◌}
use Rattle.std.specs.List.{AllByRecursion}
use Rattle.pb_syntax.specs.declared.refusal.Refusal.{Refusal}
use Rattle.pb_syntax.specs.declared.refusal.Refusal.TheVariants as refusal
use Rattle.pb_names.specs.declared.fault.Fault.{Fault}
use Rattle.pb_names.specs.declared.fault.Fault.TheVariants as fault

-- where the name of a fault stands; a lack of memory has no place
abbrev pub place_of : Fault → ℕ
place_of (fault.Duplicate n) = n.at
place_of (fault.Unknown n) = n.at
place_of (fault.NotBound n) = n.at
place_of (fault.BadOutput at) = at
place_of fault.Memory = 0

-- no number is less than one before it
abbrev pub NeverFalls : List ℕ → Type 0
NeverFalls [] = Unit {0}
NeverFalls (p ∷ rest) = AllByRecursion (λ q. p ≤ q) rest × NeverFalls rest

-- the place that a refusal of a name tells
abbrev pub told_at : Refusal → ℕ
told_at (refusal.DuplicateName n at) = at
told_at (refusal.UnknownName n at) = at
told_at (refusal.SizeNotBound n at) = at
told_at (refusal.BadOutput at) = at
told_at _ = 0
