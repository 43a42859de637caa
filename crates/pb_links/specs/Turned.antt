-- Lists of numbers turned round: for each number the places of the lists in which it stands.
use Rattle.std.specs.Prelude.{◌≡◌, ℕ, ◌==◌, Bool, List, [], ◌∷◌, ◌++◌, length, slice_index_or, if◌then◌else◌}
use Rattle.std.specs.List.{filter, list_any, range_with_len}
use Rattle.std.specs.List.Sorted.{IsStrictlyIncreasing}

-- each number is below the next
abbrev pub IsRising : List ℕ → Type 0
IsRising xs = IsStrictlyIncreasing xs

-- the list at a number
abbrev pub at : List (List ℕ) → ℕ → List ℕ
at lists k = slice_index_or lists k []

-- whether a number stands in a list
abbrev pub has : List ℕ → ℕ → Bool
has xs n = list_any (λ x. x == n) xs

-- a number was put after the lists of these
pub record IsNoted (old new : List (List ℕ)) (numbers : List ℕ) (task : ℕ) : Type 0 where
  pub room : length new ≡ length old
  pub at_each : (k : ℕ) → at new k ≡ (if has numbers k then at old k ++ task ∷ [] else at old k)

-- the first lists are turned round
pub record AreTurnedTo (lists : List (List ℕ)) (count : ℕ) (after : List (List ℕ)) : Type 0 where
  pub room : length after ≡ length lists
  pub at_each : (k : ℕ) → at after k ≡ filter (λ task. has (at lists task) k) (range_with_len 0 count)

-- all lists are
abbrev pub AreTurned : List (List ℕ) → List (List ℕ) → Type 0
AreTurned lists after = AreTurnedTo lists (length lists) after
