use Rattle.std.specs.Prelude.{◌≡◌, ℕ, ◌+◌, ◌<◌, ◌≤◌, List, [], ◌∷◌, ◌++◌, length, Option, Some, None, IfSome, IsSomeAnd, Result, Ok, Err, ◌⊎◌}
use Rattle.std.specs.declared.alloc.AllocError.{AllocError}
use Rattle.std.specs.Option.{option_map}
use Rattle.std.specs.Str.{bytes_eq}
use Rattle.std.specs.Map.{lookup}
use Rattle.pb_outside.specs.Count.{RoseBy}
use Rattle.pb_outside.specs.declared.shelf.Take.{Take}
use Rattle.pb_outside.specs.declared.shelf.Take.TheVariants.{Got, Long, Missing, Failed}

-- a finite map from names to bytes, as the list of its entries: of equal names the first counts
abbrev pub Files : Type 0
Files = List (List ℕ × List ℕ)

-- the bytes of the file with this name
abbrev pub content_of : Files → List ℕ → Option (List ℕ)
content_of files name = lookup (bytes_eq name) files

-- what was taken under a name is what the files tell of it
abbrev pub IsContent : Option Files → List ℕ → ℕ → Result Take AllocError → Type 0
IsContent told name limit (Ok (Got bytes)) =
    (length bytes.items ≤ limit) × IfSome told (λ files. content_of files name ≡ Some bytes.items)
IsContent told name limit (Ok Long) = IfSome told (λ files. IsSomeAnd (content_of files name) (λ bytes. limit < length bytes))
IsContent told name limit (Ok Missing) = IsSomeAnd told (λ files. content_of files name ≡ None)
IsContent told name limit (Ok Failed) = Unit {0}
IsContent told name limit (Err e) = Unit {0}

-- the count of faults rises in a call that fails, and in no other
abbrev pub CountsTakeFault : Result Take AllocError → ℕ → ℕ → Type 0
CountsTakeFault (Ok (Got bytes)) before now = now ≡ before
CountsTakeFault (Ok Long) before now = now ≡ before
CountsTakeFault (Ok Missing) before now = now ≡ before
CountsTakeFault (Ok Failed) before now = RoseBy 1 before now
CountsTakeFault (Err e) before now = now ≡ before

-- the count of bytes read never falls, and rises past the limit where the file is too long
abbrev pub CountsBytes : ℕ → Result Take AllocError → ℕ → ℕ → Type 0
CountsBytes limit (Ok (Got bytes)) before now = before ≤ now
CountsBytes limit (Ok Long) before now = RoseBy (limit + 1) before now
CountsBytes limit (Ok Missing) before now = before ≤ now
CountsBytes limit (Ok Failed) before now = before ≤ now
CountsBytes limit (Err e) before now = before ≤ now

-- what is told of the names that were asked has these more at its end
abbrev pub asked_after : List (List ℕ) → Option (List (List ℕ)) → Option (List (List ℕ))
asked_after names told = option_map (λ before. before ++ names) told

-- a name comes after those that were asked before; where memory runs out it may be missing
abbrev pub AsksName : List ℕ → Result Take AllocError → Option (List (List ℕ)) → Option (List (List ℕ)) → Type 0
AsksName name (Ok take) before now = now ≡ asked_after (name ∷ []) before
AsksName name (Err e) before now = (now ≡ before) ⊎ (now ≡ asked_after (name ∷ []) before)
