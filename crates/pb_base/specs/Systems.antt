-- Systems of equations: the outcome of a cell is given, or follows from those of the cells that it reads.
use Rattle.std.specs.Prelude.{◌≡◌, ℕ, zero, suc, Bool, IsTrue, IsFalse, List, [], ◌∷◌, map, Option, Some, None, IsSome, unwrap_or, Contains, ◌⊎◌}
use Rattle.std.specs.List.{AllByRecursion}
use Rattle.std.specs.Option.{option_map, option_or}

pub record System (C O : Type 0) : Type 0 where
  pub given : C → Option O
  pub reads : C → List C
  pub equation : C → List O → O

-- all of some, if each is there
abbrev pub all_there : {A : Type 0} → List (Option A) → Option (List A)
all_there [] = Some []
all_there (None ∷ rest) = None
all_there (Some x ∷ rest) = option_map (λ xs. x ∷ xs) (all_there rest)

module _ {C O : Type 0} (s : System C O) where
  -- what the equation of a cell makes of the outcomes that are known, if those of all its reads are
  abbrev pub made : (C → Option O) → C → Option O
  made known c = option_map (s.equation c) (all_there (map known (s.reads c)))

  -- the outcome of a cell, if it is known after so many rounds, in each of which all equations are used once
  abbrev pub solved : ℕ → C → Option O
  solved zero c = s.given c
  solved (suc k) c = option_or (s.given c) (made (solved k) c)

  -- the outcome that is known after so many rounds, or else the default
  abbrev pub outcome : ℕ → O → C → O
  outcome k default c = unwrap_or (solved k c) default

  -- the cell is given, or else this holds of it
  abbrev pub IsGivenOr : (C → Type 0) → C → Type 0
  IsGivenOr P c = IsSome (s.given c) ⊎ P c

  -- what isn't given among some cells reads what is given, or stands before it among these cells
  pub record AreRanked (cells : List C) (before : C → C → Bool) : Type 0 where
    pub irreflexive : (c : C) → IsFalse (before c c)
    pub transitive : (a b c : C) → IsTrue (before a b) → IsTrue (before b c) → IsTrue (before a c)
    pub falls : (c : C) → Contains cells c → s.given c ≡ None → AllByRecursion (IsGivenOr (λ r. Contains cells r × IsTrue (before r c))) (s.reads c)

  -- what isn't given inside reads what is given or inside
  abbrev pub IsClosed : (C → Type 0) → Type 0
  IsClosed Inside = (c : C) → Inside c → s.given c ≡ None → AllByRecursion (IsGivenOr Inside) (s.reads c)

  -- the outcomes of all cells are those that are given, and those inside are as their equations say
  pub record Obeys (Inside : C → Type 0) (a : C → O) : Type 0 where
    pub given : (c : C) (o : O) → s.given c ≡ Some o → a c ≡ o
    pub equation : (c : C) → Inside c → s.given c ≡ None → a c ≡ s.equation c (map a (s.reads c))
