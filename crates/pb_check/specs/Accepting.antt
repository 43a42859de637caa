-- The text of a program that every phase accepts, and why a text has none.
use Rattle.std.specs.Prelude.{◌≡◌, ◌≢◌, ◌⊎◌, ℕ, List, Some, slice_get}
use Rattle.pb_front.specs.Reading.{IsRead, IsRefused as IsUnread}
use Rattle.pb_resolve.specs.Handed.{IsResolved, IsRefused as HasBadNames}
use Rattle.pb_program.specs.Transforms.{ProgValue}
use Rattle.pb_program.specs.Trees.{ProgTransform, bare_prog}
use Rattle.pb_program.specs.WellFormed.{IsWellFormed}
use Rattle.pb_syntax.specs.Trees.{TransformTree}
use Rattle.pb_syntax.specs.declared.refusal.Refusal.{Refusal}
use Rattle.pb_check.specs.Orders.{AnalysisValue, AreFound}
use Rattle.pb_check.specs.Phases.{IsSound, IsRefused}

-- what contracts see of an accepted program
pub record AcceptedValue : Type 0 where
  pub program : ProgValue
  pub found : List AnalysisValue

-- it is well formed and sound, and what is found of each transform is so
pub record IsAccepted (a : AcceptedValue) : Type 0 where
  pub well_formed : IsWellFormed (bare_prog a.program)
  pub sound : IsSound (bare_prog a.program)
  pub found : AreFound (bare_prog a.program) a.found

-- the text is read as a tree, the tree's names are those of this program, and no further phase finds a fault
pub record IsTextAccepted (text : List ℕ) (p : List ProgTransform) : Type 0 where
  pub tree : List TransformTree
  pub read : IsRead text tree
  pub resolved : IsResolved tree p
  pub sound : IsSound p

-- the first phase that finds a fault: of the text, of its names, or one of the others
abbrev pub IsTextRefused : List ℕ → Refusal → Type 0
IsTextRefused text e =
    IsUnread text e
    ⊎ ((tree : List TransformTree) × IsRead text tree × (HasBadNames tree e ⊎ ((p : List ProgTransform) × IsResolved tree p × IsRefused p e)))

-- the transform of this number has this name
pub record HasName (p : List ProgTransform) (name : List ℕ) (t : ℕ) : Type 0 where
  pub transform : ProgTransform
  pub there : slice_get p t ≡ Some transform
  pub named : transform.name.bytes ≡ name

-- no transform has this name
abbrev pub IsNowhere : List ProgTransform → List ℕ → Type 0
IsNowhere p name = (t : ℕ) (transform : ProgTransform) → slice_get p t ≡ Some transform → transform.name.bytes ≢ name
