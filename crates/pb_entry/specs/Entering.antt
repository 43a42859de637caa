-- The transform of a name, which takes so many matrices.
use Rattle.std.specs.Prelude.{◌≡◌, ◌≢◌, ℕ, List}
use Rattle.pb_program.specs.Trees.{ProgTransform}
use Rattle.pb_check.specs.Accepting.{HasName, IsNowhere}
use Rattle.pb_entry.specs.declared.refusal.RunRefusal.{RunRefusal}
use Rattle.pb_entry.specs.declared.refusal.RunRefusal.TheVariants.{UnknownTransform, WrongCount}

-- the transform with this number has this name and takes so many matrices
pub record Enters (p : List ProgTransform) (name : List ℕ) (given t : ℕ) : Type 0 where
  pub named : HasName p name t
  pub count : named.transform.inputs ≡ given

-- a transform has this name, and takes another number
pub record TakesOther (p : List ProgTransform) (name : List ℕ) (wanted given : ℕ) : Type 0 where
  pub number : ℕ
  pub named : HasName p name number
  pub count : named.transform.inputs ≡ wanted
  pub other : wanted ≢ given

-- no transform has the name; or one has, and takes another number of matrices
abbrev pub CannotEnter : List ProgTransform → List ℕ → ℕ → RunRefusal → Type 0
CannotEnter p name given UnknownTransform = IsNowhere p name
CannotEnter p name given (WrongCount wanted found) = (found ≡ given) × TakesOther p name wanted given
CannotEnter p name given _ = ⊥
