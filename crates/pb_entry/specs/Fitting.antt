-- The sizes of the matrices that are given to a transform, and why they don't fit it.
use Rattle.std.specs.Prelude.{◌≡◌, ◌≢◌, ◌⊎◌, ℕ, ◌≤◌, ◌<◌, pos, ◌≤ℤ◌, List, length, slice_index}
use Rattle.std.specs.List.{All, zip}
use Rattle.pb_linear.specs.Numbers.{Numbers, exact_value}
use Rattle.pb_linear.specs.Sizes.{InRange, leasts_of}
use Rattle.pb_linear.specs.declared.sizes.Ranges.{Ranges}
use Rattle.pb_linear.specs.declared.sizes.TheConstants.{SIZE_TOP}
use Rattle.pb_matrix.specs.Value.{MatrixValue}
use Rattle.pb_program.specs.Forms.{DeclValue}
use Rattle.pb_program.specs.Trees.{ProgTransform}
use Rattle.pb_program.specs.WellFormed.{IsTransform, size_numbers}
use Rattle.pb_region.specs.Dims.{AreSides}
use Rattle.pb_check.specs.Firsts.{IsFirst}
use Rattle.pb_entry.specs.declared.refusal.RunRefusal.{RunRefusal}
use Rattle.pb_entry.specs.declared.refusal.RunRefusal.TheVariants.{BadShape, SizeOutOfRange}

-- a matrix, and what is given for it
abbrev pub Given : Type 0
Given = DeclValue × MatrixValue

-- ---- dimensions
-- what is given has as many dimensions
abbrev pub HasDims : Given → Type 0
HasDims g = g.1.shape.dims ≡ g.0.dims

-- it hasn't
abbrev pub HasOtherDims : ℕ → Given → RunRefusal → Type 0
HasOtherDims number g (BadShape matrix axis wanted found) = (matrix ≡ number) × (axis ≡ 2) × (wanted ≡ g.0.dims) × (found ≡ g.1.shape.dims) × (wanted ≢ found)
HasOtherDims number g _ = ⊥

-- ---- sizes
-- a size variable is no side alone
abbrev pub Lacks : ℕ → Given → Type 0
Lacks k g = (size_numbers k g.0.w → ⊥) × (size_numbers k g.0.h → ⊥)

-- it is the width alone, or else the height alone, and this is the side that is given
abbrev pub Gives : ℕ → ℕ → Given → Type 0
Gives k v g = (size_numbers k g.0.w × (v ≡ g.1.shape.w)) ⊎ ((size_numbers k g.0.w → ⊥) × size_numbers k g.0.h × (v ≡ g.1.shape.h))

-- ---- sides
-- a side has the value of its form
abbrev pub HasSides : List ℕ → Given → Type 0
HasSides sizes g = (pos g.1.shape.w ≡ exact_value g.0.w sizes) × (pos g.1.shape.h ≡ exact_value g.0.h sizes)

-- it hasn't
pub record Differs (form : Numbers) (sizes : List ℕ) (side wanted found : ℕ) : Type 0 where
  pub wanted_is : pos wanted ≡ exact_value form sizes
  pub found_is : found ≡ side
  pub other : wanted ≢ found

abbrev pub IsOther : ℕ → ℕ → Numbers → List ℕ → ℕ → RunRefusal → Type 0
IsOther number axis form sizes side (BadShape matrix on wanted found) = (matrix ≡ number) × (on ≡ axis) × Differs form sizes side wanted found
IsOther number axis form sizes side _ = ⊥

-- the width hasn't, or else the height
abbrev pub HasOtherSide : List ℕ → ℕ → Given → RunRefusal → Type 0
HasOtherSide sizes number g e =
    IsOther number 0 g.0.w sizes g.1.shape.w e
    ⊎ ((pos g.1.shape.w ≡ exact_value g.0.w sizes) × IsOther number 1 g.0.h sizes g.1.shape.h e)

-- ---- all matrices that are given
-- the first that has other dimensions
abbrev pub FailsDims : List Given → RunRefusal → Type 0
FailsDims gs e = IsFirst HasDims (λ number g. HasOtherDims number g e) gs

-- the value of a size variable: that of the first matrix in which it stands alone
abbrev pub HasValue : List Given → ℕ → ℕ → Type 0
HasValue gs k v = IsFirst (Lacks k) (λ number g. Gives k v g) gs

-- the values of so many size variables
pub record HasValues (gs : List Given) (count : ℕ) (sizes : List ℕ) : Type 0 where
  pub counted : length sizes ≡ count
  pub each : (k : ℕ) → k < count → HasValue gs k (slice_index sizes k)

-- a size is in range
abbrev pub IsIn : Ranges → ℕ → ℕ → Type 0
IsIn ranges k v = (slice_index ranges.least k ≤ v) × (v ≤ SIZE_TOP)

-- the first that isn't
pub record IsFirstOut (ranges : Ranges) (sizes : List ℕ) (k v : ℕ) : Type 0 where
  pub there : k < ranges.count
  pub value : v ≡ slice_index sizes k
  pub out : IsIn ranges k v → ⊥
  pub earlier : (j : ℕ) → j < k → IsIn ranges j (slice_index sizes j)

abbrev pub FirstOut : Ranges → List ℕ → RunRefusal → Type 0
FirstOut ranges sizes (SizeOutOfRange size value) = IsFirstOut ranges sizes size value
FirstOut ranges sizes _ = ⊥

-- the first that has another side
abbrev pub FailsSides : List Given → List ℕ → RunRefusal → Type 0
FailsSides gs sizes e = IsFirst (HasSides sizes) (λ number g. HasOtherSide sizes number g e) gs

-- ---- the inputs of a transform
-- the matrices after `from` stand first; each with what is given for it
abbrev pub given : ProgTransform → List MatrixValue → List Given
given t inputs = zip t.matrices inputs

-- they fit the transform at these sizes
pub record AreBound (t : ProgTransform) (inputs : List MatrixValue) (sizes : List ℕ) : Type 0 where
  pub dims : All HasDims (given t inputs)
  pub values : HasValues (given t inputs) (length t.sizes) sizes
  pub range : InRange (leasts_of t.ranges) sizes
  pub sides : All (HasSides sizes) (given t inputs)

-- the first size that is out of range, or else the first side that differs, at these sizes
pub record FailsLater (t : ProgTransform) (inputs : List MatrixValue) (e : RunRefusal) : Type 0 where
  pub sizes : List ℕ
  pub values : HasValues (given t inputs) (length t.sizes) sizes
  pub why : FirstOut t.ranges sizes e ⊎ (InRange (leasts_of t.ranges) sizes × FailsSides (given t inputs) sizes e)

-- they don't fit it: by their dimensions, or else by a size or a side
abbrev pub AreUnfit : ProgTransform → List MatrixValue → RunRefusal → Type 0
AreUnfit t inputs e = FailsDims (given t inputs) e ⊎ (All HasDims (given t inputs) × FailsLater t inputs e)

-- a transform of an accepted program: it is well formed, and no side is negative
pub record IsEnterable (t : ProgTransform) : Type 0 where
  pub transforms : ℕ
  pub well_formed : IsTransform transforms t
  pub sides : AreSides t

-- no side of a matrix is negative
abbrev pub IsNatural : List ℕ → DeclValue → Type 0
IsNatural sizes d = (pos 0 ≤ℤ exact_value d.w sizes) × (pos 0 ≤ℤ exact_value d.h sizes)
