-- The sides of the matrices of a transform, and the first of them that is negative at some sizes.
use Rattle.std.specs.Prelude.{◌≡◌, ℕ, ◌==◌, if◌then◌else◌, ℤ, pos, negsuc, ◌*ℤ◌, ◌<ℤ◌, ◌≤ℤ◌, List, [], ◌∷◌, length, take, Some, IfSome, IsSomeAnd, slice_get}
use Rattle.std.specs.List.{All}
use Rattle.pb_linear.specs.Held.{AreHeld}
use Rattle.pb_linear.specs.Most.{Most}
use Rattle.pb_linear.specs.Numbers.{Numbers, exact_value}
use Rattle.pb_linear.specs.Sizes.{InRange, leasts_of, sizes_of}
use Rattle.pb_linear.specs.declared.sizes.Sizes.{Sizes}
use Rattle.pb_syntax.specs.declared.refusal.Refusal.{Refusal}
use Rattle.pb_syntax.specs.declared.refusal.Refusal.TheVariants.{NegativeDim}
use Rattle.pb_program.specs.Forms.{DeclValue}
use Rattle.pb_program.specs.Trees.{ProgTransform}

-- what is said of the transform with this number, where there is one
abbrev pub AtTransform : List ProgTransform → ℕ → (ProgTransform → Type 0) → Type 0
AtTransform ts t P = IfSome (slice_get ts t) P

-- there is a transform with this number, of which this is said
abbrev pub HasTransform : List ProgTransform → ℕ → (ProgTransform → Type 0) → Type 0
HasTransform ts t P = IsSomeAnd (slice_get ts t) P

-- the width, and where there are two dimensions the height: each at the place of its axis
abbrev pub sides : DeclValue → List Numbers
sides d = d.w ∷ (if d.dims == 1 then [] else d.h ∷ [])

module _ (leasts : List ℕ) where
  -- at least 0 at all sizes in range
  abbrev pub IsNeverNegative : Numbers → Type 0
  IsNeverNegative n = (sizes : List ℕ) → InRange leasts sizes → pos 0 ≤ℤ exact_value n sizes

  -- all sides of a matrix are
  pub record HasNoNegative (d : DeclValue) : Type 0 where
    pub sides : All IsNeverNegative (sides d)

  -- all matrices have no such side
  pub record HaveNoNegative (matrices : List DeclValue) : Type 0 where
    pub each : All HasNoNegative matrices

  -- the negative of a side is above 0 somewhere, and the sizes are the least at which it is greatest
  pub record IsNegative (n : Numbers) (sizes : Sizes) : Type 0 where
    pub held : AreHeld (length leasts) sizes
    pub most : ℤ
    pub above : pos 0 <ℤ most
    pub greatest : Most (λ s. negsuc 0 *ℤ exact_value n s) leasts most (sizes_of sizes)

  -- the first axis of a matrix whose side is negative at some sizes
  pub record IsFirstAxis (d : DeclValue) (axis : ℕ) (sizes : Sizes) : Type 0 where
    pub side : Numbers
    pub there : slice_get (sides d) axis ≡ Some side
    pub negative : IsNegative side sizes
    pub earlier : All IsNeverNegative (take axis (sides d))

  -- the first matrix that has such an axis
  pub record IsFirstNegative (matrices : List DeclValue) (matrix axis : ℕ) (sizes : Sizes) : Type 0 where
    pub decl : DeclValue
    pub there : slice_get matrices matrix ≡ Some decl
    pub first : IsFirstAxis decl axis sizes
    pub earlier : All HasNoNegative (take matrix matrices)

-- no side of a transform is negative
abbrev pub AreSides : ProgTransform → Type 0
AreSides t = HaveNoNegative (leasts_of t.ranges) t.matrices

-- a transform with this number is refused for its first dimension that is negative at some sizes
abbrev pub IsRefused : ℕ → ProgTransform → Refusal → Type 0
IsRefused number t (NegativeDim transform matrix axis sizes) = (transform ≡ number) × IsFirstNegative (leasts_of t.ranges) t.matrices matrix axis sizes
IsRefused number t _ = ⊥

pub record HasNegative (number : ℕ) (t : ProgTransform) : Type 0 where
  pub why : Refusal
  pub told : IsRefused number t why
