-- The phases that judge a program after its names, in their order: types, then bounds, then segments, then their order.
use Rattle.std.specs.Prelude.{◌≡◌, ◌⊎◌, ℕ, List, []}
use Rattle.std.specs.List.{All}
use Rattle.pb_syntax.specs.declared.refusal.Refusal.{Refusal}
use Rattle.pb_program.specs.Trees.{ProgTransform}
use Rattle.pb_types.specs.Types.{broken, IsRefused as HasBadTypes}
use Rattle.pb_region.specs.Dims.{AreSides, IsRefused as HasBadSide}
use Rattle.pb_region.specs.Rules.{IsAccepted, IsRefused as HasBadBounds}
use Rattle.pb_check.specs.Cuts.{AreCut, FailsCut}
use Rattle.pb_check.specs.Firsts.{IsFirst}
use Rattle.pb_check.specs.Orders.{HasNoOrder, IsOrdered}

-- no side of a transform is negative, and each of its rules has boxes
pub record IsBounded (t : ProgTransform) : Type 0 where
  pub sides : AreSides t
  pub rules : All (IsAccepted t) t.rules

-- the first rule without boxes, of the transform with this number
abbrev pub FailsRule : ℕ → ProgTransform → Refusal → Type 0
FailsRule number t e = IsFirst (IsAccepted t) (λ place rule. HasBadBounds number place t rule e) t.rules

-- a transform is refused for a side, else for a rule
abbrev pub FailsBounds : ℕ → ProgTransform → Refusal → Type 0
FailsBounds number t e = HasBadSide number t e ⊎ (AreSides t × FailsRule number t e)

-- a program is refused for the first transform that is
abbrev pub IsUnbounded : List ProgTransform → Refusal → Type 0
IsUnbounded p e = IsFirst IsBounded (λ place t. FailsBounds place t e) p

-- a program is refused for the first transform with a matrix that can't be cut
abbrev pub IsUncuttable : List ProgTransform → Refusal → Type 0
IsUncuttable p e = IsFirst AreCut (λ place t. FailsCut t place e) p

-- a program is refused for the first transform whose segments can't be ordered
abbrev pub IsUnorderable : List ProgTransform → Refusal → Type 0
IsUnorderable p e = IsFirst IsOrdered (λ place t. HasNoOrder t place e) p

-- no phase finds a fault in the program
pub record IsSound (p : List ProgTransform) : Type 0 where
  pub typed : broken p ≡ []
  pub bounded : All IsBounded p
  pub cut : All AreCut p
  pub ordered : All IsOrdered p

-- the first phase that finds a fault refuses: that of types, of bounds, of segments, or of their order
abbrev pub FailsCuts : List ProgTransform → Refusal → Type 0
FailsCuts p e = IsUncuttable p e ⊎ (All AreCut p × IsUnorderable p e)

abbrev pub FailsLater : List ProgTransform → Refusal → Type 0
FailsLater p e = IsUnbounded p e ⊎ (All IsBounded p × FailsCuts p e)

abbrev pub IsRefused : List ProgTransform → Refusal → Type 0
IsRefused p e = HasBadTypes p e ⊎ ((broken p ≡ []) × FailsLater p e)
