-- What is remembered of calls: each different one with what it costs.
use Rattle.std.specs.Prelude.{◌≡◌, ℕ, List, Option, take}
use Rattle.std.specs.List.{Contains}
use Rattle.pb_linear.specs.declared.sizes.Sizes.{Sizes}
use Rattle.pb_program.specs.Configs.{ConfigValue}
use Rattle.pb_program.specs.Trees.{ProgTransform}
use Rattle.pb_cost.specs.Calls.{cost_at}

-- the depth, the transform, and the sizes, padded, with their number
pub record KnownCall : Type 0 where
  pub depth : ℕ
  pub transform : ℕ
  pub count : ℕ
  pub of : List ℕ
  pub cost : Option ℕ

abbrev pub known_call : ℕ → ℕ → Sizes → Option ℕ → KnownCall
known_call depth t s cost = record { depth = depth; transform = t; count = s.count; of = s.of; cost = cost }

abbrev pub IsKnown : List ProgTransform → ConfigValue → KnownCall → Type 0
IsKnown p config k = k.cost ≡ cost_at p config k.depth k.transform (take k.count k.of)

abbrev pub AreKnown : List ProgTransform → ConfigValue → List KnownCall → Type 0
AreKnown p config known = (k : KnownCall) → Contains known k → IsKnown p config k
