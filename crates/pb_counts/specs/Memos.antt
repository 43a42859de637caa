-- What is remembered of calls: each different one with what it counts.
use Rattle.std.specs.Prelude.{◌≡◌, ℕ, ◌≤◌, List, take}
use Rattle.std.specs.List.{Contains}
use Rattle.pb_linear.specs.declared.sizes.Sizes.{Sizes}
use Rattle.pb_program.specs.Configs.{ConfigValue}
use Rattle.pb_program.specs.Trees.{ProgTransform}
use Rattle.pb_counts.specs.Tallies.{capped, counted}
use Rattle.pb_counts.specs.declared.tally.Tally.{Tally}
use Rattle.pb_counts.specs.Sized.{sized_count}
use Rattle.pb_counts.specs.declared.count.TheConstants.{MOST_CALLS}

-- the depth, the transform, and the sizes, padded, with their number
pub record KnownCall : Type 0 where
  pub depth : ℕ
  pub transform : ℕ
  pub count : ℕ
  pub of : List ℕ
  pub tally : Tally

abbrev pub known_call : ℕ → ℕ → Sizes → Tally → KnownCall
known_call depth t s tally = record { depth = depth; transform = t; count = s.count; of = s.of; tally = tally }

-- the call counts so, and is within the limit of calls
pub record IsKnown (p : List ProgTransform) (config : ConfigValue) (k : KnownCall) : Type 0 where
  pub is : capped (counted k.tally) ≡ capped (sized_count p config k.depth k.transform (take k.count k.of))
  pub few : k.tally.calls ≤ MOST_CALLS

abbrev pub AreKnown : List ProgTransform → ConfigValue → List KnownCall → Type 0
AreKnown p config memo = (k : KnownCall) → Contains memo k → IsKnown p config k
