-- Generations of candidates, and the configuration that they lead to.
use Rattle.std.specs.Prelude.{◌≡◌, ◌≢◌, ℕ, ◌+◌, ◌*◌, ◌<◌, ◌≤◌, nat_eq, List, [], ◌∷◌, ◌++◌, length, map, take, Option, Some, None}
use Rattle.std.specs.List.{AllByRecursion, filter_map, flat_map}
use Rattle.std.specs.List.Sorted.{IsStrictlyIncreasing}
use Rattle.std.specs.Map.{keys_of, lookup, values_of}
use Rattle.std.specs.Option.{option_map}
use Rattle.pb_program.specs.Configs.{ConfigValue, SiteValue}
use Rattle.pb_config.specs.Extension.{extended}
use Rattle.pb_tuner.specs.Judged.{Costs, IsTold, Rose}
use Rattle.pb_tuner.specs.declared.fault.TuneFault.{TuneFault}
use Rattle.pb_tuner.specs.declared.fault.TuneFault.TheVariants.{JudgeFault, Memory}
use Rattle.pb_tuner.specs.declared.journal.Asked.{Asked}
use Rattle.pb_tuner.specs.declared.judge.Cost.{Cost}
use Rattle.pb_tuner.specs.declared.judge.Cost.TheVariants.{Fit, Unfit, Failed}

-- ---- candidates
-- what each rule of a site's set makes of a configuration, where that says something new
abbrev pub extensions : ℕ → ConfigValue → SiteValue → List ConfigValue
extensions size c site = filter_map (extended c site size) site.set

-- the population, and then each member's extensions by each site
abbrev pub candidates : List SiteValue → ℕ → List ConfigValue → List ConfigValue
candidates sites size population = population ++ flat_map (λ c. flat_map (extensions size c) sites) population

-- ---- what was asked
-- an answered question at a size
pub record IsAnswer (size : ℕ) (a : Asked) : Type 0 where
  pub at : a.size ≡ size
  pub answered : a.cost ≢ Failed

-- each of these configurations was asked at a size, in order
pub record AreAsked (size : ℕ) (configs : List ConfigValue) (asked : List Asked) : Type 0 where
  pub those : map (λ a. a.config) asked ≡ configs
  pub answers : AllByRecursion (IsAnswer size) asked

-- each answer is the told cost
abbrev pub AreTold : Option Costs → List Asked → Type 0
AreTold costs = AllByRecursion (λ a. IsTold costs a.config a.size a.cost)

-- ---- the next population
abbrev pub price : Cost → Option ℕ
price (Fit cost) = Some cost
price Unfit = None
price Failed = None

-- the fit ones with their costs
abbrev pub fits : List Asked → List (ℕ × ConfigValue)
fits = filter_map (λ a. option_map (λ cost. (cost, a.config)) (price a.cost))

-- by rising cost, and for each cost that there is the earliest that has it
pub record IsRanking (fits ranking : List (ℕ × ConfigValue)) : Type 0 where
  pub rising : IsStrictlyIncreasing (keys_of ranking)
  pub earliest : (cost : ℕ) → lookup (nat_eq cost) ranking ≡ lookup (nat_eq cost) fits

-- the first four, or the population where there is none
abbrev pub selected : List ConfigValue → List ConfigValue → List ConfigValue
selected population [] = population
selected population (c ∷ more) = take 4 (c ∷ more)

pub record IsNext (population : List ConfigValue) (asked : List Asked) (next : List ConfigValue) : Type 0 where
  pub ranking : List (ℕ × ConfigValue)
  pub ranked : IsRanking (fits asked) ranking
  pub kept : next ≡ selected population (values_of ranking)

-- ---- generations
-- after some generations: the size and the population of the next, and what was asked. They begin with the empty configuration
-- alone at size 1, and each is at twice the size of the one before it
pub data After (sites : List SiteValue) (up_to : ℕ) : ℕ → List ConfigValue → List Asked → Type 0 where
  start : After sites up_to 1 (record { entries = [] } ∷ []) []
  generation : {size : ℕ} {population next : List ConfigValue} {before asked : List Asked} → After sites up_to size population before → size ≤ up_to
      → AreAsked size (candidates sites size population) asked → IsNext population asked next → After sites up_to (size * 2) next (before ++ asked)

-- the first member after the generations at all sizes up to a bound, with all that was asked
pub record IsTuned (sites : List SiteValue) (up_to : ℕ) (asked : List Asked) (c : ConfigValue) : Type 0 where
  pub size : ℕ
  pub others : List ConfigValue
  pub generations : After sites up_to size (c ∷ others) asked
  pub all : up_to < size

-- ---- faults
-- some of these configurations were asked at a size, in order, and another is next
pub record ArePartlyAsked (size : ℕ) (configs : List ConfigValue) (asked : List Asked) : Type 0 where
  pub first : AreAsked size (take (length asked) configs) asked
  pub left : length asked < length configs

-- the judge failed at one of these configurations at a size; so many answers were given before them
abbrev pub IsStop : ℕ → List ConfigValue → Option Costs → ℕ → ℕ → ℕ → TuneFault → Type 0
IsStop size configs costs count before now (JudgeFault at total) =
    Rose before now × (at ≡ size) × ((asked : List Asked) × ArePartlyAsked size configs asked × AreTold costs asked × (total ≡ count + length asked))
IsStop size configs costs count before now Memory = Unit {0}

-- after so many answers a candidate at a size is asked
pub record IsAsking (sites : List SiteValue) (up_to : ℕ) (costs : Option Costs) (size total : ℕ) : Type 0 where
  pub population : List ConfigValue
  pub before : List Asked
  pub asked : List Asked
  pub generations : After sites up_to size population before
  pub within : size ≤ up_to
  pub part : ArePartlyAsked size (candidates sites size population) asked
  pub told_before : AreTold costs before
  pub told : AreTold costs asked
  pub count : total ≡ length before + length asked

-- the judge failed, at this size and after so many answers
abbrev pub IsFault : List SiteValue → ℕ → Option Costs → ℕ → ℕ → TuneFault → Type 0
IsFault sites up_to costs before now (JudgeFault size asked) = Rose before now × IsAsking sites up_to costs size asked
IsFault sites up_to costs before now Memory = Unit {0}
