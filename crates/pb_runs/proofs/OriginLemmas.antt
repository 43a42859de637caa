-- Where a step of a run comes from.
use Rattle.std.specs.Prelude.{◌≡◌, ℕ, ◌≤◌, ◌<◌, List, Some, None, slice_get}
use Rattle.std.specs.List.{Contains}
use Rattle.pb_values.specs.declared.outcome.Outcome.{Outcome}
use Rattle.pb_values.specs.declared.shape.TheConstants.{MOST_SIDE}
use Rattle.pb_program.specs.Configs.{ConfigValue}
use Rattle.pb_program.specs.Trees.{ProgRule, ProgTransform}
use Rattle.pb_program.specs.declared.rule.RuleKind.TheVariants as kind
use Rattle.pb_model.specs.Calls.{Outcomes, rule_of}
use Rattle.pb_model.specs.Cells.{Cell, IsCell}
use Rattle.pb_check.specs.Ranked.{IsMadeCell}
use Rattle.pb_frame.specs.Frames.{JobValue}
use Rattle.pb_taskgraph.specs.Plans.{IsSmall}
use Rattle.pb_plan.specs.Made.{jobs_for}
use Rattle.pb_walk.specs.declared.stop.Stop.{Stop}
use Rattle.pb_solution.specs.Solutions.{stop_cell, stops_of}
use Rattle.pb_runs.specs.Placed.{greatest_side}
use Rattle.pb_runs.specs.Right.{no_plans}
use Rattle.pb_runs.specs.Steps.{Instance, Step, by_copy, by_job, by_trap, number_at}
use Rattle.pb_runs.proofs.BoxLemmas.{IsSituated}
use Rattle.pb_runs.proofs.ViewLemmas.{IsLocal}

-- a step makes its cells one by one, so that it may read some of them
abbrev pub IsOneByOne : Step → Type 0
IsOneByOne (by_job i job) = job.rule ≡ None
IsOneByOne (by_copy i c) = ⊥
IsOneByOne (by_trap f) = ⊥

-- the cells that are given to the instance of a job are known
abbrev pub AreGivenKnown : (ℕ → Type 0) → Step → Type 0
AreGivenKnown known (by_job i job) = (c : Cell) → IsCell i.transform i.sizes c → c.matrix < i.transform.inputs → known (number_at i c)
AreGivenKnown known (by_copy i c) = Unit {0}
AreGivenKnown known (by_trap f) = Unit {0}

pub given_more : (known more : ℕ → Type 0) (s : Step) → ((c : ℕ) → known c → more c) → AreGivenKnown known s → AreGivenKnown more s
given_more known more (by_job i job) to g = λ c cell low. to (number_at i c) (g c cell low)
given_more known more (by_copy i c) to g = tt
given_more known more (by_trap f) to g = tt

module _ (config : ConfigValue) (ms : List Outcomes) where
  -- a job of an instance whose matrices are placed, by rules that compute
  pub record IsJobOf (i : Instance) (job : JobValue) : Type 0 where
    pub program : List ProgTransform
    pub grain : ℕ
    pub at : IsSituated config program i
    pub matrices : List Outcomes
    pub local : IsLocal ms i matrices
    pub place : ℕ
    pub there : slice_get (jobs_for config i.number i.transform i.found i.sizes grain) place ≡ Some job
    pub once : (c d : Cell) → IsMadeCell i.transform i.sizes c → IsMadeCell i.transform i.sizes d → number_at i c ≡ number_at i d → c ≡ d
    pub computes : (s : Stop) → Contains (stops_of i.found.nodes i.found.order.layers job) s → (r : ProgRule) → rule_of config no_plans i.number i.transform i.sizes (stop_cell s) ≡ Some r → r.kind ≡ kind.Plan → ⊥

  -- within the limit on sides an outcome is small
  abbrev pub IsSmallTrap : Outcome → Type 0
  IsSmallTrap o = greatest_side ms ≤ MOST_SIDE → IsSmall o

  abbrev pub ComesFrom : Step → Type 0
  ComesFrom (by_job i job) = IsJobOf i job
  ComesFrom (by_copy i c) = Unit {0}
  ComesFrom (by_trap f) = IsSmallTrap f.outcome
