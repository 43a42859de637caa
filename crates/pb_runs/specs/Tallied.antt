-- What the plan of a job counts.
use Rattle.std.specs.Prelude.{ℕ, if◌then◌else◌, List, Option, Some, None, slice_get}
use Rattle.pb_program.specs.Trees.{ProgRule, ProgTransform}
use Rattle.pb_recursion.specs.Counts.{Counted, Counter, is_plan_kind, nothing, plan_count}

module _ (p : List ProgTransform) (t : ProgTransform) (sizes : List ℕ) (counter : Option Counter) where
  abbrev pub rule_tally : ℕ → Option ProgRule → Counted
  rule_tally k None = nothing
  rule_tally k (Some r) = if is_plan_kind r.kind then plan_count p t sizes counter (k, r) else nothing

  abbrev pub job_tally : Option ℕ → Counted
  job_tally None = nothing
  job_tally (Some k) = rule_tally k (slice_get t.rules k)
