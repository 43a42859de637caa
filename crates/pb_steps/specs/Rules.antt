-- The plans of jobs.
use Rattle.std.specs.Prelude.{◌≡◌, ◌<◌, ℕ, List, [], ◌∷◌, Option, Some, length, map, slice_get}
use Rattle.pb_linear.specs.Sizes.{sizes_of}
use Rattle.pb_linear.specs.declared.sizes.Sizes.{Sizes}
use Rattle.pb_frame.specs.Frames.{JobValue}
use Rattle.pb_links.specs.declared.places.Spot.{Spot}
use Rattle.pb_plan.specs.Boxes.{whole_box}
use Rattle.pb_program.specs.Rules.{RuleValue}
use Rattle.pb_program.specs.Transforms.{TransformValue}
use Rattle.pb_program.specs.Trees.{ProgTransform, bare_transform}
use Rattle.pb_program.specs.declared.rule.RuleKind.TheVariants as kind
use Rattle.pb_counts.specs.Handed.{Instance, by_job}
use Rattle.pb_counts.specs.Handed.{Met, Unroll, job_done}
use Rattle.pb_steps.specs.Values.{InstanceValue}

-- the instance with this number has a job with this number
pub record HasJob (instances : List InstanceValue) (k j : ℕ) : Type 0 where
  pub value : InstanceValue
  pub there : slice_get instances k ≡ Some value
  pub below : j < length value.jobs

-- the rule with this number is a plan
pub record IsPlanRule (t : TransformValue) (k : ℕ) : Type 0 where
  pub rule : RuleValue
  pub there : slice_get t.rules k ≡ Some rule
  pub is : rule.kind ≡ kind.Plan

-- the job with this number is all that the plan with this number makes in its layer
pub record IsPlanAt (p : List ProgTransform) (instances : List InstanceValue) (k j rule : ℕ) : Type 0 where
  pub value : InstanceValue
  pub there : slice_get instances k ≡ Some value
  pub job : JobValue
  pub at : slice_get value.jobs j ≡ Some job
  pub of : job.rule ≡ Some rule
  pub transform : TransformValue
  pub is_transform : slice_get p value.transform ≡ Some (bare_transform transform)
  pub is : IsPlanRule transform rule

-- by this rule a job is a step as it is
abbrev pub IsStepAlone : TransformValue → Option ℕ → Type 0
IsStepAlone t rule = (p : List ProgTransform) (deeper : Option Unroll) (i : Instance) (job : JobValue) (n : Met) → i.transform ≡ bare_transform t → job_done p deeper i rule job n ≡ record { steps = by_job i job ∷ []; next = n }

-- an instance of this transform at these sizes, and where the outputs of a rule of it lie
pub record IsOf (number : ℕ) (t : TransformValue) (s : Sizes) (r : RuleValue) (outs : List Spot) (i : Instance) : Type 0 where
  pub of_number : i.number ≡ number
  pub transform : i.transform ≡ bare_transform t
  pub sizes : i.sizes ≡ sizes_of s
  pub where_outs : outs ≡ map (whole_box t.matrices (sizes_of s)) r.outs
