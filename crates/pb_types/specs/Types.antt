-- The places at which the types of a program are wrong.
use Rattle.std.specs.Prelude.{◌≡◌, IsSome, ℕ, List, [], ◌++◌}
use Rattle.std.specs.List.{flat_map, AllByRecursion}
use Rattle.pb_program.specs.declared.rule.RuleKind.{RuleKind}
use Rattle.pb_program.specs.declared.rule.RuleKind.TheVariants as kind
use Rattle.pb_program.specs.Forms.{DeclValue}
use Rattle.pb_program.specs.Stmts.{stmts}
use Rattle.pb_program.specs.Trees.{ProgRule, ProgTransform}
use Rattle.pb_syntax.specs.declared.refusal.Refusal.{Refusal}
use Rattle.pb_syntax.specs.declared.refusal.Refusal.TheVariants.{BadType}
use Rattle.pb_program.specs.WellFormed.{IsFree}
use Rattle.pb_types.specs.Least.{IsLeast}
use Rattle.pb_types.specs.Views.{Bound, view_broken}
use Rattle.pb_types.specs.Bodies.{stmts_broken}
use Rattle.pb_types.specs.Plans.{plan_broken}

-- the views that a rule binds
abbrev pub bound_of : ProgRule → Bound
bound_of r = record { outs = r.outs; reads = r.reads }

module _ (ts : List ProgTransform) where
  -- a plan's body is judged by the rules of plans alone, any other body by those of statements and expressions
  abbrev pub body_broken : RuleKind → ProgRule → List ℕ
  body_broken kind.Plan r = plan_broken ts r
  body_broken _ r = stmts_broken (bound_of r) [] (stmts r.body)

  -- the views of each rule fit their matrices
  abbrev pub rule_broken : List DeclValue → ProgRule → List ℕ
  rule_broken matrices r = (flat_map (view_broken matrices) r.outs ++ flat_map (view_broken matrices) r.reads) ++ body_broken r.kind r

  -- of a transform
  abbrev pub transform_broken : ProgTransform → List ℕ
  transform_broken t = flat_map (rule_broken t.matrices) t.rules

-- of a whole program
abbrev pub broken : List ProgTransform → List ℕ
broken ts = flat_map (transform_broken ts) ts

-- a program is refused for the least of them
abbrev pub IsRefused : List ProgTransform → Refusal → Type 0
IsRefused ts (BadType at) = IsLeast at (broken ts)
IsRefused ts _ = ⊥

-- a plan whose outputs have no rule variables, and whose list of calls is there
pub record PlanIsSound (r : ProgRule) : Type 0 where
  pub free : AllByRecursion IsFree r.outs
  pub there : IsSome r.plan

-- all plans of a program are
abbrev pub PlansAreSound : List ProgTransform → Type 0
PlansAreSound ts = AllByRecursion (λ t. AllByRecursion (λ r. r.kind ≡ kind.Plan → PlanIsSound r) t.rules) ts
