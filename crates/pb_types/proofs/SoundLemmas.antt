-- In a program whose types are right no output of a plan has rule variables, and its list of calls is there.
use Rattle.std.proofs.Common.{◌≡◌, ℕ, length, List, [], ◌∷◌, ◌++◌, ◌⊎◌, inl, inr, refl, ap, ◌∙◌, sym, not, Option, Some, None, IsSome, subst}
use Rattle.std.specs.List.{flat_map, AllByRecursion}
use Rattle.pb_program.specs.declared.rule.RuleKind.TheVariants as kind
use Rattle.pb_program.specs.declared.view.Read.{Read}
use Rattle.pb_program.specs.Forms.{DeclValue}
use Rattle.pb_program.specs.Trees.{ProgRule, ProgTransform}
use Rattle.pb_program.specs.WellFormed.{Around, PlanFits, around, Binds, IsFree, IsOutput, IsRule, IsTransform, IsWellFormed}
use Rattle.pb_program.specs.Plans.{PlanValue, calls_of}
use Rattle.pb_program.specs.Stmts.{StmtValue}
use Rattle.pb_types.specs.Least.{unless}
use Rattle.pb_types.proofs.LeastLemmas.{none_left, none_right}
use Rattle.pb_types.proofs.ThereLemmas.{IsThere, calls_there}
use Rattle.pb_types.specs.Views.{is_cell, view_broken}
use Rattle.pb_types.specs.Plans.{plan_view_broken, plan_broken, plan_stmts_broken, at_first}
use Rattle.pb_types.specs.Types.{body_broken, rule_broken, transform_broken, broken, PlanIsSound, PlansAreSound}

output_free : (r : Read) (outputs : ℕ) → plan_view_broken r ≡ [] → IsFree r ⊎ (Binds r × (outputs ≡ 1)) → IsFree r
unfolding plan_view_broken
output_free r outputs none (inl free) = free
output_free r outputs none (inr binds) = let e : r.at ∷ [] ≡ [] = sym (ap (λ v. unless (not (is_cell v)) r.at) binds.0.cell) ∙ none in cc

outputs_free : (inputs outputs : ℕ) (rs : List Read) → AllByRecursion (IsOutput inputs outputs) rs → flat_map plan_view_broken rs ≡ [] → AllByRecursion IsFree rs
outputs_free inputs outputs [] h none = tt {0}
outputs_free inputs outputs (r ∷ rs) h none = (
  output_free r outputs (none_left (plan_view_broken r) (flat_map plan_view_broken rs) none) h.0.variables,
  outputs_free inputs outputs rs h.1 (none_right (plan_view_broken r) (flat_map plan_view_broken rs) none),
)

plan_there : (a : Around) (body : List StmtValue) (p : Option PlanValue) → PlanFits a kind.Plan body p → IsThere (calls_of body) → IsSome p
plan_there a body (Some p) h c = refl
plan_there a body None h c = let e : Some c.0 ≡ None = sym c.1 ∙ h in cc

module _ (ts : List ProgTransform) (sizes inputs count : ℕ) (matrices : List DeclValue) where
  plan_sound : (r : ProgRule) → IsRule sizes inputs count (length ts) r → r.kind ≡ kind.Plan → plan_broken ts r ≡ [] → PlanIsSound r
  plan_sound r h is none =
      let outs = flat_map plan_view_broken r.outs in
      let reads = flat_map plan_view_broken r.reads in
      let stmts = plan_stmts_broken ts (at_first r) r.body in
      let a = around sizes (length ts) r in
      record {
        free = outputs_free inputs (length r.outs) r.outs h.outputs (none_left outs (reads ++ stmts) none);
        there = plan_there a r.body r.plan (subst (λ k. PlanFits a k r.body r.plan) is h.plan) (calls_there ts (at_first r) r.body (none_right reads stmts (none_right outs (reads ++ stmts) none)));
      }

  rule_sound : (r : ProgRule) → IsRule sizes inputs count (length ts) r → rule_broken ts matrices r ≡ [] → r.kind ≡ kind.Plan → PlanIsSound r
  rule_sound r h none is =
      let views = flat_map (view_broken matrices) r.outs ++ flat_map (view_broken matrices) r.reads in
      let body : body_broken ts r.kind r ≡ [] = none_right views (body_broken ts r.kind r) none in
      plan_sound r h is (sym (ap (λ k. body_broken ts k r) is) ∙ body)

  rules_sound : (rs : List ProgRule) → AllByRecursion (IsRule sizes inputs count (length ts)) rs → flat_map (rule_broken ts matrices) rs ≡ [] → AllByRecursion (λ r. r.kind ≡ kind.Plan → PlanIsSound r) rs
  rules_sound [] h none = tt {0}
  rules_sound (r ∷ rs) h none = (
    rule_sound r h.0 (none_left (rule_broken ts matrices r) (flat_map (rule_broken ts matrices) rs) none),
    rules_sound rs h.1 (none_right (rule_broken ts matrices r) (flat_map (rule_broken ts matrices) rs) none),
  )

transforms_sound : (ts xs : List ProgTransform) → AllByRecursion (IsTransform (length ts)) xs → flat_map (transform_broken ts) xs ≡ [] → PlansAreSound xs
transforms_sound ts [] h none = tt {0}
transforms_sound ts (t ∷ xs) h none = (
  rules_sound ts (length t.sizes) t.inputs (length t.matrices) t.matrices t.rules h.0.rules (none_left (transform_broken ts t) (flat_map (transform_broken ts) xs) none),
  transforms_sound ts xs h.1 (none_right (transform_broken ts t) (flat_map (transform_broken ts) xs) none),
)

pub plans_sound : (ts : List ProgTransform) → IsWellFormed ts → broken ts ≡ [] → PlansAreSound ts
plans_sound ts h none = transforms_sound ts ts h.transforms none
