-- What is found of an instance, in an accepted program.
use Rattle.std.proofs.Common.{◌≡◌, ◌∙◌, refl, ap, ℕ, ◌≤◌, List, length, map, get_or, slice_get, Option, Some, None, arith}
use Rattle.std.specs.Prelude.{IsSomeAnd}
use Rattle.std.specs.List.{enumerate_from, flat_map}
use Rattle.std.proofs.lemmas.List.{length-map}
use Rattle.pb_linear.specs.Sizes.{InRange, leasts_of, sizes_of}
use Rattle.pb_linear.specs.declared.sizes.Sizes.{Sizes}
use Rattle.pb_syntax.specs.declared.limits.TheConstants.{MOST_RULES}
use Rattle.pb_program.specs.Configs.{ConfigValue, IsValid}
use Rattle.pb_program.specs.Transforms.{TransformValue}
use Rattle.pb_program.specs.Trees.{ProgTransform, bare_prog, bare_rule, bare_transform}
use Rattle.pb_check.specs.Accepting.{AcceptedValue, IsAccepted}
use Rattle.pb_check.specs.Orders.{AnalysisValue}
use Rattle.pb_check.specs.Ranked.{OfTransform}
use Rattle.pb_frame.specs.Choices.{IsInstance}
use Rattle.pb_frame.specs.Frames.{FrameValue, IsFrame, parts_of}
use Rattle.pb_frame.specs.declared.part.FramePart.{FramePart}
use Rattle.pb_frame.proofs.PartLemmas.{rules_few}
use Rattle.pb_counts.proofs.PlaceLemmas.{here, of_this, said, there}
use Rattle.pb_instance_cost.specs.Costs.{instance_cost}
use Rattle.pb_cost.specs.Calls.{Entered, call_cost, cost_at, deeper_at, entered_calls, plus, total}
use Rattle.pb_cost.specs.Planned.{rule_calls}
use Rattle.pb_cost.proofs.ChosenLemmas.{calls_are}
use Rattle.pb_cost.proofs.DepthLemmas.{cost_is}

module _ (v : AcceptedValue) (accepted : IsAccepted v) (t : ℕ) (s : Sizes) (range : OfTransform v t (λ transform found. InRange (leasts_of transform.ranges) (sizes_of s)))
    (xs : List TransformValue) (held : xs ≡ v.program.transforms) (x : TransformValue) (is : x ≡ get_or xs t x) (found : AnalysisValue) (at : slice_get v.found t ≡ Some found) where
  abbrev transform : ProgTransform
  transform = bare_transform x

  abbrev instance : IsInstance t transform found (sizes_of s)
  instance =
      let known = here v accepted t s range xs held x is found at in
      record { program = bare_prog v.program; well_formed = accepted.well_formed; sound = accepted.sound; there = there v accepted t s range xs held x is found at; found = known.found; in_range = known.in_range }

  pub few_rules : length x.rules ≤ MOST_RULES
  few_rules = omega (arith, rules_few t transform found (sizes_of s) instance, length-map x.rules bare_rule)

  -- the calls that are found by the parts of a frame
  pub entered : (config : ConfigValue) → IsValid (bare_prog v.program) config → (grain : ℕ) (frame : FrameValue) → frame.sizes ≡ s → OfTransform v t (λ transform found. IsFrame config t transform found grain frame) → (ps : List FramePart) → ps ≡ frame.parts
      → (calls : List (Option Entered)) → calls ≡ flat_map (rule_calls (bare_prog v.program) transform (sizes_of s) ps) (enumerate_from 0 transform.rules)
      → OfTransform v t (λ transform found. calls ≡ entered_calls (bare_prog v.program) config t transform (sizes_of s))
  entered config valid grain frame sizes_are is_frame ps ps_are calls calls_is =
      let f = said v accepted t s range xs held x is found at (λ transform found. IsFrame config t transform found grain frame) is_frame in
      let parts : ps ≡ parts_of config t transform (sizes_of s) found.nodes = ps_are ∙ f.parts ∙ ap (λ (z : Sizes). parts_of config t transform (sizes_of z) found.nodes) sizes_are in
      of_this v accepted t s range xs held x is found at (λ transform found. calls ≡ entered_calls (bare_prog v.program) config t transform (sizes_of s))
      (calls_is ∙ ap (λ (l : List FramePart). flat_map (rule_calls (bare_prog v.program) transform (sizes_of s) l) (enumerate_from 0 transform.rules)) parts
      ∙ calls_are config t transform found (sizes_of s) instance valid (bare_prog v.program))

-- from what an instance's equations cost, and its calls
pub costed : (v : AcceptedValue) (config : ConfigValue) (d t : ℕ) (sizes : List ℕ) (own : ℕ) (calls : List (Option Entered))
    → OfTransform v t (λ transform found. own ≡ instance_cost config t transform sizes) → OfTransform v t (λ transform found. calls ≡ entered_calls (bare_prog v.program) config t transform sizes)
    → plus (Some own) (total (map (call_cost (deeper_at (bare_prog v.program) config d)) calls)) ≡ cost_at (bare_prog v.program) config d t sizes
costed v config d t sizes own calls h k = by (slice_get (bare_prog v.program) t) (slice_get v.found t) refl h k
  where
    by : (o : Option ProgTransform) (q : Option AnalysisValue) → slice_get (bare_prog v.program) t ≡ o → IsSomeAnd o (λ transform. IsSomeAnd q (λ (found : AnalysisValue). own ≡ instance_cost config t transform sizes))
        → IsSomeAnd o (λ transform. IsSomeAnd q (λ (found : AnalysisValue). calls ≡ entered_calls (bare_prog v.program) config t transform sizes))
        → plus (Some own) (total (map (call_cost (deeper_at (bare_prog v.program) config d)) calls)) ≡ cost_at (bare_prog v.program) config d t sizes
    by None q e h k = absurd h
    by (Some x) None e h k = absurd h
    by (Some x) (Some a) e h k = cost_is (bare_prog v.program) config d t sizes x e own calls h k
