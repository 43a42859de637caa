-- What is known of an instance of an accepted program, and of what it makes.
use Rattle.std.proofs.Common.{◌≡◌, ◌∙◌, sym, ap, subst, ℕ, List, get_or, slice_get, Some, arith}
use Rattle.std.specs.List.{All}
use Rattle.std.proofs.lemmas.List.{length-map}
use Rattle.pb_linear.specs.Sizes.{InRange, leasts_of, sizes_of}
use Rattle.pb_linear.specs.declared.sizes.Sizes.{Sizes}
use Rattle.pb_program.specs.Configs.{ConfigValue, IsValid}
use Rattle.pb_program.specs.Trees.{ProgTransform, bare_prog, bare_transform}
use Rattle.pb_program.specs.Transforms.{TransformValue}
use Rattle.pb_region.proofs.RuleLemmas.{held_at}
use Rattle.pb_check.specs.Accepting.{AcceptedValue, IsAccepted}
use Rattle.pb_check.specs.Orders.{AnalysisValue}
use Rattle.pb_check.specs.Ranked.{OfTransform}
use Rattle.pb_check.proofs.FirstLemmas.{some_at}
use Rattle.pb_frame.specs.Choices.{IsInstance}
use Rattle.pb_frame.specs.Frames.{FrameValue, IsFrame, parts_of}
use Rattle.pb_frame.proofs.FoundLemmas.{instance, numbers_of, of_these, said_of}
use Rattle.pb_frame.proofs.PartLemmas.{rules_few, top_of}
use Rattle.pb_instance_cost.specs.Costs.{instance_cost}
use Rattle.pb_instance_cost.specs.Parts.{CanShowPart, CanShowParts, CanShowWides, parts_shown}
use Rattle.pb_instance_cost.proofs.CostLemmas.{cost_is}
use Rattle.pb_instance_cost.proofs.PartLemmas.{can_parts, can_wides}

-- the transform that the code found
pub found_there : (v : AcceptedValue) (number : ℕ) (P : ProgTransform → AnalysisValue → Type 0) → OfTransform v number P → (items : List TransformValue) (x : TransformValue) → items ≡ v.program.transforms → x ≡ get_or items number x
    → slice_get (bare_prog v.program) number ≡ Some (bare_transform x)
found_there v number P h items x held is =
    held_at bare_transform v.program.transforms number x (omega (arith, (numbers_of v number P h).0, length-map v.program.transforms bare_transform)) (is ∙ ap (λ ts. get_or ts number x) held)

module _ (v : AcceptedValue) (accepted : IsAccepted v) (config : ConfigValue) (number : ℕ) (t : ProgTransform) (there : slice_get (bare_prog v.program) number ≡ Some t) (s : Sizes) (frame : FrameValue) (valid : IsValid (bare_prog v.program) config)
    (range : OfTransform v number (λ transform found. InRange (leasts_of transform.ranges) (sizes_of s))) (of_sizes : frame.sizes ≡ s) (is_frame : (grain : ℕ) × OfTransform v number (λ transform found. IsFrame config number transform found grain frame)) where
  abbrev sizes : List ℕ
  sizes = sizes_of s

  abbrev found : (a : AnalysisValue) × (slice_get v.found number ≡ Some a)
  found = some_at v.found number (numbers_of v number (λ transform a. InRange (leasts_of transform.ranges) sizes) range).1

  abbrev said : (P : ProgTransform → AnalysisValue → Type 0) → OfTransform v number P → P t found.0
  said = said_of v accepted number t found.0 there found.1

  abbrev inst : IsInstance number t found.0 sizes
  inst =
      let i = instance v accepted number t found.0 there found.1 sizes (said (λ transform a. InRange (leasts_of transform.ranges) sizes) range) in
      record { program = bare_prog v.program; well_formed = accepted.well_formed; sound = accepted.sound; there = there; found = i.found; in_range = i.in_range }

  parts_are : frame.parts ≡ parts_of config number t sizes found.0.nodes
  parts_are = (said (λ transform a. IsFrame config number transform a is_frame.0 frame) is_frame.1).parts ∙ ap (λ (z : Sizes). parts_of config number t (sizes_of z) found.0.nodes) of_sizes

  pub can_show : CanShowParts t s frame.parts
  can_show = record {
    sizes = top_of number t found.0 s inst;
    few = rules_few number t found.0 sizes inst;
    each = subst (All (CanShowPart t sizes)) (sym parts_are) (can_parts config number t found.0 sizes inst valid);
    wides = subst (CanShowWides t sizes) (sym parts_are) (can_wides config number t found.0 sizes inst valid);
  }

  pub total : (n : ℕ) → n ≡ parts_shown t sizes frame.parts → OfTransform v number (λ transform a. n ≡ instance_cost config number transform sizes)
  total n is = of_these v accepted number t found.0 there found.1 (λ transform a. n ≡ instance_cost config number transform sizes) (is ∙ ap (parts_shown t sizes) parts_are ∙ sym (cost_is config number t found.0 sizes inst valid))
