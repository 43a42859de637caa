-- The box of a rule for single cells, and where the rule applies.
use Rattle.std.proofs.Common.{◌≡◌, sym, subst, ◌↔◌, ℕ, List, ℤ}
use Rattle.std.specs.List.{AllByRecursion}
use Rattle.pb_linear.specs.Sizes.{leasts_of}
use Rattle.pb_program.specs.declared.rule.RuleKind.{RuleKind}
use Rattle.pb_program.specs.declared.rule.RuleKind.TheVariants as kind
use Rattle.pb_program.specs.declared.view.Read.{Read}
use Rattle.pb_program.specs.Conditions.{Applies, Holds, conditions}
use Rattle.pb_program.specs.Trees.{ProgRule, ProgTransform}
use Rattle.pb_region.specs.Boxes.{box, gaps_of, limits_of}
use Rattle.pb_region.specs.Ends.{ends_of}
use Rattle.pb_region.specs.Inside.{IsInside, bounding, guards, is_guarding}
use Rattle.pb_region.specs.Rules.{IsAccepted}
use Rattle.pb_region.proofs.InsideLemmas.{all_boxes, all_split, inside_is}

module _ (t : ProgTransform) (r : ProgRule) (number : ℕ) (out : Read) (accepted : IsAccepted t r) (cell : r.kind ≡ kind.Cell) (sizes : List ℕ) (x y : ℤ) where
  pub cell_inside : IsInside (box (leasts_of t.ranges) t.matrices number r out).limits sizes x y ↔ AllByRecursion (Holds sizes x y) (bounding t.matrices r)
  cell_inside =
      let P : RuleKind → Type 0 = λ k. IsInside (limits_of k (gaps_of t.matrices r) (ends_of t.matrices out)) sizes x y ↔ AllByRecursion (Holds sizes x y) (bounding t.matrices r) in
      subst P (sym cell) (inside_is sizes x y (conditions t.matrices r) (all_boxes (conditions t.matrices r) accepted.conditions))

  pub cell_applies : Applies t.matrices r sizes x y ↔ (IsInside (box (leasts_of t.ranges) t.matrices number r out).limits sizes x y × AllByRecursion (Holds sizes x y) (guards t.matrices r))
  cell_applies =
      let parts = all_split (Holds sizes x y) is_guarding (conditions t.matrices r) in
      (λ h. (cell_inside.1 (parts.0 h).0, (parts.0 h).1), λ h. parts.1 (cell_inside.0 h.0, h.1))
