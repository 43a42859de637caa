-- Where the outputs of a rule lie that makes all its cells at once.
use Rattle.std.specs.Prelude.{◌≡◌, ℕ, pos, List, Some, slice_get}
use Rattle.pb_linear.specs.Numbers.{exact_value}
use Rattle.pb_program.specs.Areas.{area_of}
use Rattle.pb_program.specs.Forms.{DeclValue}
use Rattle.pb_program.specs.Trees.{ProgRule}
use Rattle.pb_program.specs.declared.rule.RuleKind.TheVariants as kind
use Rattle.pb_program.specs.declared.view.Read.{Read}
use Rattle.pb_region.specs.Within.{IsWithin}
use Rattle.pb_links.specs.declared.places.Spot.{Spot}
use Rattle.pb_model.specs.Equations.{shown_area}
use Rattle.pb_eval.specs.CanRun.{at_variables}
use Rattle.pb_views.specs.Windows.{IsRect}
use Rattle.pb_jobs.specs.Instances.{InstanceValue, of_sizes, of_transform}

-- outputs without rule variables lie within their matrices
abbrev pub AreOutsWithin : List DeclValue → List ℕ → List Read → Type 0
AreOutsWithin matrices sizes outs = (j : ℕ) (out : Read) (d : DeclValue) → slice_get outs j ≡ Some out → slice_get matrices out.matrix ≡ Some d
    → IsWithin (area_of sizes (pos 0) (pos 0) out d) (exact_value d.w sizes) (exact_value d.h sizes)

-- the rule with this number has no rule variables, and its outputs lie within their matrices
pub record CanGive (v : InstanceValue) (k : ℕ) : Type 0 where
  pub rule : ProgRule
  pub there : slice_get (of_transform v).rules k ≡ Some rule
  pub wide : rule.kind ≡ kind.Wide
  pub within : AreOutsWithin (of_transform v).matrices (of_sizes v) rule.outs

-- a rectangle of a matrix is what the output with this number shows
pub record LiesAt (matrices : List DeclValue) (sizes : List ℕ) (outs : List Read) (k : ℕ) (s : Spot) : Type 0 where
  pub out : Read
  pub there : slice_get outs k ≡ Some out
  pub base : s.base ≡ out.matrix
  pub rect : IsRect (shown_area matrices sizes (at_variables 0 0) out) s.rect
