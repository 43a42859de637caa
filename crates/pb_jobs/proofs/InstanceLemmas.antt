-- What is known of the rules of an instance.
use Rattle.std.proofs.Common.{◌≡◌, ℕ, ◌<◌, length, slice_get, Some, arith}
use Rattle.std.specs.Prelude.{◌≢◌}
use Rattle.std.specs.List.{Contains}
use Rattle.std.proofs.lemmas.List.{length-map}
use Rattle.pb_base.proofs.ListLemmas.{at_in}
use Rattle.pb_program.specs.Forms.{DeclValue}
use Rattle.pb_program.specs.Trees.{ProgRule, ProgTransform, bare_prog, bare_rule}
use Rattle.pb_program.specs.WellFormed.{IsRule, IsView, variables}
use Rattle.pb_program.specs.declared.rule.RuleKind.TheVariants as kind
use Rattle.pb_program.specs.declared.view.Read.{Read}
use Rattle.pb_region.proofs.SmallLemmas.{at_place}
use Rattle.pb_eval.specs.CanRun.{IsRunnable}
use Rattle.pb_eval.proofs.RegionLemmas.{runnable}
use Rattle.pb_jobs.specs.Instances.{InstanceValue, IsReady, of_sizes, of_transform}
use Rattle.pb_jobs.specs.Shown.{AreWindowsOf, WindowsValue}
use Rattle.pb_jobs.proofs.ListLemmas.{some_at, zip_both, zip_length}

module _ (v : InstanceValue) (is : IsReady v) (k : ℕ) (rule : ProgRule) (there : slice_get (of_transform v).rules k ≡ Some rule) where
  abbrev t : ProgTransform
  t = of_transform v

  pub rule_fits : IsRule (length t.sizes) t.inputs (length t.matrices) (length (bare_prog v.program)) rule
  rule_fits = at_place (IsRule (length t.sizes) t.inputs (length t.matrices) (length (bare_prog v.program))) t.rules k rule is.fits.rules there

  pub can_run : rule.kind ≢ kind.Plan → IsRunnable t.matrices rule
  can_run computes = runnable (length t.sizes) t.inputs (length (bare_prog v.program)) t.matrices rule rule_fits computes

  pub read_declared : (q : Read) → Contains rule.reads q → (d : DeclValue) × (slice_get t.matrices q.matrix ≡ Some d)
  read_declared q h = let j = at_in rule.reads q h in some_at t.matrices q.matrix (at_place (IsView (length t.sizes) (variables rule.outs) (length t.matrices)) rule.reads j.0 q rule_fits.reads j.1).matrix

  pub out_declared : (q : Read) → Contains rule.outs q → (d : DeclValue) × (slice_get t.matrices q.matrix ≡ Some d)
  out_declared q h = let j = at_in rule.outs q h in some_at t.matrices q.matrix (at_place (IsView (length t.sizes) (variables rule.outs) (length t.matrices)) rule.outs j.0 q rule_fits.outs j.1).matrix

  -- its windows stand at its number
  pub windows_of : (w : WindowsValue) → slice_get v.windows k ≡ Some w → AreWindowsOf (of_sizes v) rule w
  windows_of w at = zip_both (AreWindowsOf (of_sizes v)) t.rules v.windows is.windows k rule w there at

pub windows_below : (v : InstanceValue) → IsReady v → (k : ℕ) → k < length v.transform.rules → k < length v.windows
windows_below v is k below = omega (arith, below, zip_length (AreWindowsOf (of_sizes v)) (of_transform v).rules v.windows is.windows, length-map v.transform.rules bare_rule)
