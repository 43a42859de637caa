-- Each rule of an instance needs little room.
use Rattle.std.proofs.Common.{◌≡◌, ◌∙◌, sym, ap, subst, ℕ, slice_get, Some, arith}
use Rattle.pb_program.specs.Trees.{ProgRule, ProgTransform, bare_prog}
use Rattle.pb_program.specs.declared.rule.RuleKind.TheVariants as kind
use Rattle.pb_eval.specs.CanRun.{OfRule}
use Rattle.pb_jobs.specs.Instances.{InstanceValue, IsReady, of_sizes, of_transform}
use Rattle.pb_jobs.specs.Outputs.{CanGive}
use Rattle.pb_jobs.specs.Rooms.{HasNeed}
use Rattle.pb_jobs.proofs.BlockLemmas.{single}
use Rattle.pb_jobs.proofs.CellLemmas.{one_needed}
use Rattle.pb_jobs.proofs.InstanceLemmas.{can_run}
use Rattle.pb_jobs.proofs.ListLemmas.{some_same}
use Rattle.pb_jobs.proofs.OutputLemmas.{all_few_at}
use Rattle.pb_jobs.proofs.WholeLemmas.{many}

module _ (v : InstanceValue) (is : IsReady v) (k : ℕ) where
  of_rule : (P : ProgTransform → ProgRule → Type 0) (rule : ProgRule) → slice_get (of_transform v).rules k ≡ Some rule → P (of_transform v) rule → OfRule (bare_prog v.program) v.number k P
  of_rule P rule there h transform r at_t at_r =
      let same : of_transform v ≡ transform = some_same (of_transform v) transform (sym is.there ∙ at_t) in
      subst (λ u. P u r) same (subst (P (of_transform v)) (some_same rule r (sym there ∙ ap (λ (u : ProgTransform). slice_get u.rules k) same ∙ at_r)) h)

  pub cell_need : (rule : ProgRule) → slice_get (of_transform v).rules k ≡ Some rule → rule.kind ≡ kind.Cell → HasNeed (bare_prog v.program) v.number (of_sizes v) k
  cell_need rule there cell = of_rule _ rule there (can_run v is k rule there (single rule.kind cell), λ x y. omega (arith, one_needed v is k x y rule there cell))

  pub whole_need : CanGive v k → HasNeed (bare_prog v.program) v.number (of_sizes v) k
  whole_need can = of_rule _ can.rule can.there (can_run v is k can.rule can.there (many can.rule.kind can.wide), λ x y. omega (arith, all_few_at is can x y))
