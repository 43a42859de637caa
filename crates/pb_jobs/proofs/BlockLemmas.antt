-- A stop of a block: the rule of its rectangle can be run, and gives the next outcome.
use Rattle.std.proofs.Common.{◌≡◌, ◌∙◌, sym, ap, subst, ℕ, ◌<◌, List, length, slice_get, Some}
use Rattle.std.specs.Prelude.{◌≢◌}
use Rattle.std.proofs.lemmas.Option.{slice_get_within}
use Rattle.pb_values.specs.Cells.{Turn}
use Rattle.pb_values.specs.declared.outcome.Outcome.{Outcome}
use Rattle.pb_program.specs.Trees.{ProgRule}
use Rattle.pb_program.specs.declared.rule.RuleKind.{RuleKind}
use Rattle.pb_program.specs.declared.rule.RuleKind.TheVariants as kind
use Rattle.pb_model.specs.Equations.{own_outcome}
use Rattle.pb_eval.specs.CanRun.{at_variables}
use Rattle.pb_taskgraph.specs.Turns.{after_some}
use Rattle.pb_walk.specs.declared.stop.Stop.{Stop}
use Rattle.pb_jobs.specs.Instances.{CanRunRule, InstanceValue, given_by, of_sizes, of_transform}
use Rattle.pb_jobs.specs.Jobs.{IsBlock, IsMadeAlone, IsNext}
use Rattle.pb_jobs.specs.Shown.{CanRun}
use Rattle.pb_jobs.proofs.ListLemmas.{some_same}
use Rattle.pb_jobs.proofs.StepLemmas.{IsAmong, stop_at}

pub single : (g : RuleKind) → g ≡ kind.Cell → g ≢ kind.Plan
single g e plan = let wrong : kind.Cell ≡ kind.Plan = sym e ∙ plan in cc

module _ {v : InstanceValue} {rules : List ℕ} {stops : List Stop} {start : Turn} (b : IsBlock v rules stops start) {turn : Turn} {ahead : List Stop} (a : IsAmong stops start turn ahead) (s : Stop) (first : Some s ≡ slice_get ahead 0) where
  abbrev pub made : IsMadeAlone v rules start a.n s
  made = b.each a.n s (stop_at a s first)

  pub piece_there : s.piece < length rules
  piece_there = slice_get_within rules s.piece made.k made.own

  -- the rule of its rectangle
  module _ (k : ℕ) (given : slice_get rules s.piece ≡ Some k) where
    own : made.k ≡ k
    own = some_same made.k k (sym made.own ∙ given)

    there : slice_get (of_transform v).rules k ≡ Some made.rule
    there = ap (slice_get (of_transform v).rules) (sym own) ∙ made.there

    pub can : CanRunRule v k s.x s.y turn
    can = record { rule = made.rule; there = there; computes = single made.rule.kind made.cell; can = subst (CanRun (of_transform v).matrices (of_sizes v) v.views made.rule s.x s.y) (sym a.now) made.can }

    pub is_cell : (r : ProgRule) → slice_get (of_transform v).rules k ≡ Some r → r.kind ≡ kind.Cell
    is_cell r at = ap (λ (q : ProgRule). q.kind) (some_same r made.rule (sym at ∙ there)) ∙ made.cell

    -- its outcome is the next
    pub next : (o : Outcome) → ((r : ProgRule) → slice_get (of_transform v).rules k ≡ Some r → o ≡ own_outcome (of_transform v).matrices (of_sizes v) (at_variables s.x s.y) r (given_by v k r s.x s.y turn)) → IsNext v.views start a.n s o
    next o is =
        subst (IsNext v.views start a.n s) (sym (is made.rule there ∙ ap (λ (u : Turn). own_outcome (of_transform v).matrices (of_sizes v) (at_variables s.x s.y) made.rule (given_by v k made.rule s.x s.y u)) a.now
        ∙ ap (λ q. own_outcome (of_transform v).matrices (of_sizes v) (at_variables s.x s.y) made.rule (given_by v q made.rule s.x s.y (after_some a.n start))) (sym own))) made.next
