-- A rule that makes all its cells at once can be run, and gives each stop its outcome.
use Rattle.std.proofs.Common.{◌≡◌, ◌∙◌, refl, sym, subst, ℕ, ℤ, List, length, slice_get, Some}
use Rattle.std.specs.Prelude.{◌≢◌, IfOk, Result, Ok, Err}
use Rattle.pb_values.specs.Cells.{Turn}
use Rattle.pb_values.specs.declared.outcome.Outcome.{Outcome}
use Rattle.pb_values.specs.declared.outcome.Trap.{Trap}
use Rattle.pb_program.specs.declared.rule.RuleKind.{RuleKind}
use Rattle.pb_program.specs.declared.rule.RuleKind.TheVariants as kind
use Rattle.pb_model.specs.Cells.{reads}
use Rattle.pb_model.specs.Equations.{own_outcome}
use Rattle.pb_eval.specs.CanRun.{at_variables, outs_needed}
use Rattle.pb_walk.specs.declared.stop.Stop.{Stop}
use Rattle.pb_jobs.specs.Instances.{CanRunRule, InstanceValue, given_by, of_sizes, of_transform, told_of}
use Rattle.pb_jobs.specs.Jobs.{IsNext, IsWhole, stop_cell}
use Rattle.pb_jobs.specs.Outputs.{CanGive}
use Rattle.pb_jobs.proofs.OutLemmas.{gives_count}
use Rattle.pb_jobs.proofs.StepLemmas.{IsAmong, stop_at}

pub many : (g : RuleKind) → g ≡ kind.Wide → g ≢ kind.Plan
many g e plan = let wrong : kind.Wide ≡ kind.Plan = sym e ∙ plan in cc

module _ {v : InstanceValue} {k : ℕ} {stops : List Stop} {start : Turn} (w : IsWhole v k stops start) where
  pub can_run : CanRunRule v k 0 0 start
  can_run = record { rule = w.rule; there = w.there; computes = many w.rule.kind w.wide; can = w.can }

  pub can_give : CanGive v k
  can_give = record { rule = w.rule; there = w.there; wide = w.wide; within = w.within }

  -- it gives as many numbers as its outputs have
  pub counted : IfOk (given_by v k w.rule 0 0 start) (λ numbers. length numbers ≡ outs_needed (of_transform v).matrices (of_sizes v) (at_variables 0 0) w.rule)
  counted = by (given_by v k w.rule 0 0 start) (gives_count (of_transform v).matrices (of_sizes v) (at_variables 0 0) v.number k w.rule (told_of v start (reads (of_transform v).matrices (of_sizes v) (at_variables 0 0) w.rule)))
    where
      by : (g : Result (List ℤ) Trap) → ((numbers : List ℤ) → g ≡ Ok numbers → length numbers ≡ outs_needed (of_transform v).matrices (of_sizes v) (at_variables 0 0) w.rule) → IfOk g (λ numbers. length numbers ≡ outs_needed (of_transform v).matrices (of_sizes v) (at_variables 0 0) w.rule)
      by (Ok numbers) h = h numbers refl
      by (Err u) h = tt

  pub next : {turn : Turn} {ahead : List Stop} (a : IsAmong stops start turn ahead) (s : Stop) → Some s ≡ slice_get ahead 0 → (o : Outcome)
      → o ≡ own_outcome (of_transform v).matrices (of_sizes v) (stop_cell s) w.rule (given_by v k w.rule 0 0 start) → IsNext v.views start a.n s o
  next a s first o is = subst (IsNext v.views start a.n s) (sym is) (w.each a.n s (stop_at a s first))
