use Rattle.std.proofs.Common.{◌∙◌, sym, ap, subst, length, length-set, slice_get, arith}
use Rattle.pb_taskgraph.specs.Plans.{IsSmall}
use Rattle.pb_taskgraph.proofs.PlanLemmas.{outcome-small}
use Rattle.pb_taskgraph.proofs.SerialLemmas.{inputs-more}
use Rattle.pb_taskgraph.proofs.serial.given_outcomes.Goals as goal

pub set-requires-clause-small : goal.set-requires-clause-small
set-requires-clause-small g c =
    subst IsSmall (sym c.input.ensures) (outcome-small (g.W.Work.plan c.args.work.now) c.requires.plan c.loop-cell.cell (omega (arith, c.requires.plan.graph.partition.inputs)))

pub loop-cell-preserved : goal.loop-cell-preserved
loop-cell-preserved g c = record {
  size = ap length c.set.ensures ∙ length-set c.loop-cell.outcomes c.loop-cell.cell c.input.result ∙ c.loop-cell.invariant.size;
  inputs = λ k below. ap (λ l. slice_get l k) c.set.ensures
      ∙ inputs-more (g.W.Work.plan c.args.work.now).solution c.loop-cell.outcomes c.loop-cell.cell c.input.result (omega (arith, c.loop-cell.invariant.size, c.requires.plan.graph.partition.inputs)) c.input.ensures c.loop-cell.invariant.inputs k below;
}
