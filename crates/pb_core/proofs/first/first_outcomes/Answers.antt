use Rattle.std.proofs.Common.{◌∙◌, length-set, arith}
use Rattle.pb_taskgraph.proofs.SerialLemmas.{inputs-more}
use Rattle.pb_core.proofs.first.first_outcomes.Goals as goal

pub loop-cell-preserved : goal.loop-cell-preserved
loop-cell-preserved g c = record {
  room = length-set c.loop-cell.outcomes.items c.loop-cell.cell c.input.result ∙ c.loop-cell.invariant.room;
  inputs = inputs-more (g.W.Work.plan c.args.work.now).solution c.loop-cell.outcomes.items c.loop-cell.cell c.input.result (omega (arith, c.loop-cell.invariant.room, c.requires.plan.graph.partition.inputs)) c.input.ensures c.loop-cell.invariant.inputs;
}
