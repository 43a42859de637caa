use Rattle.pb_cells.specs.Banks.{bank_of}
use Rattle.pb_cells.specs.Openings.{AreCounts, AreTold}
use Rattle.pb_cells.proofs.first.first_words.Given as goal

abbrev pub invariant-loop-task : goal.invariant-loop-task
invariant-loop-task g l = record {
  told : AreTold (g.W.Work.plan l.work) (g.W.Work.plan l.work).graph.inputs l.words.items;
  counts : AreCounts (g.W.Work.plan l.work) l.task (bank_of (g.W.Work.plan l.work).graph l.words.items).count;
}
