use Rattle.pb_cells.specs.Openings.{AreTold}
use Rattle.pb_cells.proofs.first.told_inputs.Given as goal

abbrev pub invariant-loop-cell : goal.invariant-loop-cell
invariant-loop-cell g l = AreTold (g.W.Work.plan l.work) l.cell l.words.items
