use Rattle.pb_cells.specs.Handles.{ArePlain}
use Rattle.pb_cells.proofs.first.has_plain_inputs.Given as goal

abbrev pub invariant-loop-cell : goal.invariant-loop-cell
invariant-loop-cell g l = ArePlain (g.W.Work.plan l.work) l.cell
