use Rattle.std.proofs.Common.{◌∙◌, sym, arith}
use Rattle.pb_cells.proofs.FirstLemmas.{plain-more}
use Rattle.pb_cells.proofs.first.has_plain_inputs.Goals as goal

pub loop-cell-init : goal.loop-cell-init
loop-cell-init g c = λ cell below. absurd (omega (arith, below))

pub loop-cell-preserved : goal.loop-cell-preserved
loop-cell-preserved g c = plain-more (g.W.Work.plan c.args.work.now) c.loop-cell.cell c.in_default.field-0 c.loop-cell.invariant (sym c.input.ensures ∙ c.in_default.is)

pub returns : goal.returns
returns g c = λ _ cell below. c.loop-cell.invariant cell (omega (arith, c.requires, below, c.loop-cell-test.false))
