use Rattle.std.proofs.Common.{◌∙◌, sym, ap, subst, ◌+◌, arith}
use Rattle.pb_taskgraph.specs.Plans.{IsSmall}
use Rattle.pb_cells.specs.Words.{mark_of, word_of}
use Rattle.pb_cells.proofs.CallLemmas.{any-small}
use Rattle.pb_cells.proofs.FirstLemmas.{told-more, told-none}
use Rattle.pb_cells.proofs.first.told_inputs.Goals as goal

pub loop-cell-init : goal.loop-cell-init
loop-cell-init g c = told-none (g.W.Work.plan c.args.work.now) c.in_ok-words.words.items (c.args.cells + c.args.cells + c.args.tasks + c.args.tasks + 2) (c.in_ok-words.ensures.items_if_clones_equal (λ y e. e)) (omega (arith, c.requires.cells, c.requires.tasks))

pub pack-mark-requires : goal.pack-mark-requires
pack-mark-requires g c = subst IsSmall (sym c.input.ensures) (any-small (g.W.Work.plan c.args.work.now) c.requires.plan c.loop-cell.cell)

pub loop-cell-preserved : goal.loop-cell-preserved
loop-cell-preserved g c = told-more (g.W.Work.plan c.args.work.now) c.requires.plan c.loop-cell.words.items c.loop-cell.cell c.loop-cell.invariant c.args.cells c.pack-mark.result.1 c.pack-mark.result.0
    (omega (arith, c.requires.inputs)) c.requires.cells (ap (λ q. q.1) c.pack-mark.ensures ∙ ap word_of c.input.ensures) (ap (λ q. q.0) c.pack-mark.ensures ∙ ap mark_of c.input.ensures)
