use Rattle.std.proofs.Common.{◌≡◌, ◌∙◌, ◌<◌, ◌+◌, length, length-set, subst, arith}
use mathlib.Core.Option.{some}
use lib.ListN.{get_elem?}
use Rattle.std.specs.Mem.Slots.{slots_items}
use Rattle.pb_cells.specs.Banks.{number_at}
use Rattle.pb_cells.proofs.EndLemmas.{end-number, stand-more}
use Rattle.pb_cells.proofs.close.told_order.Goals as goal

pub index_mut-requires : goal.index_mut-requires
index_mut-requires g c =
    let p = g.N.NamesWork.plan in
    let words = slots_items c.args.words.now.words in
    let below : c.loop-task.task < length p.graph.tasks = omega (arith, c.loop-task-test.true, c.requires.tasks) in
    let place : c.args.cells + c.args.cells + c.args.tasks + c.loop-task.task ≡ number_at p.graph c.loop-task.task = omega (arith, c.requires.cells, c.requires.tasks) in
    let inside = end-number p c.requires.plan words c.requires.last c.loop-task.task c.word-number.result below (subst (λ i. get_elem? words i ≡ some c.word-number.result) place c.word-number.ensures) in
    omega (arith, inside, c.requires.tasks, c.loop-task.invariant.size, c.loop-task.order.ok.0)

pub loop-task-preserved : goal.loop-task-preserved
loop-task-preserved g c =
    let p = g.N.NamesWork.plan in
    let words = slots_items c.args.words.now.words in
    let below : c.loop-task.task < length p.graph.tasks = omega (arith, c.loop-task-test.true, c.requires.tasks) in
    let place : c.args.cells + c.args.cells + c.args.tasks + c.loop-task.task ≡ number_at p.graph c.loop-task.task = omega (arith, c.requires.cells, c.requires.tasks) in
    record {
      size = length-set c.loop-task.order.items c.word-number.result c.loop-task.task ∙ c.loop-task.invariant.size;
      stand = stand-more p c.requires.plan words c.requires.last c.loop-task.task c.word-number.result below (subst (λ i. get_elem? words i ≡ some c.word-number.result) place c.word-number.ensures)
          c.loop-task.order.items (c.loop-task.invariant.size ∙ c.requires.tasks) c.loop-task.invariant.stand;
    }
