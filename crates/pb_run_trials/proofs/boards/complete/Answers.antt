use Rattle.std.proofs.Common.{arith}
use Rattle.pb_run_trials.proofs.PairLemmas.{pair-below, pair-few, pair-task, pair-values}
use Rattle.pb_run_trials.proofs.boards.complete.Goals as goal

pub first_cell-first-requires : goal.first_cell-first-requires
first_cell-first-requires g c = pair-task c.args.work.now g.N.NamesWork.plan c.requires.name c.args.task c.requires.task

pub get-requires : goal.get-requires
get-requires g c = let below = pair-below c.args.work.now g.N.NamesWork.plan c.requires.name c.graph-graph.ensures.plan c.args.task c.first_cell-first.result c.first_cell-first.ensures c.args.outcomes.now c.requires.outcomes in omega (arith, below)

pub overflow_add-first : goal.overflow_add-first
overflow_add-first g c = omega (arith, pair-few c.args.work.now g.N.NamesWork.plan c.requires.name c.graph-graph.ensures.plan c.args.task c.first_cell-first.result c.first_cell-first.ensures c.args.outcomes.now c.requires.outcomes)

pub get-requires-2 : goal.get-requires-2
get-requires-2 g c = pair-below c.args.work.now g.N.NamesWork.plan c.requires.name c.graph-graph.ensures.plan c.args.task c.first_cell-first.result c.first_cell-first.ensures c.args.outcomes.now c.requires.outcomes

pub complete-requires-after_bounds : goal.complete-requires-after_bounds
complete-requires-after_bounds g c κs within = pair-values c.args.work.now g.N.NamesWork.plan c.requires.name c.graph-graph.ensures.plan c.args.task c.first_cell-first.result c.first_cell-first.ensures c.args.outcomes.now c.requires.outcomes c.get.result c.get-2.result c.get.ensures c.get-2.ensures
