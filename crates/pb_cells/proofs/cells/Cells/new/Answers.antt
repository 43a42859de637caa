use Rattle.pb_cells.proofs.OpeningLemmas.{opening-asks, tasks-asks, turns-asks}
use Rattle.pb_cells.proofs.cells.Cells.new.Goals as goal

pub of_words-requires : goal.of_words-requires
of_words-requires g c = opening-asks (g.W.Work.plan c.args.work.now) g.N.NamesWork.plan c.requires.name c.graph-graph.ensures.plan c.in_ok-words.words.items c.deref.result.now c.deref.ensures.value c.in_ok-words.ensures

pub deal_jobs-requires-clause-turns : goal.deal_jobs-requires-clause-turns
deal_jobs-requires-clause-turns g c = turns-asks (g.W.Work.plan c.args.work.now) g.N.NamesWork.plan c.requires.name c.in_ok-table.first.me c.in_ok-table.ensures.4 c.in_ok-ready.ready.items c.deref-2.result.now c.deref-2.ensures.value c.in_ok-ready.ensures

pub deal_jobs-requires-clause-tasks : goal.deal_jobs-requires-clause-tasks
deal_jobs-requires-clause-tasks g c = tasks-asks (g.W.Work.plan c.args.work.now) g.N.NamesWork.plan c.requires.name c.in_ok-ready.ready.items c.deref-2.result.now c.deref-2.ensures.value c.in_ok-ready.ensures
