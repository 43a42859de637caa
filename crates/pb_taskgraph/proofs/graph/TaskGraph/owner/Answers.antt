use Rattle.pb_taskgraph.proofs.TableLemmas.{owner-is}
use Rattle.pb_taskgraph.proofs.graph.TaskGraph.owner.Goals as goal

pub returns-clause-task : goal.returns-clause-task
returns-clause-task c = (owner-is _ c.args.self.now c.self.inside.owners.items c.args.cell c.index.result.now c.self.view_is c.self.invariant c.requires.past c.requires.below c.index.ensures).0

pub returns-clause-cell : goal.returns-clause-cell
returns-clause-cell c = (owner-is _ c.args.self.now c.self.inside.owners.items c.args.cell c.index.result.now c.self.view_is c.self.invariant c.requires.past c.requires.below c.index.ensures).1
