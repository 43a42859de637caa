use Rattle.std.proofs.Common.{arith}
use Rattle.pb_taskgraph.proofs.SerialLemmas.{serial-inside, serial-read}
use Rattle.pb_core.proofs.learned.LearningPortCellReader.read.Goals as goal

pub index-requires : goal.index-requires
index-requires g c = omega (arith, c.self.inside.outcomes.ok.0, serial-inside g.N.NamesWork.plan _ c.args.self.now c.self.view_is c.args.cell c.requires)

pub returns-clause-outcome : goal.returns-clause-outcome
returns-clause-outcome g c = serial-read g.N.NamesWork.plan _ c.args.self.now c.self.view_is c.args.cell c.index.result.now c.requires c.index.ensures
