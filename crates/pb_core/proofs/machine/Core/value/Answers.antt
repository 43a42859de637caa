use Rattle.pb_core.proofs.WriteLemmas.{value-none, value-some}
use Rattle.pb_core.proofs.machine.Core.value.Goals as goal

pub returns-then-index : goal.returns-then-index
returns-then-index g c = value-some g.N.NamesWork.plan _ _ _ _ _ c.self.invariant c.args.self.now c.self.view_is c.args.cell c.index.result.now c.index.ensures c.requires c.index-then-index.result.now c.index-then-index.ensures c.if-index.true

pub returns-else-index : goal.returns-else-index
returns-else-index g c = value-none g.N.NamesWork.plan _ _ _ _ _ c.self.invariant c.args.self.now c.self.view_is c.args.cell c.index.result.now c.index.ensures c.requires c.if-index.false
