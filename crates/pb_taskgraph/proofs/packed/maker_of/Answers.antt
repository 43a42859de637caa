use Rattle.pb_taskgraph.proofs.PackedLemmas.{maker}
use Rattle.pb_taskgraph.proofs.packed.maker_of.Goals as goal

pub returns-clause-trap : goal.returns-clause-trap
returns-clause-trap c = maker c.args.trap.now c.kind_number.result c.kind_number.ensures.kind c.requires.transform c.requires.rule
