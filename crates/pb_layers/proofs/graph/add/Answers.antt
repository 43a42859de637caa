use Rattle.pb_layers.proofs.LinkLemmas.{added-read}
use Rattle.pb_layers.proofs.graph.add.Goals as goal

pub returns : goal.returns
returns c = added-read c.push.result c.args.targets.now.items c.args.from c.args.to c.index_mut.result.now c.push.new.self c.requires c.index_mut.ensures.value c.push.ensures
