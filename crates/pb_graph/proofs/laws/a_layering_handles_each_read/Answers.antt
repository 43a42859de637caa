use Rattle.pb_graph.proofs.HandledLemmas.{handled}
use Rattle.pb_graph.proofs.laws.a_layering_handles_each_read.Goals as goal

pub returns : goal.returns
returns c = handled
