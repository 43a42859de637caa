use Rattle.pb_front.proofs.ReadLemmas.{complete}
use Rattle.pb_front.proofs.read.read_text.Goals as goal

pub returns-clause-complete : goal.returns-clause-complete
returns-clause-complete c = complete c.args.text.now c.read_tree.result c.read_tree.ensures.found c.read_tree.ensures.refused
