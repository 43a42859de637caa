use Rattle.pb_grammar.proofs.Exact.{one_tree}
use Rattle.pb_grammar.proofs.laws.a_list_has_one_tree.Goals as goal

pub returns : goal.returns
returns c = one_tree
