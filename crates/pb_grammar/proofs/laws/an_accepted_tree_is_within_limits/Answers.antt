use Rattle.pb_grammar.proofs.Within.{within_limits}
use Rattle.pb_grammar.proofs.laws.an_accepted_tree_is_within_limits.Goals as goal

pub returns : goal.returns
returns c = within_limits
