use Rattle.pb_graph.proofs.RankLemmas.{falls}
use Rattle.pb_graph.proofs.laws.what_is_read_has_a_smaller_rank.Goals as goal

pub returns : goal.returns
returns c = falls
