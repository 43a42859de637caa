use Rattle.pb_walk.proofs.WalkLemmas.{one_walk}
use Rattle.pb_walk.proofs.laws.there_is_one_walk.Goals as goal

pub returns : goal.returns
returns c = one_walk
