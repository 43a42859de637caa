use Rattle.pb_walk.proofs.WalkLemmas.{walk_rises}
use Rattle.pb_walk.proofs.laws.a_walk_rises.Goals as goal

pub returns : goal.returns
returns c = walk_rises
