use Rattle.pb_walk.proofs.WalkLemmas.{in_walk, walk_in, walked_once}
use Rattle.pb_walk.proofs.laws.each_place_is_walked_once.Goals as goal

pub returns-clause-places : goal.returns-clause-places
returns-clause-places c = λ steps pieces s. (walk_in steps pieces s, in_walk steps pieces s)

pub returns-clause-once : goal.returns-clause-once
returns-clause-once c = walked_once
