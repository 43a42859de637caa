use Rattle.pb_grid.proofs.PlaceLemmas.{one_segment}
use Rattle.pb_grid.proofs.laws.a_place_is_in_one_segment.Goals as goal

pub returns : goal.returns
returns c = λ m ss sizes x y grid at. one_segment m ss grid sizes at.in_range x y at.from_x at.before_x at.from_y at.before_y
