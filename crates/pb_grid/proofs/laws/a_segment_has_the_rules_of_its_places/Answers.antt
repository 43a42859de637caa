use Rattle.pb_grid.proofs.PlaceLemmas.{rules_at}
use Rattle.pb_grid.proofs.laws.a_segment_has_the_rules_of_its_places.Goals as goal

pub returns : goal.returns
returns c = λ m ss sizes x y grid at. rules_at m ss grid sizes at.in_range x y at.from_x at.before_x at.from_y at.before_y
