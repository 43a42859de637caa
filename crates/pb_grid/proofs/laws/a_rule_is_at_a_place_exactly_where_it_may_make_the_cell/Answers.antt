use Rattle.pb_grid.proofs.RuleLemmas.{at_place}
use Rattle.pb_grid.proofs.laws.a_rule_is_at_a_place_exactly_where_it_may_make_the_cell.Goals as goal

pub returns : goal.returns
returns c = at_place
