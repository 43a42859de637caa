use Rattle.pb_summary.proofs.CellLemmas.{least_is, greatest_is}
use Rattle.pb_summary.proofs.laws.the_ends_are_cells.Goals as goal

pub returns-clause-least : goal.returns-clause-least
returns-clause-least c = least_is

pub returns-clause-greatest : goal.returns-clause-greatest
returns-clause-greatest c = greatest_is
