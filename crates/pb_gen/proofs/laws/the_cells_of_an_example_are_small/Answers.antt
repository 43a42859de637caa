use Rattle.pb_gen.proofs.MatrixLemmas.{examples_are_small}
use Rattle.pb_gen.proofs.laws.the_cells_of_an_example_are_small.Goals as goal

pub returns : goal.returns
returns c = examples_are_small
