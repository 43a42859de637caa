use Rattle.std.proofs.Common.{◌∙◌, w64}
use Rattle.std.proofs.lemmas.Int.{to_z-of_z}
use Rattle.pb_graph.proofs.WorstLemmas.{number_value}
use Rattle.pb_graph.proofs.standing.number.Goals as goal

pub returns-clause-value : goal.returns-clause-value
returns-clause-value c sizes = number_value _ sizes ∙ to_z-of_z w64 c.args.constant c.ranges.constant
