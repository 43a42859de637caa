use Rattle.std.proofs.Common.{arith}
use Rattle.std.proofs.lemmas.List.{length-map}
use Rattle.pb_program.specs.Trees.{bare_rule}
use Rattle.pb_instance_cost.proofs.parts.cost_of.Goals as goal

pub wides_cost-requires-clause-few : goal.wides_cost-requires-clause-few
wides_cost-requires-clause-few c = omega (arith, c.requires.few, length-map c.args.transform.now.rules bare_rule)
