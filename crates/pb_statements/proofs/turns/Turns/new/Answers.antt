use Rattle.std.proofs.Common.{arith}
use Rattle.std.proofs.lemmas.Int.{ints}
use Rattle.pb_statements.proofs.TurnLemmas.{turns_few, turns_many, turns_none}
use Rattle.pb_statements.proofs.turns.Turns.new.Goals as goal

pub returns-then-high-low-clause-count : goal.returns-then-high-low-clause-count
returns-then-high-low-clause-count c = turns_none c.args.low c.args.high (omega (arith, ints))

pub returns-then-count-gt-MOST_TURNS-clause-count : goal.returns-then-count-gt-MOST_TURNS-clause-count
returns-then-count-gt-MOST_TURNS-clause-count c = turns_many c.args.low c.args.high c.abs_diff-count.result (omega (arith, ints, c.abs_diff-count.ensures)) (omega arith)

pub returns-clause-count : goal.returns-clause-count
returns-clause-count c = turns_few c.args.low c.args.high c.abs_diff-count.result (omega (arith, ints, c.abs_diff-count.ensures)) (omega arith)
