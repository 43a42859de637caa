use Rattle.std.proofs.Common.{sym}
use Rattle.pb_statements.specs.Working.{name_in}
use Rattle.pb_statements.proofs.ArgumentLemmas.{named_is, no_name}
use Rattle.pb_statements.proofs.expression.named_view.Goals as goal

pub returns-in-Some : goal.returns-in-Some
unfolding name_in
returns-in-Some c = λ b st. named_is b st c.args.e.now c.in-Some.name (sym c.in-Some.ensures)

pub returns-in-None : goal.returns-in-None
unfolding name_in
returns-in-None c = λ b st. no_name b st c.args.e.now (sym c.in-None.ensures)
