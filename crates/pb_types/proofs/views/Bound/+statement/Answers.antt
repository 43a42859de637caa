use Rattle.std.proofs.Common.{rules}
use Rattle.pb_program.specs.declared.statement.Stmt.{the_lemmas}
use Rattle.pb_types.proofs.views.Bound.+statement.Goals as goal

pub statement-statements-requires : goal.statement-statements-requires
statement-statements-requires t c = search (rules, the_lemmas) depth 12

pub statement-statements-requires-in-Some : goal.statement-statements-requires-in-Some
statement-statements-requires-in-Some t c = search (rules, the_lemmas) depth 12
