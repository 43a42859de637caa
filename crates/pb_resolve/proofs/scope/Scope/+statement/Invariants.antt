use Rattle.std.proofs.Common.{map}
use Rattle.pb_program.specs.Stmts.{bare_stmt}
use Rattle.pb_resolve.proofs.ScopeLemmas.{Read}
use Rattle.pb_resolve.proofs.scope.Scope.+statement.Given as goal

abbrev pub invariant-statements-loop-next : goal.invariant-statements-loop-next
invariant-statements-loop-next l = Read l.initial.self l.self (map bare_stmt l.found.items) l.ss l.next-index
