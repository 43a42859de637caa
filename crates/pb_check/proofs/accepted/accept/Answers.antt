use Rattle.std.proofs.lemmas.Result.{err_from_is_err_and}
use Rattle.pb_program.specs.Trees.{bare_prog}
use Rattle.pb_syntax.specs.Trees.{bare_text}
use Rattle.pb_check.proofs.AcceptLemmas.{phase_refused}
use Rattle.pb_check.proofs.accepted.accept.Goals as goal

pub returns-in_err-found-clause-refused : goal.returns-in_err-found-clause-refused
returns-in_err-found-clause-refused c =
    let refused = phase_refused c.args.text.now (bare_text c.in_ok-tree.tree) (bare_prog c.in_ok-program.program) c.in_err-found.field-0.0 c.in_ok-tree.ensures.found c.in_ok-program.ensures.found c.in_err-found.ensures.refused in
    let p = err_from_is_err_and c.from_residual-in_err-found.result c.from_residual-in_err-found.ensures.1 in
    rw (p.1, p.2) refused
