use Rattle.std.proofs.Common.{rules, map}
use Rattle.pb_program.specs.Trees.{bare_transform}
use Rattle.pb_resolve.proofs.ProgramLemmas.{resolved, faults_told}
use Rattle.pb_resolve.proofs.program.resolved.Goals as goal

pub returns-in_err-found-clause-refused : goal.returns-in_err-found-clause-refused
returns-in_err-found-clause-refused c =
    let h = faults_told c.args.ts.now c.in_ok-all.all c.in_ok-all.ensures.found c.in_err-found.field-0.0 c.in_err-found.ensures.refused in search (rules, h, c.from_residual-in_err-found.ensures)

pub returns-clause-found : goal.returns-clause-found
returns-clause-found c =
    resolved c.args.ts.now c.in_ok-all.all c.in_ok-all.ensures.found (map bare_transform c.in_ok-found.found.items) c.in_ok-found.ensures.found c.in_ok-found.ensures.faultless
