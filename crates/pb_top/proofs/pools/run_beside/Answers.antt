use Rattle.std.proofs.Common.{[]}
use Rattle.std.proofs.lemmas.Result.{err_from_is_err_and}
use Rattle.pb_program.specs.Trees.{bare_prog}
use Rattle.pb_top.specs.Runs.{AfterInputs, RunWrites}
use Rattle.pb_top.specs.Working.{CannotRun, fitting_of}
use Rattle.pb_top.proofs.FinishLemmas.{cannot_run, has_run, names_tasks}
use Rattle.pb_top.proofs.StepLemmas.{stops_map, writes_map}
use Rattle.pb_top.proofs.pools.run_beside.Goals as goal

pub returns-in_err-run : goal.returns-in_err-run
returns-in_err-run g c =
    let b = c.args.prepared in
    let a = b.accepted in
    let name = c.args.name.now in
    let End = RunWrites c.args.pool c.args.traced [] in
    let p = err_from_is_err_and c.from_residual.result c.from_residual.ensures.1 in
    rw (p.1, p.2) (stops_map (CannotRun a b.config b.transform name b.inputs.items c.args.depth c.args.grain) (AfterInputs name c.args.depth c.args.grain End (bare_prog a.program) a.found b.config b.transform b.inputs.items)
    (cannot_run a b.config b.transform name b.inputs.items c.args.depth c.args.grain End) c.in_err-run.field-0.0 c.in_err-run.ensures.refused)

pub finish-requires-clause-order : goal.finish-requires-clause-order
finish-requires-clause-order g c = names_tasks c.args.pool c.in_ok-run.run' c.in_ok-finished.finished.order c.in_ok-finished.ensures.order

pub returns : goal.returns
returns g c =
    let b = c.args.prepared in
    let a = b.accepted in
    let name = c.args.name.now in
    let r = c.in_ok-run.run' in
    writes_map (λ tail. RunWrites c.args.pool c.args.traced tail (fitting_of r)) (λ tail. AfterInputs name c.args.depth c.args.grain (RunWrites c.args.pool c.args.traced tail) (bare_prog a.program) a.found b.config b.transform b.inputs.items)
    (λ tail. has_run a b.config b.transform name b.inputs.items c.args.depth c.args.grain (RunWrites c.args.pool c.args.traced tail) r c.in_ok-run.ensures.found) c.finish.result (c.finish.ensures c.args.pool c.in_ok-finished.ensures.order)
