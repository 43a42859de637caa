use Rattle.std.proofs.Common.{subst}
use Rattle.std.proofs.lemmas.Result.{err_from_is_err_and}
use Rattle.pb_program.specs.Trees.{bare_prog}
use Rattle.pb_demo.specs.Demonstrations.{demo_transform}
use Rattle.pb_top.specs.Demos.{Summarizes, demo_name}
use Rattle.pb_top.specs.Runs.{AfterInputs}
use Rattle.pb_top.specs.Working.{CannotRun, Replies, StopsWith, fitting_of}
use Rattle.pb_top.proofs.FinishLemmas.{cannot_run, has_run}
use Rattle.pb_top.proofs.StepLemmas.{replies_map, stops_map}
use Rattle.pb_top.proofs.demo.demo_inputs.Goals as goal

pub returns-in_err-run : goal.returns-in_err-run
returns-in_err-run g c =
    let a = c.args.a.now in
    let name = demo_transform c.args.which in
    let inputs = c.args.inputs.items in
    let End = Summarizes (demo_name c.args.which) in
    let e = err_from_is_err_and c.from_residual.result c.from_residual.ensures.1 in
    let stops = subst (λ n. StopsWith (CannotRun a c.args.c.now c.args.t n inputs 64 16) c.in_err-run.field-0.0) c.transform_of-name.ensures c.in_err-run.ensures.refused in
    rw (e.1, e.2) (stops_map (CannotRun a c.args.c.now c.args.t name inputs 64 16) (AfterInputs name 64 16 End (bare_prog a.program) a.found c.args.c.now c.args.t inputs)
    (cannot_run a c.args.c.now c.args.t name inputs 64 16 End) c.in_err-run.field-0.0 stops)

pub returns : goal.returns
returns g c =
    let a = c.args.a.now in
    let name = demo_transform c.args.which in
    let inputs = c.args.inputs.items in
    let End = Summarizes (demo_name c.args.which) in
    let r = c.in_ok-run.run' in
    let ends = subst (λ n. Replies (Summarizes n (fitting_of r)) c.summarize.result) c.name_of.ensures c.summarize.ensures in
    replies_map (End (fitting_of r)) (AfterInputs name 64 16 End (bare_prog a.program) a.found c.args.c.now c.args.t inputs)
    (has_run a c.args.c.now c.args.t name inputs 64 16 End r c.in_ok-run.ensures.found) c.summarize.result ends
