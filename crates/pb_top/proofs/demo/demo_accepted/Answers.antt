use Rattle.std.proofs.Common.{◌≡◌, Err, Ok, Some, arith, inl, inr, length, subst}
use Rattle.std.proofs.lemmas.Result.{err_from_is_err_and}
use Rattle.pb_program.specs.Trees.{bare_prog}
use Rattle.pb_entry.specs.Entering.{Enters}
use Rattle.pb_demo.specs.Demonstrations.{demo_config, demo_transform}
use Rattle.pb_top.specs.Demos.{Summarizes, demo_name}
use Rattle.pb_top.specs.Runs.{AfterAcceptWith, AfterInputs, Configures, FindsTransform}
use Rattle.pb_top.specs.Working.{StopsWith}
use Rattle.pb_top.proofs.StepLemmas.{replies_map, stops_map}
use Rattle.pb_top.proofs.demo.demo_accepted.Goals as goal

pub returns-in_err-c : goal.returns-in_err-c
returns-in_err-c g c =
    let a = c.args.a.now in
    let p = bare_prog a.program in
    let which = c.args.which in
    let stop = c.in_err-c.field-0.0 in
    let of_program = subst (λ q. StopsWith (λ reply. Configures (bare_prog q) (Some c.config_of.result.now) (Err reply)) stop) c.prog.ensures.program c.in_err-c.ensures.gives in
    let of_text = subst (λ t. StopsWith (λ reply. Configures p (Some t) (Err reply)) stop) c.config_of.ensures of_program in
    let e = err_from_is_err_and c.from_residual.result c.from_residual.ensures.1 in
    rw (e.1, e.2) (stops_map (λ reply. Configures p (Some (demo_config which)) (Err reply)) (AfterAcceptWith (demo_transform which) 64 16 (Summarizes (demo_name which)) p a.found (Some (demo_config which)) c.args.inputs.items)
    (λ reply s. inr s) stop of_text)

pub returns-in_err-t : goal.returns-in_err-t
returns-in_err-t g c =
    let a = c.args.a.now in
    let p = bare_prog a.program in
    let which = c.args.which in
    let given = length c.args.inputs.items in
    let stop = c.in_err-t.field-0.0 in
    let of_program = subst (λ q. Configures (bare_prog q) (Some c.config_of.result.now) (Ok c.in_ok-c.c)) c.prog.ensures.program c.in_ok-c.ensures.gives in
    let said = subst (λ t. Configures p (Some t) (Ok c.in_ok-c.c)) c.config_of.ensures of_program in
    let count : c.len.result ≡ given = omega (arith, c.len.ensures, c.args.inputs.ok.0) in
    let counted = subst (λ k. StopsWith (λ reply. FindsTransform p c.transform_of.result.now k (Err reply)) stop) count c.in_err-t.ensures in
    let none = subst (λ n. StopsWith (λ reply. FindsTransform p n given (Err reply)) stop) c.transform_of.ensures counted in
    let e = err_from_is_err_and c.from_residual-in_err-t.result c.from_residual-in_err-t.ensures.1 in
    rw (e.1, e.2) (stops_map (λ reply. FindsTransform p (demo_transform which) given (Err reply)) (AfterAcceptWith (demo_transform which) 64 16 (Summarizes (demo_name which)) p a.found (Some (demo_config which)) c.args.inputs.items)
    (λ reply s. inl (c.in_ok-c.c, said, inr s)) stop none)

pub returns : goal.returns
returns g c =
    let a = c.args.a.now in
    let p = bare_prog a.program in
    let which = c.args.which in
    let inputs = c.args.inputs.items in
    let End = Summarizes (demo_name which) in
    let of_program = subst (λ q. Configures (bare_prog q) (Some c.config_of.result.now) (Ok c.in_ok-c.c)) c.prog.ensures.program c.in_ok-c.ensures.gives in
    let said = subst (λ t. Configures p (Some t) (Ok c.in_ok-c.c)) c.config_of.ensures of_program in
    let count : c.len.result ≡ length inputs = omega (arith, c.len.ensures, c.args.inputs.ok.0) in
    let counted = subst (λ k. Enters p c.transform_of.result.now k c.in_ok-t.t) count c.in_ok-t.ensures in
    let enters = subst (λ n. Enters p n (length inputs) c.in_ok-t.t) c.transform_of.ensures counted in
    replies_map (AfterInputs (demo_transform which) 64 16 End p a.found c.in_ok-c.c c.in_ok-t.t inputs) (AfterAcceptWith (demo_transform which) 64 16 End p a.found (Some (demo_config which)) inputs)
    (λ reply more. inl (c.in_ok-c.c, said, inl (c.in_ok-t.t, enters, more))) c.demo_inputs.result c.demo_inputs.ensures
