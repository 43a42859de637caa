use Rattle.std.proofs.Common.{Err, Some, inl, inr, subst}
use Rattle.std.proofs.lemmas.Result.{err_from_is_err_and}
use Rattle.pb_program.specs.Trees.{bare_prog}
use Rattle.pb_syntax.specs.Trees.{bare_text}
use Rattle.pb_demo.specs.Demonstrations.{demo_config, demo_transform}
use Rattle.pb_top.specs.Demos.{Summarizes, demo_name}
use Rattle.pb_top.specs.Runs.{AfterAcceptWith}
use Rattle.pb_top.specs.Steps.{Accepts, AfterResolved, OfProgram}
use Rattle.pb_top.specs.Working.{Replies}
use Rattle.pb_top.proofs.StepLemmas.{replies_map, stops_map}
use Rattle.pb_top.proofs.demo.demo_resolved.Goals as goal

pub returns-in_err-found : goal.returns-in_err-found
returns-in_err-found g c =
    let which = c.args.which in
    let Next : OfProgram = λ tree q found. AfterAcceptWith (demo_transform which) 64 16 (Summarizes (demo_name which)) q found (Some (demo_config which)) c.args.inputs.items in
    let p = bare_prog c.in_ok-program.program in
    let e = err_from_is_err_and c.from_residual-in_err-found.result c.from_residual-in_err-found.ensures.1 in
    rw (e.1, e.2) (stops_map (λ reply. Accepts p (Err reply)) (AfterResolved Next (bare_text c.args.tree.now)) (λ reply stop. inl (p, c.in_ok-program.ensures.gives, inr stop)) c.in_err-found.field-0.0 c.in_err-found.ensures.gives)

pub returns : goal.returns
returns g c =
    let which = c.args.which in
    let Next : OfProgram = λ tree q found. AfterAcceptWith (demo_transform which) 64 16 (Summarizes (demo_name which)) q found (Some (demo_config which)) c.args.inputs.items in
    let tree = bare_text c.args.tree.now in
    let p = bare_prog c.in_ok-program.program in
    let found = c.in_ok-found.found.items in
    let of_program = subst (λ q. Replies (Next tree (bare_prog q) c.new-accepted.result.found) c.demo_accepted.result) c.new-accepted.ensures.program c.demo_accepted.ensures in
    let of_both = subst (λ f. Replies (Next tree p f) c.demo_accepted.result) c.new-accepted.ensures.found of_program in
    replies_map (Next tree p found) (AfterResolved Next tree) (λ reply more. inl (p, c.in_ok-program.ensures.gives, inl (found, c.in_ok-found.ensures.gives, more))) c.demo_accepted.result of_both
