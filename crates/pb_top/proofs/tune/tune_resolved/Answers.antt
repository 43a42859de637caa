use Rattle.std.proofs.Common.{[], Err, inl, inr, subst}
use Rattle.std.proofs.lemmas.Result.{err_from_is_err_and}
use Rattle.pb_program.specs.Trees.{bare_prog}
use Rattle.pb_syntax.specs.Trees.{bare_text}
use Rattle.pb_top.specs.Steps.{Accepts, AfterResolved}
use Rattle.pb_top.specs.Tunes.{Tunes}
use Rattle.pb_top.specs.Working.{Replies}
use Rattle.pb_top.proofs.StepLemmas.{replies_map, stops_map}
use Rattle.pb_top.proofs.tune.tune_resolved.Goals as goal

pub returns-in_err-found : goal.returns-in_err-found
returns-in_err-found c =
    let p = bare_prog c.in_ok-program.program in
    let e = err_from_is_err_and c.from_residual-in_err-found.result c.from_residual-in_err-found.ensures.1 in
    rw (e.1, e.2) (stops_map (λ reply. Accepts p (Err reply)) (AfterResolved (Tunes c.args.name.now c.args.up_to) (bare_text c.args.tree.now)) (λ reply stop. inl (p, c.in_ok-program.ensures.gives, inr stop)) c.in_err-found.field-0.0 c.in_err-found.ensures.gives)

pub returns : goal.returns
returns c =
    let tree = bare_text c.args.tree.now in
    let p = bare_prog c.in_ok-program.program in
    let found = c.in_ok-found.found.items in
    let name = c.args.name.now in
    let of_program = subst (λ q. Replies (Tunes name c.args.up_to [] (bare_prog q) c.new-accepted.result.found) c.tune_accepted.result) c.new-accepted.ensures.program c.tune_accepted.ensures in
    let of_both = subst (λ f. Replies (Tunes name c.args.up_to [] p f) c.tune_accepted.result) c.new-accepted.ensures.found of_program in
    replies_map (Tunes name c.args.up_to [] p found) (AfterResolved (Tunes name c.args.up_to) tree) (λ reply more. inl (p, c.in_ok-program.ensures.gives, inl (found, c.in_ok-found.ensures.gives, more))) c.tune_accepted.result of_both
