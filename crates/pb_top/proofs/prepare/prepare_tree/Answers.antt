use Rattle.std.proofs.Common.{[], Err, inl, inr, subst}
use Rattle.std.proofs.lemmas.Result.{err_from_is_err_and}
use Rattle.pb_program.specs.Trees.{bare_prog}
use Rattle.pb_syntax.specs.Trees.{bare_text}
use Rattle.pb_top.specs.Runs.{AfterAccept, RunWrites}
use Rattle.pb_top.specs.Steps.{Accepts, AfterResolved}
use Rattle.pb_top.specs.Working.{Prepares, files_of, text_in}
use Rattle.pb_top.proofs.StepLemmas.{stops_map}
use Rattle.pb_top.proofs.FinishLemmas.{prepares_map}
use Rattle.pb_top.proofs.prepare.prepare_tree.Goals as goal

pub returns-in_err-found-clause-prepares : goal.returns-in_err-found-clause-prepares
returns-in_err-found-clause-prepares c =
    let r = c.args.r.now in
    let files = files_of r.files.now r.texts.now in
    let p = bare_prog c.in_ok-program.program in
    let e = err_from_is_err_and c.from_residual-in_err-found.result c.from_residual-in_err-found.ensures.1 in
    rw (e.1, e.2) (λ pool. stops_map (λ reply. Accepts p (Err reply)) (AfterResolved (λ tree q found. AfterAccept r.transform.now r.depth r.grain (RunWrites pool r.traced []) q found (text_in c.args.config) files) (bare_text c.args.tree.now))
    (λ reply stop. inl (p, c.in_ok-program.ensures.gives, inr stop)) c.in_err-found.field-0.0 c.in_err-found.ensures.gives)

pub returns-clause-prepares : goal.returns-clause-prepares
returns-clause-prepares c =
    let r = c.args.r.now in
    let files = files_of r.files.now r.texts.now in
    let text = text_in c.args.config in
    let p = bare_prog c.in_ok-program.program in
    let found = c.in_ok-found.found.items in
    let name = r.transform.now in
    let of_program = subst (λ q. Prepares name r.depth r.grain r.traced (λ pool tail. AfterAccept name r.depth r.grain (RunWrites pool r.traced tail) (bare_prog q) c.new.result.found text files) c.prepare_accepted.result) c.new.ensures.program c.prepare_accepted.ensures.prepares in
    let of_both = subst (λ f. Prepares name r.depth r.grain r.traced (λ pool tail. AfterAccept name r.depth r.grain (RunWrites pool r.traced tail) p f text files) c.prepare_accepted.result) c.new.ensures.found of_program in
    prepares_map name r.depth r.grain r.traced (λ pool tail. AfterAccept name r.depth r.grain (RunWrites pool r.traced tail) p found text files)
    (λ pool tail. AfterResolved (λ tree q f. AfterAccept name r.depth r.grain (RunWrites pool r.traced tail) q f text files) (bare_text c.args.tree.now))
    (λ pool tail reply more. inl (p, c.in_ok-program.ensures.gives, inl (found, c.in_ok-found.ensures.gives, more))) c.prepare_accepted.result of_both
