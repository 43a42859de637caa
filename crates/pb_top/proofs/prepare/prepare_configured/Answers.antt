use Rattle.std.proofs.Common.{Err, length, sym, subst}
use Rattle.std.proofs.lemmas.Result.{err_from_is_err_and}
use Rattle.pb_program.specs.Trees.{bare_prog}
use Rattle.pb_entry.specs.Entering.{Enters}
use Rattle.pb_top.specs.Runs.{AfterName, FindsTransform, RunWrites}
use Rattle.pb_top.specs.Working.{StopsWith, files_of}
use Rattle.pb_top.proofs.InputLemmas.{files_length}
use Rattle.pb_top.proofs.FinishLemmas.{after_step, step_stops}
use Rattle.pb_top.proofs.prepare.prepare_configured.Goals as goal

pub returns-in_err-t-clause-prepares : goal.returns-in_err-t-clause-prepares
returns-in_err-t-clause-prepares c =
    let p = bare_prog c.args.a.program in
    let r = c.args.r.now in
    let files = files_of r.files.now r.texts.now in
    let same = files_length r.files.now r.texts.now c.requires.texts in
    let e = err_from_is_err_and c.from_residual.result c.from_residual.ensures.1 in
    rw (e.1, e.2) (step_stops r.transform.now r.depth r.grain r.traced (FindsTransform p r.transform.now (length files)) (λ pool tail number. AfterName r.transform.now r.depth r.grain (RunWrites pool r.traced tail) p c.args.a.found c.args.c number files)
    c.in_err-t.field-0.0 (subst (λ n. StopsWith (λ reply. FindsTransform p r.transform.now n (Err reply)) c.in_err-t.field-0.0) (sym same) c.in_err-t.ensures))

pub returns-clause-prepares : goal.returns-clause-prepares
returns-clause-prepares c =
    let p = bare_prog c.args.a.program in
    let r = c.args.r.now in
    let files = files_of r.files.now r.texts.now in
    let same = files_length r.files.now r.texts.now c.requires.texts in
    after_step r.transform.now r.depth r.grain r.traced (FindsTransform p r.transform.now (length files)) (λ pool tail number. AfterName r.transform.now r.depth r.grain (RunWrites pool r.traced tail) p c.args.a.found c.args.c number files)
    c.in_ok-t.t (subst (λ n. Enters p r.transform.now n c.in_ok-t.t) (sym same) c.in_ok-t.ensures) c.prepare_inputs.result c.prepare_inputs.ensures.prepares
