use Rattle.std.proofs.Common.{subst}
use Rattle.std.proofs.lemmas.Result.{err_from_is_err_and}
use Rattle.pb_top.specs.Answer.{RunLine, Runs}
use Rattle.pb_top.specs.Runs.{RunWrites}
use Rattle.pb_top.specs.Working.{Continues, Writes, contents_of}
use Rattle.pb_top.proofs.FinishLemmas.{prepared_writes}
use Rattle.pb_top.proofs.work.run_line_beside.Goals as goal

pub returns-in_err-prepared : goal.returns-in_err-prepared
returns-in_err-prepared g c =
    let e = err_from_is_err_and c.from_residual.result c.from_residual.ensures.1 in
    rw (e.1, e.2) (c.in_err-prepared.ensures.prepares c.args.pool)

pub returns : goal.returns
returns g c =
    let d = c.args.depth in
    let grain = c.args.grain in
    let traced = c.args.traced in
    let contents = contents_of c.args.contents.now in
    let line = c.args.line.now in
    let b = c.in_ok-prepared.prepared in
    let went = subst (λ (l : RunLine). Writes (Continues l.transform d grain traced b c.args.pool) c.run_beside.result) c.line.view_is c.run_beside.ensures in
    prepared_writes line.transform d grain traced (λ pool tail. Runs d grain (RunWrites pool traced tail) line contents) b c.args.pool c.run_beside.result c.in_ok-prepared.ensures.prepares went
