use Rattle.std.proofs.Common.{map, string_bytes, subst, sym}
use Rattle.pb_top.specs.Answer.{Runs, WorkWrites}
use Rattle.pb_top.specs.Demos.{DemoAnswers}
use Rattle.pb_top.specs.Runs.{RunWrites}
use Rattle.pb_top.specs.Working.{Writes, contents_of}
use Rattle.pb_top.proofs.WorkLemmas.{writes_alone}
use Rattle.pb_top.proofs.work.answer_beside.Goals as goal

pub returns-in-Demo : goal.returns-in-Demo
returns-in-Demo g c =
    let words = map string_bytes c.args.others.now in
    subst (λ a. Writes (λ tail. WorkWrites a words tail (contents_of c.args.contents.now)) c.demo.result) (sym c.in-Demo.is)
    (writes_alone (DemoAnswers c.in-Demo.seed c.in-Demo.size) c.demo.result c.demo.ensures)

pub returns-in-Run : goal.returns-in-Run
returns-in-Run g c =
    let words = map string_bytes c.args.others.now in
    let contents = contents_of c.args.contents.now in
    let run = c.in-Run in
    subst (λ a. Writes (λ tail. WorkWrites a words tail contents) c.run_line_beside.result) (sym run.is)
    (subst (λ l. Writes (λ tail. Runs run.depth run.grain (RunWrites run.pool run.trace tail) l contents) c.run_line_beside.result) c.read_run.ensures c.run_line_beside.ensures)
