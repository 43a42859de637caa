use Rattle.std.proofs.Common.{subst}
use Rattle.std.specs.List.{zip}
use Rattle.pb_top.specs.Answer.{RunLine}
use Rattle.pb_top.specs.Runs.{RunWrites, RunsProgram}
use Rattle.pb_top.specs.Working.{Prepares, contents_of, text_in}
use Rattle.pb_top.proofs.work.prepare_texts.Goals as goal

pub returns-clause-prepares : goal.returns-clause-prepares
returns-clause-prepares c =
    subst (λ (l : RunLine). Prepares l.transform c.args.depth c.args.grain c.args.traced (λ pool tail. RunsProgram l.transform c.args.depth c.args.grain (RunWrites pool c.args.traced tail) c.args.program.now (text_in c.args.config) (zip l.inputs (contents_of c.args.texts.now))) c.prepare.result)
    c.line.view_is c.prepare.ensures.prepares
