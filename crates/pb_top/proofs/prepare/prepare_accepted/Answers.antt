use Rattle.std.proofs.Common.{Ok, subst}
use Rattle.pb_program.specs.Trees.{bare_prog}
use Rattle.pb_top.specs.Runs.{AfterConfig, Configures, RunWrites}
use Rattle.pb_top.specs.Working.{files_of, text_in}
use Rattle.pb_top.proofs.FinishLemmas.{after_step}
use Rattle.pb_top.proofs.prepare.prepare_accepted.Goals as goal

pub returns-clause-prepares : goal.returns-clause-prepares
returns-clause-prepares c =
    let a = c.args.a in
    let p = bare_prog a.program in
    let r = c.args.r.now in
    let files = files_of r.files.now r.texts.now in
    let text = text_in c.args.config in
    let config = c.in_ok-c.c in
    let said = subst (λ q. Configures (bare_prog q) text (Ok config)) c.prog.ensures.program c.in_ok-c.ensures.gives in
    after_step r.transform.now r.depth r.grain r.traced (Configures p text) (λ pool tail. AfterConfig r.transform.now r.depth r.grain (RunWrites pool r.traced tail) p a.found files) config said c.prepare_configured.result c.prepare_configured.ensures.prepares
