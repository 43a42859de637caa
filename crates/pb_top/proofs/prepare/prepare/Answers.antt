use Rattle.pb_syntax.specs.Trees.{bare_text}
use Rattle.pb_top.specs.Runs.{AfterAccept, RunWrites}
use Rattle.pb_top.specs.Steps.{AfterResolved, Reads}
use Rattle.pb_top.specs.Working.{files_of, text_in}
use Rattle.pb_top.proofs.FinishLemmas.{after_step}
use Rattle.pb_top.proofs.prepare.prepare.Goals as goal

pub returns-clause-prepares : goal.returns-clause-prepares
returns-clause-prepares c =
    let r = c.args.r.now in
    let files = files_of r.files.now r.texts.now in
    after_step r.transform.now r.depth r.grain r.traced (Reads c.args.program.now)
    (λ pool tail. AfterResolved (λ tree q found. AfterAccept r.transform.now r.depth r.grain (RunWrites pool r.traced tail) q found (text_in c.args.config) files))
    (bare_text c.in_ok-tree.tree) c.in_ok-tree.ensures c.prepare_tree.result c.prepare_tree.ensures.prepares
