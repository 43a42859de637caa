use Rattle.std.proofs.Common.{◌≡◌, ◌∙◌, sym, rules, to_z, of_z, w64}
use Rattle.pb_statements.proofs.StmtLemmas.{assign_ok}
use Rattle.pb_statements.proofs.scene.Scene.assign.Goals as goal

pub returns-in-Ok-clause-after : goal.returns-in-Ok-clause-after
returns-in-Ok-clause-after g c =
    let same : to_z w64 (of_z w64 c.in-Ok.n) ≡ c.in-Ok.n = search rules in
    assign_ok _ _ _ _ _ _ (sym c.value.ensures.value ∙ c.in-Ok.is) same ∙ c.assign.ensures.after c.args.self.now
