use Rattle.std.proofs.Common.{◌≡◌, ◌∙◌, ap, Err, sym, rules, to_z, of_z, w64}
use Rattle.pb_statements.proofs.StmtLemmas.{placed_err, placed_ok, placed_value}
use Rattle.pb_statements.proofs.scene.Scene.assign_cell.Goals as goal

pub returns-in-Err-clause-after : goal.returns-in-Err-clause-after
returns-in-Err-clause-after g c = placed_err _ _ _ _ _ _ (sym c.place.ensures.value ∙ c.in-Err.is) ∙ ap (λ k. Err k) (sym c.kind.ensures)

pub returns-in-Ok-value-clause-after : goal.returns-in-Ok-value-clause-after
returns-in-Ok-value-clause-after g c =
    let n : to_z w64 (of_z w64 c.in-Ok-value.n) ≡ c.in-Ok-value.n = search rules in
    let i : to_z w64 (of_z w64 c.in-Ok.place.0) ≡ c.in-Ok.place.0 = search rules in
    let j : to_z w64 (of_z w64 c.in-Ok.place.1) ≡ c.in-Ok.place.1 = search rules in
    placed_ok _ _ _ _ _ _ _ _ _ _ (sym c.place.ensures.value ∙ c.in-Ok.is) (sym c.value.ensures.value ∙ c.in-Ok-value.is) i j n ∙ c.put.ensures.after c.args.self.now

pub returns-in-Err-value-clause-after : goal.returns-in-Err-value-clause-after
returns-in-Err-value-clause-after g c = placed_value _ _ _ _ _ _ _ (sym c.place.ensures.value ∙ c.in-Ok.is) (sym c.value.ensures.value ∙ c.in-Err-value.is) ∙ ap (λ k. Err k) (sym c.kind-in-Err-value.ensures)
