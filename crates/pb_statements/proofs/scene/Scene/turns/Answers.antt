use Rattle.std.proofs.Common.{◌≡◌, ◌∙◌, sym, rules, to_z, of_z, w64}
use Rattle.std.proofs.lemmas.Result.{err_from_is_err_and}
use Rattle.pb_statements.proofs.StmtLemmas.{turns_are, turns_high, turns_low}
use Rattle.pb_statements.proofs.scene.Scene.turns.Goals as goal

pub returns-in_err-low-clause-count : goal.returns-in_err-low-clause-count
returns-in_err-low-clause-count g c =
    let p = err_from_is_err_and c.from_residual.result c.from_residual.ensures.1 in
    rw (p.1, p.2) (turns_low _ _ _ _ _ (sym c.value.ensures.value ∙ c.in_err-low.was))

pub returns-in_err-high-clause-count : goal.returns-in_err-high-clause-count
returns-in_err-high-clause-count g c =
    let p = err_from_is_err_and c.from_residual-in_err-high.result c.from_residual-in_err-high.ensures.1 in
    rw (p.1, p.2) (turns_high _ _ _ _ _ _ (sym c.value.ensures.value ∙ c.in_ok-low.was) (sym c.value-2.ensures.value ∙ c.in_err-high.was))

pub returns-clause-count : goal.returns-clause-count
returns-clause-count g c =
    let low : to_z w64 (of_z w64 c.in_ok-low.low) ≡ c.in_ok-low.low = search rules in
    let high : to_z w64 (of_z w64 c.in_ok-high.high) ≡ c.in_ok-high.high = search rules in
    turns_are _ _ _ _ _ _ _ _ _ (sym c.value.ensures.value ∙ c.in_ok-low.was) (sym c.value-2.ensures.value ∙ c.in_ok-high.was) low high c.new.ensures.count c.new.ensures.low
