use Rattle.std.proofs.Common.{◌∙◌, ◌++◌, ap, arith, inl, inr, sym}
use Rattle.std.proofs.lemmas.List.{append-nil}
use Rattle.pb_check.proofs.CutLemmas.{kept_end}
use Rattle.pb_check.proofs.cuts.keep_on.Goals as goal

pub returns-clause-found : goal.returns-clause-found
returns-clause-found c =
    let i = c.loop-out.out-iterator in
    let none = kept_end c.args.matrix i.a.rest.now i.b.rest.items (elim c.in-None.ensures.steps [ inl h ↦ inl h.1.0 | inr h ↦ inr (omega (arith, h.1.0, i.b.rest.ok)) ]) in
    sym (append-nil c.loop-out.boxes.items) ∙ ap (λ l. c.loop-out.boxes.items ++ l) (sym none) ∙ c.loop-out.invariant
