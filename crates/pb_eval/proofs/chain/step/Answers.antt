use Rattle.std.proofs.Common.{◌≡◌, ◌∙◌, sym, ap, rules, to_z, of_z, w64, None}
use Rattle.pb_numbers.specs.Deciding.{decided}
use Rattle.pb_eval.proofs.TermLemmas.{operated_by, trapped_by}
use Rattle.pb_eval.proofs.chain.step.Goals as goal

pub returns-in-Ok-clause-value : goal.returns-in-Ok-clause-value
returns-in-Ok-clause-value g c =
    let left : to_z w64 (of_z w64 c.args.left) ≡ c.args.left = search rules in
    let right : to_z w64 (of_z w64 c.in-Ok.right) ≡ c.in-Ok.right = search rules in
    let none : decided c.args.next.now.0 c.args.left ≡ None = ap (decided c.args.next.now.0) (sym left) ∙ sym c.decided.ensures ∙ c.in_default.is in
    operated_by c.args.next.now.0 _ _ _ _ _ _ left right c.operate.ensures (sym c.term.ensures.value ∙ c.in-Ok.is) none

pub returns-in-Err-clause-value : goal.returns-in-Err-clause-value
returns-in-Err-clause-value g c =
    let left : to_z w64 (of_z w64 c.args.left) ≡ c.args.left = search rules in
    let none : decided c.args.next.now.0 c.args.left ≡ None = ap (decided c.args.next.now.0) (sym left) ∙ sym c.decided.ensures ∙ c.in_default.is in
    trapped_by c.args.next.now.0 _ _ _ (sym c.term.ensures.value ∙ c.in-Err.is) none
