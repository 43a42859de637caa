use Rattle.std.proofs.Common.{◌≡◌, false, get_or, arith}
use Rattle.std.specs.Prelude.{◌==◌}
use Rattle.std.proofs.lemmas.Bool.Decides.{nat_tests}
use Rattle.std.proofs.lemmas.Int.{to_z-of_z}
use Rattle.std.proofs.lemmas.Grind.{common_steps}
use Rattle.pb_matrix.proofs.QuickLemmas.{minus_number, plain_after, plain_number}
use Rattle.pb_matrix.proofs.quick.quick_number.Goals as goal

pub returns-clause-number : goal.returns-clause-number
returns-clause-number c =
    let said = c.in_ok-value.ensures.value in
    let other : get_or c.args.text.now 0 0 == 45 ≡ false = grind (arith, nat_tests, c.if-minus.false) in
    plain_number c.args.text.now c.in_ok-value.value _ (rw other at said) c.in_ok-value.ensures.most (grind (arith, common_steps, to_z-of_z))

pub returns-clause-after : goal.returns-clause-after
returns-clause-after c =
    let said = c.in_ok-value.ensures.after in
    let other : get_or c.args.text.now 0 0 == 45 ≡ false = grind (arith, nat_tests, c.if-minus.false) in
    plain_after c.args.text.now _ (rw other at said)

pub returns-then-minus-clause-number : goal.returns-then-minus-clause-number
returns-then-minus-clause-number c =
    let said = c.in_ok-value.ensures.value in
    minus_number c.args.text.now c.in_ok-value.value _ (grind (arith, nat_tests)) (rw c.if-minus.true at said) (grind (arith, common_steps, to_z-of_z))
