use Rattle.std.proofs.Common.{◌≡◌, w64, to_z, of_z, arith}
use Rattle.std.proofs.lemmas.Int.{to_z-of_z}
use Rattle.std.proofs.lemmas.Grind.{common_steps}
use Rattle.pb_matrix.proofs.QuickLemmas.{number_word}
use Rattle.pb_matrix.proofs.read.next_number.Goals as goal

pub returns-in-Some-clause-numbers : goal.returns-in-Some-clause-numbers
returns-in-Some-clause-numbers c =
    let number : to_z w64 (of_z w64 c.in-Some.number) ≡ c.in-Some.number = grind (arith, common_steps, to_z-of_z) in
    rw number (number_word c.args.text.now c.in-Some.after.now c.in-Some.number c.in-Some.ensures.number c.in-Some.ensures.after)
