use Rattle.std.proofs.Common.{arith}
use Rattle.std.proofs.lemmas.Int.{ints}
use Rattle.pb_linear.proofs.Products.{machine_quotient, near_quotient}
use Rattle.pb_linear.proofs.form.plus_term.Goals as goal

pub overflow_add-result : goal.overflow_add-result
overflow_add-result c =
    omega (arith, ints, machine_quotient c.args.coefficient.now c.args.quotient c.requires.coefficient c.requires.quotient, near_quotient c.args.coefficient.now c.args.quotient c.requires.coefficient c.requires.quotient)

pub returns : goal.returns
returns c =
    let product = machine_quotient c.args.coefficient.now c.args.quotient c.requires.coefficient c.requires.quotient in
    let near = near_quotient c.args.coefficient.now c.args.quotient c.requires.coefficient c.requires.quotient in
    record { value = omega (arith, ints); near = omega (arith, ints) }
