use Rattle.pb_linear.proofs.Products.{machine_place, near_place}
use Rattle.pb_linear.proofs.vform.term.Goals as goal

pub returns : goal.returns
returns c =
    let same = machine_place c.args.coefficient.now c.args.variable.now c.requires.coefficient c.requires.variable in
    record { value = same; near = rw same (near_place c.args.coefficient.now c.args.variable.now c.requires.coefficient c.requires.variable) }
