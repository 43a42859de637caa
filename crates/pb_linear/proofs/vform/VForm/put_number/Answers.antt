use Rattle.std.proofs.Common.{arith, rules}
use Rattle.std.proofs.lemmas.Int.{ints}
use Rattle.pb_linear.proofs.Products.{near_multiple}
use Rattle.pb_linear.proofs.vform.VForm.put_number.Goals as goal

pub overflow_add-result : goal.overflow_add-result
overflow_add-result c = omega (arith, ints, near_multiple c.args.self.now.x c.args.x.now (search rules) c.requires.x)

pub overflow_add-result-2 : goal.overflow_add-result-2
overflow_add-result-2 c =
    let v = c.args.self.now in
    omega (arith, ints, near_multiple v.x c.args.x.now (search rules) c.requires.x, near_multiple v.y c.args.y.now (search rules) c.requires.y)

pub returns : goal.returns
returns c =
    let v = c.args.self.now in
    omega (arith, ints, near_multiple v.x c.args.x.now (search rules) c.requires.x, near_multiple v.y c.args.y.now (search rules) c.requires.y)
