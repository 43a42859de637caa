use Rattle.std.proofs.Common.{◌∙◌, ◌+ℤ◌, ◌*ℤ◌, w64, arith}
use Rattle.std.proofs.lemmas.Int.{fits_signed_from_abs, ints}
use Rattle.pb_numbers.proofs.SmallLemmas.{back, pair_back, pair_small, product_back, total_back, total_small}
use Rattle.pb_numbers.proofs.small.plus_small_products.Goals as goal

pub overflow_add-result : goal.overflow_add-result
overflow_add-result c =
    let r = c.requires in
    rw (product_back c.args.a c.args.b r.a r.b, product_back c.args.c c.args.d r.c r.d)
    (fits_signed_from_abs w64 (c.args.a *ℤ c.args.b +ℤ c.args.c *ℤ c.args.d) (omega (arith, pair_small c.args.a c.args.b c.args.c c.args.d r.a r.b r.c r.d)))

pub overflow_add-result-2 : goal.overflow_add-result-2
overflow_add-result-2 c =
    let r = c.requires in
    rw (pair_back c.args.a c.args.b c.args.c c.args.d r.a r.b r.c r.d, back c.args.total (omega (arith, r.total)))
    (fits_signed_from_abs w64 (c.args.total +ℤ (c.args.a *ℤ c.args.b +ℤ c.args.c *ℤ c.args.d)) (omega (arith, r.total, total_small c.args.a c.args.b c.args.c c.args.d r.a r.b r.c r.d c.args.total r.total)))

pub returns-clause-sum : goal.returns-clause-sum
returns-clause-sum c =
    let r = c.requires in
    total_back c.args.a c.args.b c.args.c c.args.d r.a r.b r.c r.d c.args.total r.total ∙ omega (arith, ints)

pub returns-clause-small : goal.returns-clause-small
returns-clause-small c =
    let r = c.requires in
    rw (total_back c.args.a c.args.b c.args.c c.args.d r.a r.b r.c r.d c.args.total r.total) (total_small c.args.a c.args.b c.args.c c.args.d r.a r.b r.c r.d c.args.total r.total)
