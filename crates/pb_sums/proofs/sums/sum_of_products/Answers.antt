use Rattle.std.proofs.Common.{◌∙◌, arith}
use Rattle.std.proofs.lemmas.Int.{ints}
use Rattle.pb_sums.proofs.SumLemmas.{product_is, sum_is, three_are, three_fit}
use Rattle.pb_sums.proofs.sums.sum_of_products.Goals as goal

pub overflow_add-result : goal.overflow_add-result
overflow_add-result c = omega (arith, ints, c.times.ensures.near, c.times-2.ensures.near)

pub overflow_add-result-2 : goal.overflow_add-result-2
overflow_add-result-2 c = three_fit c.times.result c.times-2.result c.times-3.result c.times.ensures.near c.times-2.ensures.near c.times-3.ensures.near

pub returns : goal.returns
returns c =
    let a = c.args.a.now in
    let b = c.args.b.now in
    three_are c.times.result c.times-2.result c.times-3.result c.times.ensures.near c.times-2.ensures.near c.times-3.ensures.near
    ∙ sum_is a b c.args.places c.sum_of_places.result c.sum_of_squares.result c.product-3.result c.product.result c.product-2.result c.product-4.result c.times.result c.times-2.result c.times-3.result
    (product_is a.first b.first c.product-3.result a.small_first b.small_first c.product-3.ensures.value) (product_is a.first b.step c.product.result a.small_first b.small_step c.product.ensures.value) (product_is a.step b.first c.product-2.result a.small_step b.small_first c.product-2.ensures.value) (product_is a.step b.step c.product-4.result a.small_step b.small_step c.product-4.ensures.value)
    c.sum_of_places.ensures.value c.sum_of_squares.ensures.value c.product-3.ensures.near c.product.ensures.near c.product-2.ensures.near c.product-4.ensures.near c.times.ensures.value c.times-2.ensures.value c.times-3.ensures.value
