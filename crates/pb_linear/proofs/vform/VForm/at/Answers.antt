use Rattle.std.proofs.Common.{◌∙◌, w64, refl}
use Rattle.std.proofs.lemmas.Int.{to_z-of_z}
use Rattle.pb_linear.proofs.Products.{sum_of_three, sum_of_three_fits, sum_of_two_fits}
use Rattle.pb_linear.proofs.vform.VForm.at.Goals as goal

pub overflow_add-result : goal.overflow_add-result
overflow_add-result c = sum_of_two_fits c.term.result c.term-2.result c.term.ensures.near c.term-2.ensures.near

pub overflow_add-result-2 : goal.overflow_add-result-2
overflow_add-result-2 c =
    sum_of_three_fits c.at.result c.term.result c.term-2.result c.at.ensures.near c.term.ensures.near c.term-2.ensures.near

pub returns : goal.returns
returns c =
    sum_of_three c.at.result c.term.result c.term-2.result c.at.ensures.near c.term.ensures.near c.term-2.ensures.near ∙ rw (c.at.ensures.value, c.term.ensures.value, c.term-2.ensures.value, to_z-of_z w64 c.args.x c.ranges.x, to_z-of_z w64 c.args.y c.ranges.y) refl
