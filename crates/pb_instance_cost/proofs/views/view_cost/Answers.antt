use mir.Syntax.{w128}
use Rattle.std.proofs.Common.{◌∙◌, refl}
use Rattle.std.proofs.lemmas.Int.{to_z-of_z}
use Rattle.pb_linear.specs.Sizes.{sizes_of}
use Rattle.pb_instance_cost.proofs.RowLemmas.{near_across, near_down, next_row, side_h, side_w}
use Rattle.pb_instance_cost.proofs.views.view_cost.Goals as goal

pub width-across-requires-clause-side : goal.width-across-requires-clause-side
width-across-requires-clause-side c = side_w c.args.matrices.now (sizes_of c.args.s.now) c.args.rect.now c.args.read.now c.requires.can c.index-matrices-read.result c.index-matrices-read.is

pub height-down-requires-clause-side : goal.height-down-requires-clause-side
height-down-requires-clause-side c = side_h c.args.matrices.now (sizes_of c.args.s.now) c.args.rect.now c.args.read.now c.requires.can c.index-matrices-read.result c.index-matrices-read.is

pub along-requires-clause-near : goal.along-requires-clause-near
along-requires-clause-near c =
    near_across c.args.matrices.now (sizes_of c.args.s.now) c.args.rect.now c.args.read.now c.requires.can c.index-matrices-read.result c.index-matrices-read.is c.width-across.result c.height-down.result c.width-across.ensures c.height-down.ensures c.loop-y.y c.loop-y.auto.y c.loop-y-test.true (c.if-not-is_short.ensures.sides refl)

pub along-requires-in-loop-y-clause-near : goal.along-requires-in-loop-y-clause-near
along-requires-in-loop-y-clause-near c =
    near_down c.args.matrices.now (sizes_of c.args.s.now) c.args.rect.now c.args.read.now c.requires.can c.index-matrices-read.result c.index-matrices-read.is c.width-across.result c.height-down.result c.width-across.ensures c.height-down.ensures c.loop-y.y c.loop-y.auto.y c.loop-y-test.true (c.if-not-is_short.ensures.sides refl)

pub loop-y-preserved : goal.loop-y-preserved
loop-y-preserved c =
    next_row c.args.matrices.now (sizes_of c.args.s.now) c.args.rect.now c.args.read.now c.requires.can c.index-matrices-read.result c.index-matrices-read.is c.width-across.result c.height-down.result c.width-across.ensures c.height-down.ensures c.loop-y.y c.loop-y.auto.y c.loop-y-test.true
    c.along.result c.along-in-loop-y.result c.along.ensures.first c.along.ensures.step c.along-in-loop-y.ensures.first c.along-in-loop-y.ensures.step
    c.loop-y.cost c.in_ok-unsigned.field-0 c.in_ok-cost.cost c.sum_of_products-row.result c.loop-y.invariant c.sum_of_products-row.ensures (c.in_ok-unsigned.ensures ∙ to_z-of_z w128 c.sum_of_products-row.result (record { sfits = c.sum_of_products-row.type_inv })) c.in_ok-cost.ensures
