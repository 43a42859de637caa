use Rattle.pb_linear.specs.Sizes.{sizes_of}
use Rattle.pb_plan.specs.Boxes.{part_box}
use Rattle.pb_plan.proofs.BoxLemmas.{inside, next_box, next_part, next_within}
use Rattle.pb_plan.proofs.boxes.add_over.Goals as goal

pub bounds-views-read : goal.bounds-views-read
bounds-views-read c = inside c.args.matrices.now (sizes_of c.args.s.now) c.args.views.now c.requires.laid c.args.reads.now c.loop-read.read-index c.read-item.result c.loop-read-test.true c.read-item.is c.requires.matrices

pub box_over-requires-clause-within : goal.box_over-requires-clause-within
box_over-requires-clause-within c = next_within c.args.matrices.now (sizes_of c.args.s.now) c.args.views.now c.requires.laid c.args.reads.now c.loop-read.read-index c.read-item.result c.loop-read-test.true c.read-item.is c.requires.matrices c.index-views-read.result c.index-views-read.is c.args.part.now c.requires.boxed

pub loop-read-preserved : goal.loop-read-preserved
loop-read-preserved c =
    next_box c.args.matrices.now (sizes_of c.args.s.now) c.args.views.now c.requires.laid c.args.reads.now c.loop-read.read-index c.read-item.result c.loop-read-test.true c.read-item.is c.requires.matrices (part_box c.args.matrices.now (sizes_of c.args.s.now) c.args.part.now) c.args.boxes.now.items c.loop-read.boxes.items _ c.box_over.result c.loop-read.invariant c.in_ok-push.ensures.items
    (next_part c.args.matrices.now (sizes_of c.args.s.now) c.args.views.now c.requires.laid c.args.reads.now c.loop-read.read-index c.read-item.result c.loop-read-test.true c.read-item.is c.requires.matrices c.index-views-read.result c.index-views-read.is c.args.part.now c.box_over.result c.box_over.ensures.base c.box_over.ensures.rect)
