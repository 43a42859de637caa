use Rattle.pb_linear.specs.Sizes.{sizes_of}
use Rattle.pb_plan.specs.Boxes.{whole_box}
use Rattle.pb_plan.proofs.BoxLemmas.{inside, next_box, next_whole, next_at}
use Rattle.pb_plan.proofs.boxes.add_whole.Goals as goal

pub bounds-views-read : goal.bounds-views-read
bounds-views-read c = inside c.args.matrices.now (sizes_of c.args.s.now) c.args.views.now c.requires.laid c.args.reads.now c.loop-read.read-index c.read-item.result c.loop-read-test.true c.read-item.is c.requires.matrices

pub box_of-requires-clause-within : goal.box_of-requires-clause-within
box_of-requires-clause-within c = next_at c.args.matrices.now (sizes_of c.args.s.now) c.args.views.now c.requires.laid c.args.reads.now c.loop-read.read-index c.read-item.result c.loop-read-test.true c.read-item.is c.requires.matrices c.index-views-read.result c.index-views-read.is c.requires.readable

pub loop-read-preserved : goal.loop-read-preserved
loop-read-preserved c =
    next_box c.args.matrices.now (sizes_of c.args.s.now) c.args.views.now c.requires.laid c.args.reads.now c.loop-read.read-index c.read-item.result c.loop-read-test.true c.read-item.is c.requires.matrices (whole_box c.args.matrices.now (sizes_of c.args.s.now)) c.args.boxes.now.items c.loop-read.boxes.items _ c.box_of.result c.loop-read.invariant c.in_ok-push.ensures.items
    (next_whole c.args.matrices.now (sizes_of c.args.s.now) c.args.views.now c.requires.laid c.args.reads.now c.loop-read.read-index c.read-item.result c.loop-read-test.true c.read-item.is c.requires.matrices c.index-views-read.result c.index-views-read.is c.box_of.result c.box_of.ensures.base c.box_of.ensures.rect)
