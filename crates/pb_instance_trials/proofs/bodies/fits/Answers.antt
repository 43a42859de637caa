use Rattle.std.proofs.Common.{◌∙◌, ap}
use Rattle.pb_linear.specs.Sizes.{sizes_of}
use Rattle.pb_instance_trials.proofs.BodyLemmas.{cell_fits, two, whole_fits}
use Rattle.pb_instance_trials.proofs.bodies.fits.Goals as goal

pub returns-in-Cell : goal.returns-in-Cell
returns-in-Cell c = λ t k. cell_fits c.args.matrices.now (sizes_of c.args.s.now) k c.args.read.now c.index-matrices-read.result c.args.view.now c.if-read-matrices.false c.index-matrices-read.is c.in-Cell.is (c.has_sides.ensures t)

pub returns-in-Whole : goal.returns-in-Whole
returns-in-Whole c = λ t k. whole_fits c.args.matrices.now (sizes_of c.args.s.now) k c.args.read.now c.index-matrices-read.result c.args.view.now c.if-read-matrices.false c.index-matrices-read.is c.in-Whole.is
    (c.has_sides-in-Whole.ensures t ∙ two _ _ _ _ (ap (λ z. z.w) c.shape_of-shape.ensures) (ap (λ z. z.h) c.shape_of-shape.ensures))
