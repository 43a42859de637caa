use Rattle.pb_values.proofs.ViewLemmas.{region_small}
use Rattle.pb_values.proofs.view.View.region.Goals as goal

pub invariant_of-result : goal.invariant_of-result
invariant_of-result c = record {
  small = region_small c.args.self.now.first c.args.self.now.step_x c.args.self.now.step_y c.args.r.now.x0 c.args.r.now.x1 c.args.self.now.shape.w
      c.args.r.now.y0 c.args.r.now.y1 c.args.self.now.shape.h _ c.requires.across c.requires.wide c.requires.down c.requires.tall c.args.self.now.small;
}
