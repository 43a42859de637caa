use Rattle.std.proofs.Common.{◌-◌}
use Rattle.pb_views.specs.Hulls.{hull_of, joined, shown_at}
use Rattle.pb_views.proofs.window.Window.hull.Goals as goal

pub returns : goal.returns
unfolding hull_of
returns c =
    let part = c.args.part.now in
    let area = shown_at c.args.self.now c.args.matrix.now part in
    c.join-3.ensures (joined (area part.x0 part.y0) (area (part.x1 - 1) part.y0)) (joined (area part.x0 (part.y1 - 1)) (area (part.x1 - 1) (part.y1 - 1)))
    (c.join.ensures (area part.x0 part.y0) (area (part.x1 - 1) part.y0) c.rect-first.ensures c.rect-second.ensures)
    (c.join-2.ensures (area part.x0 (part.y1 - 1)) (area (part.x1 - 1) (part.y1 - 1)) c.rect-third.ensures c.rect-fourth.ensures)
