use Rattle.std.proofs.Common.{sym, subst, pos}
use Rattle.pb_views.specs.Windows.{IsRect, shown_by}
use Rattle.pb_views.proofs.window.Window.rect.Goals as goal

pub returns-in-Cell : goal.returns-in-Cell
returns-in-Cell c =
    let m = c.args.matrix.now in
    subst (λ v. IsRect (shown_by c.args.self.now m c.args.x c.args.y v) c.cell_rect.result) (sym c.in-Cell.is) (c.cell_rect.ensures (pos m.shape.w) (pos m.shape.h))

pub returns-in-Region : goal.returns-in-Region
returns-in-Region c =
    let m = c.args.matrix.now in
    subst (λ v. IsRect (shown_by c.args.self.now m c.args.x c.args.y v) c.region_rect.result) (sym c.in-Region.is) (c.region_rect.ensures (pos m.shape.w) (pos m.shape.h))
