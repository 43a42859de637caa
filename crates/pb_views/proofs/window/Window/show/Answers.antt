use Rattle.std.proofs.Common.{sym, subst, pos}
use Rattle.pb_region.specs.Within.{IsWithin}
use Rattle.pb_views.specs.Windows.{IsShown, shown_by}
use Rattle.pb_views.proofs.CellLemmas.{whole_shown}
use Rattle.pb_views.proofs.window.Window.show.Goals as goal

pub returns-in-Whole : goal.returns-in-Whole
returns-in-Whole c =
    let m = c.args.matrix.now in
    let area = shown_by c.args.self.now m c.args.x c.args.y in
    subst (λ v. IsShown m v (area v) m) (sym c.in-Whole.is) (whole_shown m (subst (λ v. IsWithin (area v) (pos m.shape.w) (pos m.shape.h)) c.in-Whole.is c.requires.within))
