use Rattle.std.proofs.Common.{refl, pos}
use Rattle.pb_program.specs.declared.view.ReadView.TheVariants as view
use Rattle.pb_views.specs.Windows.{shown_by}
use Rattle.pb_views.proofs.CellLemmas.{rect_fits, rect_shown}
use Rattle.pb_views.proofs.window.Window.show_region.Goals as goal

pub region-requires : goal.region-requires
region-requires c =
    let m = c.args.matrix.now in
    rect_fits m m (shown_by c.args.self.now m c.args.x c.args.y view.Region) c.requires.within c.region_rect.result (c.region_rect.ensures (pos m.shape.w) (pos m.shape.h))

pub returns : goal.returns
returns c =
    let m = c.args.matrix.now in
    rect_shown m c.region.result (shown_by c.args.self.now m c.args.x c.args.y view.Region) c.requires.within view.Region m.shape.dims c.region_rect.result refl (c.region_rect.ensures (pos m.shape.w) (pos m.shape.h)) c.region.ensures
