use Rattle.std.proofs.Common.{pos}
use Rattle.pb_views.specs.Lines.{line_at}
use Rattle.pb_views.proofs.CellLemmas.{row_shown}
use Rattle.pb_views.proofs.window.Window.show_row.Goals as goal

pub returns : goal.returns
returns c =
    row_shown c.args.matrix.now c.row.result (line_at c.args.self.now.y0 (pos c.args.x) (pos c.args.y)) c.place.result c.place.ensures.value c.requires.within c.row.ensures
