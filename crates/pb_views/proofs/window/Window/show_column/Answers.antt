use Rattle.std.proofs.Common.{pos}
use Rattle.pb_views.specs.Lines.{line_at}
use Rattle.pb_views.proofs.CellLemmas.{column_shown}
use Rattle.pb_views.proofs.window.Window.show_column.Goals as goal

pub returns : goal.returns
returns c =
    column_shown c.args.matrix.now c.column.result (line_at c.args.self.now.x0 (pos c.args.x) (pos c.args.y)) c.place.result c.place.ensures.value c.column.ensures
