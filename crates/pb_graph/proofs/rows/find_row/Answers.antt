use Rattle.std.proofs.Common.{◌∙◌, sym, subst}
use Rattle.pb_graph.specs.Cached.{IsRow}
use Rattle.pb_graph.proofs.CachedLemmas.{row_alike}
use Rattle.pb_graph.proofs.rows.find_row.Goals as goal

pub returns-then-are_alike : goal.returns-then-are_alike
returns-then-are_alike c leasts nodes all =
    let is = subst (IsRow leasts nodes c.args.read.now c.args.axis) (sym (c.row.view_is ∙ c.row-item.is)) (all c.loop-row.row-index c.row-item.result c.loop-row-test.true) in
    c.deref.ensures.value ∙ is ∙ row_alike leasts c.args.read.now c.args.axis _ _ nodes (c.are_alike.ensures c.if-are_alike.true)
