use Rattle.std.proofs.Common.{◌∙◌, ap, length}
use Rattle.std.specs.List.{flat_map}
use Rattle.pb_links.specs.Owners.{box_hits}
use Rattle.pb_links.proofs.HitLemmas.{found-predecessors}
use Rattle.pb_links.proofs.LawLemmas.{boxes-at}
use Rattle.pb_links.proofs.before.predecessors_of.Goals as goal

pub returns : goal.returns
returns c =
    let is = c.deref.ensures.value ∙ ap (λ p. p.boxes) c.places.view_is ∙ boxes-at c.args.tasks.now c.args.task c.index-tasks-task.result c.requires.task c.index-tasks-task.is in
    found-predecessors c.args.tasks.now (length c.args.table.now) c.args.table.now c.requires.table c.args.task c.in_ok-found.found.items c.sort_out.new.found.items
    (c.in_ok-found.ensures ∙ ap (flat_map (box_hits c.args.table.now c.args.task)) is) c.sort_out.ensures
