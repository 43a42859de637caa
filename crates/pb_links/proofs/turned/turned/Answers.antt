use Rattle.std.proofs.Common.{◌∙◌, []}
use Rattle.std.proofs.lemmas.List.{get_or_read}
use Rattle.pb_links.proofs.TurnLemmas.{turned-more}
use Rattle.pb_links.proofs.turned.turned.Goals as goal

pub loop-task-preserved : goal.loop-task-preserved
loop-task-preserved c =
    let is = c.deref.ensures.value ∙ c.numbers.view_is ∙ get_or_read c.args.lists.now c.loop-task.task c.index-lists-task.result c.loop-task-test.true c.index-lists-task.is [] in
    turned-more c.args.lists.now c.loop-task.after.items c.note.new.lists.items c.loop-task.task c.deref.result.now is c.loop-task.invariant c.in_ok-note.ensures
