use Rattle.std.proofs.Common.{◌≡◌, ◌∙◌, ap, length, subst, arith}
use Rattle.std.proofs.lemmas.List.Elements.{All-same}
use Rattle.pb_links.specs.Owners.{IsTable}
use Rattle.pb_links.specs.Spots.{IsWithin}
use Rattle.pb_links.proofs.LawLemmas.{parts-at, within-at}
use Rattle.pb_links.proofs.TableLemmas.{table-more}
use Rattle.pb_links.proofs.owners.owned_parts.Goals as goal

pub add_parts-requires : goal.add_parts-requires
add_parts-requires c =
    let task = within-at c.args.tasks.now c.args.bases c.loop-task.task c.index-tasks-task.result c.loop-task-test.true c.index-tasks-task.is c.requires.bases in
    All-same (IsWithin (length c.loop-task.table.items)) c.deref.result.now c.index-tasks-task.result.parts (c.deref.ensures.value ∙ ap (λ p. p.parts) c.places.view_is) (rw c.loop-task.invariant.room task)

pub loop-task-preserved : goal.loop-task-preserved
loop-task-preserved c =
    let is = c.deref.ensures.value ∙ ap (λ p. p.parts) c.places.view_is ∙ parts-at c.args.tasks.now c.loop-task.task c.index-tasks-task.result c.loop-task-test.true c.index-tasks-task.is in
    table-more c.args.tasks.now c.loop-task.task c.args.bases c.loop-task.table.items c.add_parts.new.table.items c.loop-task-test.true c.deref.result.now is c.loop-task.invariant c.in_ok-add_parts.ensures

pub returns : goal.returns
returns c =
    let all : c.loop-task.task ≡ length c.args.tasks.now = omega (arith, c.loop-task-test.false, c.loop-task.auto.task-end) in
    subst (λ n. IsTable c.args.tasks.now n c.args.bases c.loop-task.table.items) all c.loop-task.invariant
