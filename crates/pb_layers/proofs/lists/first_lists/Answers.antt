use Rattle.pb_layers.proofs.ServedLemmas.{lists-more}
use Rattle.pb_layers.proofs.lists.first_lists.Goals as goal

pub loop-list-preserved : goal.loop-list-preserved
loop-list-preserved c = lists-more c.args.edges.now c.args.least.now c.loop-list.list _ _ _ c.in_ok-served.field-0.items c.loop-list.invariant c.in_ok-served.ensures c.deref.ensures.value c.choose.ensures.room c.choose.ensures.chosen
