use Rattle.std.proofs.Common.{◌∙◌, length, arith}
use Rattle.pb_links.proofs.TurnLemmas.{all-inside, all-long, all-rising, turned-successors}
use Rattle.pb_links.proofs.IndexLemmas.{table_shown}
use Rattle.pb_links.proofs.tasks.links.Goals as goal

pub turned-requires-clause-few : goal.turned-requires-clause-few
turned-requires-clause-few c =
    omega (arith, all-long c.args.tasks.now c.deref-2.result.now (c.deref-2.ensures.value ∙ c.in_ok-before.ensures.found), c.requires.few)

pub turned-requires-clause-rising : goal.turned-requires-clause-rising
turned-requires-clause-rising c = all-rising c.args.tasks.now c.deref-2.result.now (c.deref-2.ensures.value ∙ c.in_ok-before.ensures.found)

pub turned-requires-clause-inside : goal.turned-requires-clause-inside
turned-requires-clause-inside c = all-inside c.args.tasks.now c.deref-2.result.now (c.deref-2.ensures.value ∙ c.in_ok-before.ensures.found)

pub returns-clause-found : goal.returns-clause-found
returns-clause-found c =
    let before = c.in_ok-before.ensures.found in
    let after = turned-successors c.args.tasks.now c.deref-2.result.now c.in_ok-after.after.items (c.deref-2.ensures.value ∙ before) c.in_ok-after.ensures in
    λ i. record { before = before i; after = after i }

pub all_before-requires-clause-table : goal.all_before-requires-clause-table
all_before-requires-clause-table c = table_shown c.args.tasks.now (length c.args.tasks.now) c.args.bases c.in_ok-owned_parts.field-0.items c.in_ok-table.table.items c.deref.result.now c.deref.ensures.value c.in_ok-table.ensures c.in_ok-owned_parts.ensures
