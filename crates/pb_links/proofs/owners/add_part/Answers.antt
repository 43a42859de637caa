use Rattle.pb_links.specs.Owners.{IsAdded}
use Rattle.pb_links.proofs.TableLemmas.{part-added, put-read}
use Rattle.pb_links.proofs.owners.add_part.Goals as goal
use Rattle.std.proofs.Common.{[], ◌∷◌}

pub returns : goal.returns
returns c =
    let table = c.args.table.now.items in
    put-read c.push.result table c.args.part.base c.index_mut.result.now c.push.new.self (record { task = c.args.task; rect = c.args.part.rect }) (λ t. IsAdded table t c.args.task (c.args.part ∷ [])) c.requires c.index_mut.ensures.value c.push.ensures (part-added table c.args.task c.args.part c.requires)
