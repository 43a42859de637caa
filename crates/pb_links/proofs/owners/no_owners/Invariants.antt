use Rattle.std.proofs.Common.{◌≡◌, [], replicate}
use Rattle.pb_links.proofs.owners.no_owners.Given as goal

abbrev pub invariant-loop-base : goal.invariant-loop-base
invariant-loop-base l = l.table.items ≡ replicate l._base []
