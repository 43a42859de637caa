use Rattle.std.proofs.Common.{◌≡◌, ◌++◌, take}
use Rattle.pb_links.specs.Owners.{hits}
use Rattle.pb_links.proofs.before.find.Given as goal

abbrev pub invariant-loop-owned : goal.invariant-loop-owned
invariant-loop-owned l = l.found.items ≡ l.initial.found.items ++ hits l.task l.rect (take l.owned-index l.owners)
