use Rattle.std.proofs.Common.{◌≡◌}
use Rattle.pb_program.specs.Trees.{bare_transform}
use Rattle.pb_check.proofs.SiteLemmas.{sites_to}
use Rattle.pb_check.proofs.sites.sites_of.Given as goal

abbrev pub invariant-loop-node : goal.invariant-loop-node
invariant-loop-node l = l.sites.items ≡ sites_to l.t (bare_transform l.transform) l.nodes l.node-index
