use Rattle.std.proofs.Common.{subst}
use Rattle.pb_program.specs.Trees.{bare_prog}
use Rattle.pb_check.specs.Phases.{IsRefused}
use Rattle.pb_check.proofs.NamedLemmas.{no_order_bounded, no_order_cut}
use Rattle.pb_check.proofs.named.named_segments.Goals as goal

pub nodes_at-requires-clause-bounded : goal.nodes_at-requires-clause-bounded
nodes_at-requires-clause-bounded c = no_order_bounded (bare_prog c.args.p.now) c.in-NoOrder.transform c.in-NoOrder.segments (subst (IsRefused (bare_prog c.args.p.now)) c.in-NoOrder.is c.requires.refused)

pub nodes_at-requires-clause-cut : goal.nodes_at-requires-clause-cut
nodes_at-requires-clause-cut c = no_order_cut (bare_prog c.args.p.now) c.in-NoOrder.transform c.in-NoOrder.segments (subst (IsRefused (bare_prog c.args.p.now)) c.in-NoOrder.is c.requires.refused)
