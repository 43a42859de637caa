use Rattle.pb_program.specs.Trees.{bare_prog}
use Rattle.pb_check.proofs.PhaseLemmas.{order_refused}
use Rattle.pb_check.proofs.phases.judge.Goals as goal

pub returns-clause-refused : goal.returns-clause-refused
returns-clause-refused c = order_refused (bare_prog c.args.p.now) c.in_ok-cuts.cuts.items c.order_all.result c.in_ok-check_types.ensures.found c.in_ok-bounds.ensures.found c.in_ok-cuts.ensures.found c.order_all.ensures.refused
