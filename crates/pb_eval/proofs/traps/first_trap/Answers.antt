use Rattle.std.proofs.Common.{◌∙◌, sym, ap}
use Rattle.pb_model.specs.Equations.{first_trap}
use Rattle.pb_eval.proofs.TrapLemmas.{seen_is}
use Rattle.pb_statements.proofs.ViewLemmas.{seen_none}
use Rattle.pb_eval.proofs.traps.first_trap.Goals as goal

pub returns-then-is_untrapped-clause-trap : goal.returns-then-is_untrapped-clause-trap
returns-then-is_untrapped-clause-trap g c =
    let N = g.N.NamesTurn.turn in
    let views = c.args.views.now in
    seen_none N views (c.is_untrapped.ensures c.if-is_untrapped.true) c.requires ∙ sym (ap first_trap (seen_is N views))
