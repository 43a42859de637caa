use Rattle.std.proofs.Common.{◌∙◌, ap}
use Rattle.pb_program.specs.Stmts.{stmts}
use Rattle.pb_program.specs.Trees.{bare_prog}
use Rattle.pb_statements.specs.Rooms.{locals_among}
use Rattle.pb_statements.specs.Working.{rooms_in}
use Rattle.pb_eval.proofs.HeldLemmas.{of_rule}
use Rattle.pb_eval.proofs.room.locals_room.Goals as goal

pub returns : goal.returns
unfolding rooms_in
returns c = of_rule (bare_prog c.args.p.now) c.args.t c.args.r _ _ _ c.in-Some.ensures.found c.in-Some-rule_at.ensures.found (c.rooms.ensures ∙ ap (λ l. locals_among (stmts l)) c.body_of_rule.ensures)
