use Rattle.std.proofs.Common.{subst, sym}
use Rattle.std.specs.List.{AllZip}
use Rattle.pb_program.specs.Trees.{bare_prog}
use Rattle.pb_frame.proofs.FoundLemmas.{if_ok}
use Rattle.pb_run_plan.specs.RunTasks.{IsPartOf, pieces_of}
use Rattle.pb_run_graph.specs.Ready.{IsMadeFor}
use Rattle.pb_run_graph.proofs.MadeLemmas.{trap_made}
use Rattle.pb_run_graph.proofs.parts.step_parts.Goals as goal

pub returns-in-Trap : goal.returns-in-Trap
returns-in-Trap c =
    let p = bare_prog c.args.a.now.program in
    if_ok c.trapped_parts.result c.trapped_parts.ensures (λ made h.
    subst (λ x. IsMadeFor p c.args.a.now.found c.args.instances.now (λ s parts. AllZip IsPartOf (pieces_of s) parts) x made.items) (sym c.in-Trap.is) (trap_made p c.args.a.now.found c.args.instances.now c.in-Trap.failed made.items h))
