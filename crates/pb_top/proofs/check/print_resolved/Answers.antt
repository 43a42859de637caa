use Rattle.std.proofs.Common.{inl}
use Rattle.pb_program.specs.Trees.{bare_prog}
use Rattle.pb_syntax.specs.Trees.{bare_text}
use Rattle.pb_top.specs.Check.{Printed, its_canonical}
use Rattle.pb_top.specs.Steps.{AfterAccepted, AfterResolved}
use Rattle.pb_top.proofs.StepLemmas.{replies_map}
use Rattle.pb_top.proofs.check.print_resolved.Goals as goal

pub returns : goal.returns
returns c =
    let tree = bare_text c.args.tree.now in
    let p = bare_prog c.in_ok-program.program in
    replies_map (AfterAccepted (Printed its_canonical) tree p) (AfterResolved (Printed its_canonical) tree) (λ reply more. inl (p, c.in_ok-program.ensures.gives, more)) c.print_accepted.result c.print_accepted.ensures
