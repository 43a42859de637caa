use Rattle.std.proofs.Common.{rules}
use Rattle.pb_program.specs.Trees.{bare_prog}
use Rattle.pb_syntax.specs.declared.refusal.Refusal.TheVariants.{Memory}
use Rattle.pb_top.proofs.LineLemmas.{phase_why}
use Rattle.std.proofs.Common.{◌≡◌}
use Rattle.pb_top.proofs.phases.accept.Goals as goal

pub refuse-requires : goal.refuse-requires
refuse-requires c = let other : c.in-Err.refusal ≡ Memory → ⊥ = search rules in record { well_formed = c.requires; refused = phase_why (bare_prog c.args.program.now) c.in-Err.refusal c.in-Err.ensures.refused other }
