use Rattle.std.proofs.Common.{rules}
use Rattle.pb_program.specs.Trees.{bare_prog}
use Rattle.pb_syntax.specs.Trees.{bare_text}
use Rattle.pb_names.proofs.TransformsFit.{resolved_well_formed}
use Rattle.pb_resolve.proofs.program.resolve.Goals as goal

pub returns-in-Ok-clause-well_formed : goal.returns-in-Ok-clause-well_formed
returns-in-Ok-clause-well_formed c = resolved_well_formed (bare_text c.args.text.now) (bare_prog (record { transforms = c.in-Ok.transforms.items })) c.requires (search rules)
