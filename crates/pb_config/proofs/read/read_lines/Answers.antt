use Rattle.std.proofs.Common.{arith}
use Rattle.std.proofs.lemmas.Grind.{common_steps}
use Rattle.pb_config.proofs.ValidLemmas.{at_end}
use Rattle.pb_config.proofs.read.read_lines.Goals as goal

pub returns-clause-valid : goal.returns-clause-valid
returns-clause-valid c =
    at_end _ c.loop-rest.entries _ _ c.loop-rest.rest.now c.args.bytes.now c.loop-rest.invariant.0 (grind (arith, common_steps)) c.in_ok-into_list.ensures
