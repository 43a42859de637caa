use Rattle.std.proofs.Common.{arith}
use Rattle.std.proofs.lemmas.Bool.{ltb-false}
use Rattle.pb_region.proofs.GapLemmas.{no_pieces}
use Rattle.pb_region.proofs.gap.view_gaps.Goals as goal

pub returns-in-None-clause-found : goal.returns-in-None-clause-found
returns-in-None-clause-found c = no_pieces c.args.matrices.now c.args.read.now _ (omega (arith, ltb-false, c.in-None.ensures.lookup))
