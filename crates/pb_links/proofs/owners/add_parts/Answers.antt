use Rattle.std.proofs.lemmas.List.{get_or_default}
use Rattle.pb_links.proofs.TableLemmas.{more-added}
use Rattle.pb_links.proofs.owners.add_parts.Goals as goal

pub loop-part-preserved : goal.loop-part-preserved
loop-part-preserved c = more-added _ _ _ c.args.task c.args.parts.now c.loop-part.part-index _ c.loop-part-test.true (get_or_default c.args.parts.now c.loop-part.part-index _ _ c.loop-part-test.true) c.loop-part.invariant c.in_ok-add_part.ensures
