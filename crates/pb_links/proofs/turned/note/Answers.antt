use Rattle.std.proofs.lemmas.List.{get_or_default}
use Rattle.pb_links.proofs.TurnLemmas.{noted-more}
use Rattle.pb_links.proofs.turned.note.Goals as goal

pub loop-at-preserved : goal.loop-at-preserved
loop-at-preserved c = noted-more _ _ _ c.args.numbers.now c.loop-at.at-index _ c.args.task c.requires.rising c.loop-at-test.true (get_or_default c.args.numbers.now c.loop-at.at-index _ _ c.loop-at-test.true) c.loop-at.invariant c.in_ok-note_at.ensures
