use Rattle.pb_tuner.proofs.SelectionLemmas.{is_ranking}
use Rattle.pb_tuner.proofs.selection.rank.Goals as goal

pub returns : goal.returns
returns c =
    is_ranking c.args.asked.now c.loop-answer.answer-index c.loop-answer.ranking.entries c.loop-answer-test.false c.loop-answer.invariant.0 c.loop-answer.invariant.1
