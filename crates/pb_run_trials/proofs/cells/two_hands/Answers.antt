use Rattle.pb_run_trials.proofs.DrivenLemmas.{after-first, after-second, job-dealt}
use Rattle.pb_run_trials.proofs.cells.two_hands.Goals as goal

pub by_two_hands-requires-clause-job : goal.by_two_hands-requires-clause-job
by_two_hands-requires-clause-job g c = job-dealt c.args.work.now g.N.NamesWork.plan c.requires.name c.requires.given _ _ _ _ c.in_ok-cells.ensures.jobs c.in-Some-Some-Some.ensures''.items

pub by_two_hands-requires-clause-after_one : goal.by_two_hands-requires-clause-after_one
by_two_hands-requires-clause-after_one g c = after-first c.args.work.now g.N.NamesWork.plan c.requires.name c.requires.given

pub by_two_hands-requires-clause-after_two : goal.by_two_hands-requires-clause-after_two
by_two_hands-requires-clause-after_two g c = after-second c.args.work.now g.N.NamesWork.plan c.requires.name c.requires.given
