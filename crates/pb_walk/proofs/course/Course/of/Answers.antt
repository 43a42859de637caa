use Rattle.pb_walk.proofs.SweepLemmas.{first_two}
use Rattle.pb_walk.proofs.course.Course.of.Goals as goal

pub returns-in-len2-up : goal.returns-in-len2-up
returns-in-len2-up c = λ pieces. first_two c.args.steps.now _ pieces c.in-len2-up.len_at_least
