use Rattle.pb_walk.proofs.SweepLemmas.{any_sweep, one_sweep, two_sweep}
use Rattle.pb_walk.proofs.course.Course.sweep.Goals as goal

pub returns-in-Any : goal.returns-in-Any
returns-in-Any c = λ piece base x y a b. rw c.in-Any.is (any_sweep piece base x y a b)

pub returns-in-One : goal.returns-in-One
returns-in-One c = λ piece base x y a b. rw c.in-One.is (one_sweep c.in-One.step piece base x y a b)

pub returns-in-Two : goal.returns-in-Two
returns-in-Two c = λ piece base x y a b. rw (c.in-Two.is, c.sign_across.ensures) (two_sweep c.in-Two.first c.in-Two.second piece base x y a b)
