use Rattle.pb_linear.specs.Form.{numbers}
use Rattle.pb_linear.specs.Most.{FirstGreatest}
use Rattle.pb_linear.specs.Numbers.{part_of}
use Rattle.pb_linear.proofs.form.Form.first_greatest.Given as goal

abbrev pub invariant-loop-size : goal.invariant-loop-size
invariant-loop-size l = FirstGreatest (part_of (numbers l.self) l.i) l.start l.size l.best
