use Rattle.std.proofs.Common.{◌≡◌, subst, arith}
use Rattle.std.proofs.lemmas.Int.{ints}
use Rattle.pb_linear.specs.Form.{numbers}
use Rattle.pb_linear.specs.Most.{FirstGreatest}
use Rattle.pb_linear.specs.Numbers.{part_of}
use Rattle.pb_linear.proofs.Parts.{first_alone, first_kept, first_taken}
use Rattle.pb_linear.proofs.form.Form.first_greatest.Goals as goal
use Rattle.pb_linear.proofs.form.Form.first_greatest.Goals.{then-part, else-part}

pub loop-size-init : goal.loop-size-init
loop-size-init c = first_alone (part_of (numbers c.args.self.now) c.args.i) c.args.start

pub loop-size-preserved : goal.loop-size-preserved
loop-size-preserved c =
    let g = part_of (numbers c.args.self.now) c.args.i in
    elim c.if-part.branch [
      | then-part w ↦ first_taken g _ _ _ _ c.loop-size.invariant (omega (arith, ints)) w.best-is
      | else-part w ↦ first_kept g _ _ _ _ c.loop-size.invariant (omega (arith, ints)) w.best-is
    ]

pub returns : goal.returns
returns c =
    let ended : c.loop-size.size ≡ c.args.end = omega arith in
    subst (λ stop. FirstGreatest (part_of (numbers c.args.self.now) c.args.i) c.args.start stop c.loop-size.best) ended c.loop-size.invariant
