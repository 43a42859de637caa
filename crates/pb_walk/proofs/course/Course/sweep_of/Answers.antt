use Rattle.std.proofs.Common.{◌≡◌, ◌∙◌, true, false, arith}
use Rattle.pb_linear.specs.declared.boxes.Sign.TheVariants.{Plus}
use Rattle.pb_walk.proofs.StretchLemmas.{one_column, one_row, with_columns}
use Rattle.pb_walk.proofs.course.Course.sweep_of.Goals as goal

pub returns-then-saturating_sub-eq1 : goal.returns-then-saturating_sub-eq1
returns-then-saturating_sub-eq1 c = λ piece base x y a b h g.
    let w = c.sweep-sweep.result in
    let row : y ≡ b = omega (arith, c.saturating_sub.ensures, c.if-saturating_sub-eq1.true, h.low, h.high, g.low, g.high) in
    c.sweep-sweep.ensures piece base x y a b ∙ with_columns w true x y a b c.if-sweep.true ∙ one_row w.outer w.inner Plus x y a b row

pub returns-then-saturating_sub-eq1-2 : goal.returns-then-saturating_sub-eq1-2
returns-then-saturating_sub-eq1-2 c = λ piece base x y a b h g.
    let w = c.sweep-sweep.result in
    let column : x ≡ a = omega (arith, c.saturating_sub-else-sweep.ensures, c.if-saturating_sub-eq1-2.true, h.left, h.right, g.left, g.right) in
    c.sweep-sweep.ensures piece base x y a b ∙ with_columns w false x y a b c.if-sweep.false ∙ one_column w.outer w.inner Plus x y a b column
