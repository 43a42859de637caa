use Rattle.pb_demo_runs.proofs.Found.{no_cell_trapped}
use Rattle.pb_demo_runs.proofs.laws.a_product_traps_no_cell.Goals as goal

pub returns : goal.returns
returns c = λ p config depth n left right cells a said some few deep of_left of_right. no_cell_trapped p config depth n left right a said some few deep of_left of_right cells
