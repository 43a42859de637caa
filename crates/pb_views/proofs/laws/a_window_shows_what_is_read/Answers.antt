use Rattle.pb_views.proofs.WindowLemmas.{cells_are, shown_is}
use Rattle.pb_views.proofs.laws.a_window_shows_what_is_read.Goals as goal

pub returns-clause-area : goal.returns-clause-area
returns-clause-area c = λ matrices sizes views cell r w d v h laid there at. shown_is matrices sizes views cell r w d v h laid there at

pub returns-clause-cells : goal.returns-clause-cells
returns-clause-cells c = λ matrices sizes views cell r w d v h laid there at. cells_are matrices sizes views cell r w d v h laid there at
