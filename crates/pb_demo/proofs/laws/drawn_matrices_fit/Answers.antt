use Rattle.pb_demo.proofs.Found.{takes}
use Rattle.pb_demo.proofs.laws.drawn_matrices_fit.Goals as goal

pub returns : goal.returns
returns c = takes
