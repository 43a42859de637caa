use Rattle.std.proofs.Common.{◌∙◌, sym, ap, slice_get}
use Rattle.pb_taskgraph.specs.Serial.{serial_turn}
use Rattle.pb_taskgraph.proofs.SerialLemmas.{serial-inside}
use Rattle.pb_taskgraph.proofs.serial.SerialPortCellReader.read.Goals as goal

pub get-requires : goal.get-requires
get-requires g c = serial-inside g.N.NamesWork.plan _ c.args.self.now c.self.view_is c.args.cell c.requires

pub returns-clause-outcome : goal.returns-clause-outcome
unfolding serial_turn
returns-clause-outcome g c = ap (λ s. slice_get s.outcomes c.args.cell) (sym c.self.view_is) ∙ c.get.ensures
