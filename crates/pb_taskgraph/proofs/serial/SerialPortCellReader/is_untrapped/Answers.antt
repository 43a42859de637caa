use Rattle.std.proofs.Common.{subst}
use Rattle.pb_taskgraph.specs.Packed.{HasNumbers}
use Rattle.pb_taskgraph.specs.Serial.{SerialValue, serial_turn}
use Rattle.pb_taskgraph.proofs.serial.SerialPortCellReader.is_untrapped.Goals as goal

pub returns : goal.returns
unfolding serial_turn
returns g c = λ h. subst (λ (s : SerialValue). HasNumbers s.outcomes) c.self.view_is (c.is_untrapped.ensures h)
