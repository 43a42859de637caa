use Rattle.pb_names.proofs.ToldPrograms.{faults_in_order, least_told}
use Rattle.pb_names.proofs.laws.faults_stand_in_order.Goals as goal

pub returns : goal.returns
returns c = record { order = faults_in_order; first = least_told }
