use Rattle.std.proofs.Common.{◌≡◌, ◌∙◌, sym, ap, subst, Some, slice_get, to_z, of_z, w64, IsTrue, rules}
use Rattle.pb_values.specs.Cells.{is_number}
use Rattle.pb_values.specs.declared.outcome.Outcome.TheVariants.{Value}
use Rattle.pb_taskgraph.specs.Serial.{SerialValue, serial_turn}
use Rattle.pb_taskgraph.proofs.serial.SerialPortCellReader.number.Goals as goal

pub number-requires : goal.number-requires
unfolding serial_turn
number-requires g c = subst (λ (s : SerialValue). IsTrue (is_number (slice_get s.outcomes c.args.cell))) (sym c.self.view_is) c.requires

pub returns-clause-number : goal.returns-clause-number
unfolding serial_turn
returns-clause-number g c =
    let same : to_z w64 (of_z w64 c.number.result) ≡ c.number.result = search rules in
    ap (λ (s : SerialValue). slice_get s.outcomes c.args.cell) (sym c.self.view_is) ∙ c.number.ensures ∙ ap (λ z. Some (Value z)) (sym same)
