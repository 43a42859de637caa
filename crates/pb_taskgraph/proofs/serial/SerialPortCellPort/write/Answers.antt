use Rattle.std.proofs.Common.{◌≡◌, ◌∙◌, ◌+◌, ap, arith, rules, subst, sym, to_z, of_z, w64}
use Rattle.std.specs.Prelude.{slice_set}
use Rattle.pb_values.specs.declared.outcome.Outcome.TheVariants.{Value}
use Rattle.pb_taskgraph.specs.Plans.{IsSmall}
use Rattle.pb_taskgraph.specs.Serial.{serial_turn}
use Rattle.pb_taskgraph.proofs.SerialLemmas.{serial-next, serial-small, serial-write}
use Rattle.pb_taskgraph.proofs.serial.SerialPortCellPort.write.Goals as goal

pub set_number-requires : goal.set_number-requires
set_number-requires g c = (serial-next g.N.NamesWork.plan _ c.args.self.now c.self.view_is c.self.invariant c.args.cell c.args.v c.requires).0

pub set_trap-requires-clause-below : goal.set_trap-requires-clause-below
set_trap-requires-clause-below g c = (serial-next g.N.NamesWork.plan _ c.args.self.now c.self.view_is c.self.invariant c.args.cell c.args.v c.requires).0

pub set_trap-requires-clause-small : goal.set_trap-requires-clause-small
set_trap-requires-clause-small g c = subst IsSmall c.in-Trapped.is (serial-small g.N.NamesWork.plan _ c.args.self.now c.self.view_is c.self.invariant c.args.cell c.args.v c.requires)

pub overflow_add-self : goal.overflow_add-self
overflow_add-self g c = omega (arith, (serial-next g.N.NamesWork.plan _ c.args.self.now c.self.view_is c.self.invariant c.args.cell c.args.v c.requires).1)

pub returns-in-Value : goal.returns-in-Value
returns-in-Value g c =
    let same : to_z w64 (of_z w64 c.in-Value.number) ≡ c.in-Value.number = search rules in
    ap (λ l. serial_turn g.N.NamesWork.plan (record { task = c.self.inside.task; written = c.self.inside.written + 1; outcomes = l })) (c.set_number.ensures ∙ ap (slice_set c.self.inside.outcomes c.args.cell) (ap (λ n. Value n) same ∙ sym c.in-Value.is))
    ∙ serial-write g.N.NamesWork.plan _ c.args.self.now c.self.view_is c.self.invariant c.args.cell c.args.v c.requires

pub returns-in-Trapped : goal.returns-in-Trapped
returns-in-Trapped g c =
    ap (λ l. serial_turn g.N.NamesWork.plan (record { task = c.self.inside.task; written = c.self.inside.written + 1; outcomes = l })) (c.set_trap.ensures ∙ ap (slice_set c.self.inside.outcomes c.args.cell) (sym c.in-Trapped.is))
    ∙ serial-write g.N.NamesWork.plan _ c.args.self.now c.self.view_is c.self.invariant c.args.cell c.args.v c.requires
