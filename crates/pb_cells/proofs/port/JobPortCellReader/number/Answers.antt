use Rattle.std.proofs.Common.{◌≡◌, ◌∙◌, sym, ap, Some, to_z, of_z, w64, rules}
use Rattle.pb_values.specs.declared.outcome.Outcome.TheVariants.{Value}
use Rattle.pb_cells.proofs.CallLemmas.{number-some}
use Rattle.pb_cells.proofs.PortLemmas.{port-number, port-told}
use Rattle.pb_cells.proofs.port.JobPortCellReader.number.Goals as goal

pub number-requires-clause-number : goal.number-requires-clause-number
number-requires-clause-number g c = port-number g.N.NamesWork.plan _ _ _ _ c.self.invariant _ c.self.view_is c.args.cell c.requires

pub returns-clause-number : goal.returns-clause-number
returns-clause-number g c =
    let same : to_z w64 (of_z w64 c.number.result) ≡ c.number.result = search rules in
    port-told g.N.NamesWork.plan _ _ _ _ c.self.invariant _ c.self.view_is c.args.cell (number-some _ c.requires) (Value c.number.result) (sym c.number.ensures.number)
    ∙ ap (λ z. Some (Value z)) (sym same)
