use Rattle.std.proofs.Common.{◌≡◌, ◌∙◌, ap, length, subst, sym, IsTrue, rules, to_z, of_z, w64}
use Rattle.pb_values.specs.Cells.{is_number}
use Rattle.pb_statements.specs.Shown.{number_told}
use Rattle.pb_eval.proofs.FirstCellLemmas.{cell_below, cell_is, number_is}
use Rattle.pb_eval.proofs.cells.cell_number.Goals as goal

pub returns-in-Number-clause-value : goal.returns-in-Number-clause-value
returns-in-Number-clause-value g c b st tells =
    let same : to_z w64 (of_z w64 c.in-Number.n) ≡ c.in-Number.n = search rules in
    number_is b st c.args.term c.in-Number.n _ c.in-Number.is same

pub returns-in-Cell-clause-value : goal.returns-in-Cell-clause-value
returns-in-Cell-clause-value g c b st tells =
    let same : to_z w64 (of_z w64 c.number.result) ≡ c.number.result = search rules in
    cell_is b st g.N.NamesTurn.turn c.args.cells.now tells c.args.term c.in-Cell.k 0 c.number.result _ c.in-Cell.is (cell_below (length c.args.cells.now) c.args.term c.in-Cell.k c.in-Cell.is c.requires.term) (c.number.ensures.number ∙ ap (number_told g.N.NamesTurn.turn) c.cell.ensures) same

pub cell-requires : goal.cell-requires
cell-requires g c = cell_below (length c.args.cells.now) c.args.term c.in-Cell.k c.in-Cell.is c.requires.term

pub number-requires : goal.number-requires
number-requires g c =
    subst (λ n. IsTrue (is_number (g.N.NamesTurn.turn.outcomes n))) (sym c.cell.ensures) (c.requires.told c.in-Cell.k 0 (cell_below (length c.args.cells.now) c.args.term c.in-Cell.k c.in-Cell.is c.requires.term))
