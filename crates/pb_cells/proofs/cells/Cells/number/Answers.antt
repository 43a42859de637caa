use Rattle.std.proofs.Common.{◌≡◌, ◌∙◌, refl, sym, ap, to_z, of_z, w64, rules}
use Rattle.pb_values.specs.declared.outcome.Outcome.TheVariants.{Value}
use Rattle.pb_cells.proofs.CallLemmas.{can-read, cell-place, may-below, number-gives, number-known, own-is, read-asks}
use Rattle.pb_cells.proofs.cells.Cells.number.Goals as goal

pub load-word-requires : goal.load-word-requires
load-word-requires g c =
    let known = (number-known g.N.NamesWork.plan c.args.job.now.at c.args.cell c.requires.number).0 in
    let below = may-below g.N.NamesWork.plan _ _ _ c.self.invariant.table _ _ c.self.view_is _ _ _ c.job.invariant c.job.view_is c.requires.table c.args.cell known in (
      own-is g.N.NamesWork.plan _ _ _ c.self.invariant.table _ _ c.self.view_is _ _ _ c.job.invariant c.job.view_is c.requires.table,
      (cell-place g.N.NamesWork.plan _ _ _ c.self.invariant.table c.args.cell below).0,
      read-asks g.N.NamesWork.plan _ _ _ c.self.invariant.table _ _ c.self.view_is _ _ _ c.job.invariant c.job.view_is c.requires.table c.job.inside.seat.id _ c.job.inside.seat.me refl,
    )

pub returns-clause-number : goal.returns-clause-number
returns-clause-number g c =
    let known = number-known g.N.NamesWork.plan c.args.job.now.at c.args.cell c.requires.number in
    let can = can-read g.N.NamesWork.plan _ _ _ c.self.invariant.table _ _ c.self.view_is _ _ _ c.job.invariant c.job.view_is c.requires.table c.args.cell known.0 in
    let same : to_z w64 (of_z w64 c.cast_signed.result) ≡ c.cast_signed.result = search rules in
    number-gives g.N.NamesWork.plan c.self.invariant.table.plan c.args.cell c.load-word.result known.1
    ((c.load-word.ensures.2.1 c.args.cell (can c.job.inside.seat.me refl)).1 refl)
    ∙ ap Value (sym c.cast_signed.ensures ∙ sym same)
