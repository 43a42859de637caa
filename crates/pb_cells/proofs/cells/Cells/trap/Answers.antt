use Rattle.std.proofs.Common.{◌∙◌, refl, arith}
use Rattle.pb_cells.proofs.CallLemmas.{can-read, cell-place, mark-place, may-below, own-is, read-asks, trap-number, trap-told}
use Rattle.pb_cells.proofs.cells.Cells.trap.Goals as goal

pub overflow_add-self-inside : goal.overflow_add-self-inside
overflow_add-self-inside g c =
    let below = may-below g.N.NamesWork.plan _ _ _ c.self.invariant.table _ _ c.self.view_is _ _ _ c.job.invariant c.job.view_is c.requires.table c.args.cell c.requires.known in
    let there = cell-place g.N.NamesWork.plan _ _ _ c.self.invariant.table c.args.cell below in
    omega (arith, there)

pub load-mark-requires : goal.load-mark-requires
load-mark-requires g c =
    let below = may-below g.N.NamesWork.plan _ _ _ c.self.invariant.table _ _ c.self.view_is _ _ _ c.job.invariant c.job.view_is c.requires.table c.args.cell c.requires.known in (
      own-is g.N.NamesWork.plan _ _ _ c.self.invariant.table _ _ c.self.view_is _ _ _ c.job.invariant c.job.view_is c.requires.table,
      (cell-place g.N.NamesWork.plan _ _ _ c.self.invariant.table c.args.cell below).1,
      read-asks g.N.NamesWork.plan _ _ _ c.self.invariant.table _ _ c.self.view_is _ _ _ c.job.invariant c.job.view_is c.requires.table c.job.inside.seat.id _ c.job.inside.seat.me refl,
    )

pub returns-then-mark-eq1-clause-trap : goal.returns-then-mark-eq1-clause-trap
returns-then-mark-eq1-clause-trap g c =
    let can = can-read g.N.NamesWork.plan _ _ _ c.self.invariant.table _ _ c.self.view_is _ _ _ c.job.invariant c.job.view_is c.requires.table c.args.cell c.requires.known in
    trap-number g.N.NamesWork.plan c.args.cell c.load-mark.result c.if-mark-eq1.true
    ((c.load-mark.ensures.2.1 c.args.cell (can c.job.inside.seat.me refl)).0 (mark-place g.N.NamesWork.plan _ _ _ c.self.invariant.table c.args.cell))

pub load-word-requires : goal.load-word-requires
load-word-requires g c =
    let below = may-below g.N.NamesWork.plan _ _ _ c.self.invariant.table _ _ c.self.view_is _ _ _ c.job.invariant c.job.view_is c.requires.table c.args.cell c.requires.known in (
      c.load-mark.ensures.0 ∙ own-is g.N.NamesWork.plan _ _ _ c.self.invariant.table _ _ c.self.view_is _ _ _ c.job.invariant c.job.view_is c.requires.table,
      (cell-place g.N.NamesWork.plan _ _ _ c.self.invariant.table c.args.cell below).0,
      read-asks g.N.NamesWork.plan _ _ _ c.self.invariant.table _ _ c.self.view_is _ _ _ c.job.invariant c.job.view_is c.requires.table c.load-mark.new.seat.id _ c.load-mark.new.seat.me c.load-mark.ensures.2.0,
    )

pub returns-clause-trap : goal.returns-clause-trap
returns-clause-trap g c =
    let can = can-read g.N.NamesWork.plan _ _ _ c.self.invariant.table _ _ c.self.view_is _ _ _ c.job.invariant c.job.view_is c.requires.table c.args.cell c.requires.known in
    trap-told g.N.NamesWork.plan c.self.invariant.table.plan c.args.cell c.load-mark.result c.load-word.result c.unpack.result c.unpack.ensures
    ((c.load-mark.ensures.2.1 c.args.cell (can c.job.inside.seat.me refl)).0 (mark-place g.N.NamesWork.plan _ _ _ c.self.invariant.table c.args.cell))
    ((c.load-word.ensures.2.1 c.args.cell (can c.load-mark.new.seat.me c.load-mark.ensures.2.0)).1 refl) c.trap_of.result c.trap_of.ensures
