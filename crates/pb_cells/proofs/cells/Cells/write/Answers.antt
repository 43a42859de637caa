use Rattle.std.proofs.Common.{◌∙◌, ap, subst, arith}
use Rattle.pb_taskgraph.specs.Plans.{IsSmall}
use Rattle.pb_cells.specs.Steps.{Me}
use Rattle.pb_cells.specs.Views.{after_store, with_task}
use Rattle.pb_cells.proofs.CallLemmas.{any-small, cell-place, mark-asks, me-is, next-inside, own-is, store-asks}
use Rattle.pb_taskgraph.proofs.KnownLemmas.{known-next}
use Rattle.pb_cells.proofs.cells.Cells.write.Goals as goal

pub pack-mark-requires : goal.pack-mark-requires
pack-mark-requires g c = subst IsSmall (known-next g.N.NamesWork.plan _ _ c.args.cell c.args.v c.requires.next).2 (any-small g.N.NamesWork.plan c.self.invariant.table.plan c.args.cell)

pub store-requires : goal.store-requires
store-requires g c =
    let below = next-inside g.N.NamesWork.plan _ _ _ c.self.invariant.table _ _ c.self.view_is _ _ _ c.job.invariant c.job.view_is c.requires.table c.args.cell c.args.v c.requires.next in (
      own-is g.N.NamesWork.plan _ _ _ c.self.invariant.table _ _ c.self.view_is _ _ _ c.job.invariant c.job.view_is c.requires.table,
      (cell-place g.N.NamesWork.plan _ _ _ c.self.invariant.table c.args.cell below).0,
      store-asks g.N.NamesWork.plan _ _ _ c.self.invariant.table _ _ c.self.view_is _ _ _ c.job.invariant c.job.view_is c.requires.table c.args.cell c.args.v c.requires.next
          c.job.inside.seat.id c.pack-mark.result.1 (ap (λ q. q.1) c.pack-mark.ensures),
    )

pub overflow_add-mark_place : goal.overflow_add-mark_place
overflow_add-mark_place g c =
    let below = next-inside g.N.NamesWork.plan _ _ _ c.self.invariant.table _ _ c.self.view_is _ _ _ c.job.invariant c.job.view_is c.requires.table c.args.cell c.args.v c.requires.next in
    let there = cell-place g.N.NamesWork.plan _ _ _ c.self.invariant.table c.args.cell below in
    omega (arith, there)

pub store-requires-2 : goal.store-requires-2
store-requires-2 g c =
    let below = next-inside g.N.NamesWork.plan _ _ _ c.self.invariant.table _ _ c.self.view_is _ _ _ c.job.invariant c.job.view_is c.requires.table c.args.cell c.args.v c.requires.next in
    let own = me-is g.N.NamesWork.plan _ _ _ c.self.invariant.table _ _ c.self.view_is _ _ _ c.job.invariant c.job.view_is c.requires.table in (
      c.store.ensures.0 ∙ own-is g.N.NamesWork.plan _ _ _ c.self.invariant.table _ _ c.self.view_is _ _ _ c.job.invariant c.job.view_is c.requires.table,
      (cell-place g.N.NamesWork.plan _ _ _ c.self.invariant.table c.args.cell below).1,
      mark-asks g.N.NamesWork.plan _ _ _ c.self.invariant.table _ _ c.self.view_is _ _ _ c.job.invariant c.job.view_is c.requires.table c.args.cell c.args.v c.requires.next
          c.store.new.seat.id c.pack-mark.result.0 c.store.new.seat.me (c.store.ensures.2.0 ∙ ap (λ (m : Me). (with_task after_store m.0, m.1)) own) (ap (λ q. q.0) c.pack-mark.ensures),
    )
