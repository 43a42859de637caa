use Rattle.std.proofs.Common.{◌∙◌, refl, sym, subst, ◌<◌, ◌+◌, length, arith}
use Rattle.pb_cells.proofs.CallLemmas.{draw-asks, file-asks, filed-inside, number-asks, number-inside, own-is, own-task, task-is}
use Rattle.pb_cells.proofs.cells.Cells.finish.Goals as goal

pub fetch_add-number-requires : goal.fetch_add-number-requires
fetch_add-number-requires g c =
    let p = g.N.NamesWork.plan in
    let is = c.self.invariant.table in
    let inside = filed-inside p _ _ _ is in (
      own-is p _ _ _ is _ _ c.self.view_is _ _ _ c.job.invariant c.job.view_is c.requires.table,
      omega (arith, inside),
      draw-asks p _ _ _ is _ _ c.self.view_is _ _ _ c.job.invariant c.job.view_is c.requires.table c.job.inside.seat.id c.requires.unfinished c.requires.written,
    )

pub store-requires : goal.store-requires
store-requires g c =
    let p = g.N.NamesWork.plan in
    let is = c.self.invariant.table in
    let below = own-task p _ _ _ is _ _ c.self.view_is _ _ _ c.job.invariant c.job.view_is c.requires.table in
    let task = task-is p _ _ _ is _ _ c.self.view_is _ _ _ c.job.invariant c.job.view_is c.requires.table in (
      c.fetch_add-number.ensures.0 ∙ own-is p _ _ _ is _ _ c.self.view_is _ _ _ c.job.invariant c.job.view_is c.requires.table,
      number-inside p _ _ _ is c.job.inside.task (subst (λ t. t < length p.graph.tasks) (sym task) below),
      number-asks p _ _ _ is _ _ c.self.view_is _ _ _ c.job.invariant c.job.view_is c.requires.table c.fetch_add-number.result c.fetch_add-number.new.seat.me c.fetch_add-number.ensures.2 c.fetch_add-number.new.seat.id _ refl,
    )

pub fetch_add-requires : goal.fetch_add-requires
fetch_add-requires g c =
    let p = g.N.NamesWork.plan in
    let is = c.self.invariant.table in (
      c.store.ensures.0 ∙ (c.fetch_add-number.ensures.0 ∙ own-is p _ _ _ is _ _ c.self.view_is _ _ _ c.job.invariant c.job.view_is c.requires.table),
      filed-inside p _ _ _ is,
      file-asks p _ _ _ is _ _ c.self.view_is _ _ _ c.job.invariant c.job.view_is c.requires.table c.fetch_add-number.result c.fetch_add-number.new.seat.me c.fetch_add-number.ensures.2 (c.self.inside.cells + c.self.inside.cells + c.self.inside.tasks + c.job.inside.task) c.store.new.seat.me c.store.ensures.2
          c.store.new.seat.id c.requires.unfinished,
    )
