use Rattle.std.proofs.Common.{◌∙◌, arith}
use Rattle.pb_cells.proofs.CallLemmas.{after-below, count-inside, own-is, release-asks, split-asks}
use Rattle.pb_cells.proofs.cells.Cells.release.Goals as goal

pub fetch_sub-found-requires : goal.fetch_sub-found-requires
fetch_sub-found-requires g c =
    let p = g.N.NamesWork.plan in
    let below = after-below p c.self.invariant.table.plan c.args.job.now.at.task c.args.next c.requires.successor in (
      own-is p _ _ _ c.self.invariant.table _ _ c.self.view_is _ _ _ c.job.invariant c.job.view_is c.requires.table,
      count-inside p _ _ _ c.self.invariant.table c.args.next below,
      release-asks p _ _ _ c.self.invariant.table _ _ c.self.view_is _ _ _ c.job.invariant c.job.view_is c.requires.table c.args.next c.requires.finished c.requires.successor c.requires.owed c.job.inside.seat.id,
    )

pub split_seat-requires : goal.split_seat-requires
split_seat-requires g c =
    let p = g.N.NamesWork.plan in
    let below = after-below p c.self.invariant.table.plan c.args.job.now.at.task c.args.next c.requires.successor in
    let inside = count-inside p _ _ _ c.self.invariant.table c.args.next below in (
      c.fetch_sub-found.ensures.0 ∙ own-is p _ _ _ c.self.invariant.table _ _ c.self.view_is _ _ _ c.job.invariant c.job.view_is c.requires.table,
      omega (arith, inside),
      split-asks p _ _ _ c.self.invariant.table _ _ c.self.view_is _ _ _ c.job.invariant c.job.view_is c.requires.table c.args.next c.requires.finished c.requires.successor c.requires.owed
          c.fetch_sub-found.result c.fetch_sub-found.new.seat.me c.fetch_sub-found.ensures.2 c.fetch_sub-found.new.seat.id c.if-found-ne1.false,
    )

pub of-requires-clause-task : goal.of-requires-clause-task
of-requires-clause-task g c = after-below g.N.NamesWork.plan c.self.invariant.table.plan c.args.job.now.at.task c.args.next c.requires.successor
