use Rattle.std.proofs.Common.{◌∙◌, sym, ap}
use Rattle.pb_cells.specs.Handles.{HandValue}
use Rattle.pb_cells.proofs.CallLemmas.{filed-inside, look-asks, look-tells}
use Rattle.pb_cells.proofs.cells.Cells.finished.Goals as goal

pub load-requires : goal.load-requires
load-requires g c =
    let p = g.N.NamesWork.plan in
    let is = c.self.invariant.table in (
      ap (λ (v : HandValue). v.table) c.hand.view_is ∙ (c.requires.table ∙ sym c.self.view_is),
      filed-inside p _ _ _ is,
      look-asks p c.hand.inside.seat.id c.hand.inside.seat.me c.hand.invariant _ _ _ is,
    )

pub returns-clause-past : goal.returns-clause-past
returns-clause-past g c = (look-tells g.N.NamesWork.plan c.hand.inside.seat.id c.hand.inside.seat.me c.hand.invariant c.hand.inside.seat.table_id c.args.hand.now c.hand.view_is c.load.result c.load.ensures.2.1 c.load.new.seat.me c.load.ensures.2.0).2

pub returns-clause-few : goal.returns-clause-few
returns-clause-few g c = (look-tells g.N.NamesWork.plan c.hand.inside.seat.id c.hand.inside.seat.me c.hand.invariant c.hand.inside.seat.table_id c.args.hand.now c.hand.view_is c.load.result c.load.ensures.2.1 c.load.new.seat.me c.load.ensures.2.0).0

pub returns-clause-told : goal.returns-clause-told
returns-clause-told g c = (look-tells g.N.NamesWork.plan c.hand.inside.seat.id c.hand.inside.seat.me c.hand.invariant c.hand.inside.seat.table_id c.args.hand.now c.hand.view_is c.load.result c.load.ensures.2.1 c.load.new.seat.me c.load.ensures.2.0).1
