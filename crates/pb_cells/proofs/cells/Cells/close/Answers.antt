use Rattle.std.proofs.Common.{◌∙◌, ℕ, ◌≤◌, subst, arith}
use Rattle.std.specs.Mem.Slots.{slots_items}
use Rattle.pb_cells.specs.Ends.{Knows, StandByNumber}
use Rattle.pb_cells.specs.Handles.{HandValue}
use Rattle.pb_cells.proofs.EndLemmas.{last-ran, last-words, stand-lawful}
use Rattle.pb_cells.proofs.cells.Cells.close.Goals as goal

seen-all : {n : ℕ} {all hand : HandValue} → n ≤ hand.seen → Knows all hand → n ≤ all.seen
seen-all few knows = let more = knows.seen in omega arith

pub told_outcomes-outcomes-requires-clause-last : goal.told_outcomes-outcomes-requires-clause-last
told_outcomes-outcomes-requires-clause-last g c =
    last-words g.N.NamesWork.plan c.into_seat.result.id c.into_seat.result.me c.one_of_all-hand.result c.into_seat.ensures.me (seen-all c.requires.some.2 (c.one_of_all-hand.ensures.all c.requires.some.0 c.requires.some.1)) (slots_items c.close_with-words.result.words) _ c.close_with-words.ensures.values.2

pub told_order-order-requires-clause-last : goal.told_order-order-requires-clause-last
told_order-order-requires-clause-last g c =
    last-words g.N.NamesWork.plan c.into_seat.result.id c.into_seat.result.me c.one_of_all-hand.result c.into_seat.ensures.me (seen-all c.requires.some.2 (c.one_of_all-hand.ensures.all c.requires.some.0 c.requires.some.1)) (slots_items c.close_with-words.result.words) _ c.close_with-words.ensures.values.2

pub returns-clause-numbers : goal.returns-clause-numbers
returns-clause-numbers g c =
    let p = g.N.NamesWork.plan in
    let words = slots_items c.close_with-words.result.words in
    let stand = subst (λ n. StandByNumber p words n c.told_order-order.result.items) c.self.invariant.table.tasks c.told_order-order.ensures.stand in
    let numbers = last-ran p c.self.invariant.table.plan c.into_seat.result.id c.into_seat.result.me c.one_of_all-hand.result c.into_seat.ensures.me (seen-all c.requires.some.2 (c.one_of_all-hand.ensures.all c.requires.some.0 c.requires.some.1)) words _
    c.close_with-words.ensures.values.2 c.told_order-order.result.items stand in
    λ hand there t n h. numbers t n ((c.one_of_all-hand.ensures.all hand there).ran t n h)

pub returns-clause-lawful : goal.returns-clause-lawful
returns-clause-lawful g c =
    let p = g.N.NamesWork.plan in
    let words = slots_items c.close_with-words.result.words in
    let last = last-words g.N.NamesWork.plan c.into_seat.result.id c.into_seat.result.me c.one_of_all-hand.result c.into_seat.ensures.me (seen-all c.requires.some.2 (c.one_of_all-hand.ensures.all c.requires.some.0 c.requires.some.1)) (slots_items c.close_with-words.result.words) _ c.close_with-words.ensures.values.2 in
    stand-lawful p c.self.invariant.table.plan words last c.told_order-order.result.items (c.told_order-order.ensures.size ∙ c.self.invariant.table.tasks)
    (subst (λ n. StandByNumber p words n c.told_order-order.result.items) c.self.invariant.table.tasks c.told_order-order.ensures.stand)
