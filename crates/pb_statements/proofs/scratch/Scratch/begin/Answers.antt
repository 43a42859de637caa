use Rattle.std.proofs.Common.{◌∙◌, sym, ap, length, map}
use Rattle.pb_statements.specs.Outputs.{end_of}
use Rattle.pb_statements.specs.Stored.{locals_of, outs_of, sides_of}
use Rattle.pb_statements.proofs.scratch.Scratch.begin.Goals as goal

pub lay-total-requires-clause-room : goal.lay-total-requires-clause-room
unfolding outs_of
lay-total-requires-clause-room c = c.requires.room

pub returns-clause-sides : goal.returns-clause-sides
returns-clause-sides c = ap (map sides_of) c.clear.ensures.room.spots ∙ c.lay-total.ensures.spots

pub returns-clause-end : goal.returns-clause-end
returns-clause-end c = c.lay-total.ensures.end ∙ ap (end_of 0) (sym c.clear.ensures.room.spots)

pub returns-clause-locals : goal.returns-clause-locals
unfolding locals_of
returns-clause-locals c = c.clear.ensures.room.locals ∙ ap (λ v. length v.items) c.lay-total.ensures.locals

pub returns-clause-numbers : goal.returns-clause-numbers
unfolding outs_of
returns-clause-numbers c = c.clear.ensures.room.numbers ∙ ap (λ v. length v.items) c.lay-total.ensures.numbers
