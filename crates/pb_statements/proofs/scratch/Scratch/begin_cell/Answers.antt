use Rattle.std.proofs.Common.{◌∙◌, ap, length, arith}
use Rattle.pb_statements.specs.Stored.{locals_of, outs_of}
use Rattle.pb_statements.proofs.scratch.Scratch.begin_cell.Goals as goal

pub lay_one-requires-clause-room : goal.lay_one-requires-clause-room
unfolding outs_of
lay_one-requires-clause-room c = omega (arith, c.requires)

pub returns-clause-locals : goal.returns-clause-locals
unfolding locals_of
returns-clause-locals c = c.clear-2.ensures.room.locals ∙ ap (λ v. length v.items) c.lay_one.ensures.locals

pub returns-clause-numbers : goal.returns-clause-numbers
unfolding outs_of
returns-clause-numbers c = c.clear-2.ensures.room.numbers ∙ ap (λ v. length v.items) c.lay_one.ensures.numbers
