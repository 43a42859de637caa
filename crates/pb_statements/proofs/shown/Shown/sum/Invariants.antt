use Rattle.std.proofs.Common.{◌≡◌, pos}
use Rattle.pb_model.specs.Bodies.{summed}
use Rattle.pb_statements.specs.Places.{height_of, number_at, rows_from, rows_of, width_of}
use Rattle.pb_statements.proofs.shown.Shown.sum.Given as goal

abbrev pub invariant-loop-y : goal.invariant-loop-y
invariant-loop-y g l = record {
  sum : summed l.total (rows_from (number_at g.N.NamesTurn.turn l.scratch.numbers.items l.self) (width_of l.self) (height_of l.self) l.y) ≡ summed (pos 0) (rows_of (number_at g.N.NamesTurn.turn l.scratch.numbers.items l.self) (width_of l.self) (height_of l.self));
  same_reference : l.port.reader.ghost_name ≡ l.initial.port.reader.ghost_name;
}
