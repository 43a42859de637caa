use Rattle.std.proofs.Common.{◌≡◌}
use Rattle.pb_model.specs.Bodies.{summed}
use Rattle.pb_statements.specs.Places.{number_at, row_from, row_of, width_of}
use Rattle.pb_statements.proofs.shown.Shown.sum_row.Given as goal

abbrev pub invariant-loop-x : goal.invariant-loop-x
invariant-loop-x g l = record {
  sum : summed l.total (row_from (number_at g.N.NamesTurn.turn l.scratch.numbers.items l.self) (width_of l.self) l.y l.x) ≡ summed l.before (row_of (number_at g.N.NamesTurn.turn l.scratch.numbers.items l.self) (width_of l.self) l.y);
  same_reference : l.port.reader.ghost_name ≡ l.initial.port.reader.ghost_name;
}
