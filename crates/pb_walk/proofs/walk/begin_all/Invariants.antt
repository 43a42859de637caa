use Rattle.std.proofs.Common.{◌≡◌, ◌≤◌, ◌++◌, drop, length, vec_capacity}
use Rattle.std.specs.List.{All}
use Rattle.pb_walk.specs.Cursors.{IsBegun, spots, steps_of}
use Rattle.pb_walk.proofs.walk.begin_all.Given as goal

abbrev pub invariant-loop-piece : goal.invariant-loop-piece
invariant-loop-piece l = record {
  spots : spots l.cursors.items ++ drop l.piece-index l.pieces ≡ l.pieces;
  begun : All (IsBegun (steps_of l.course)) l.cursors.items;
  count : length l.cursors.items ≡ l.piece-index;
  room : vec_capacity l.initial.cursors ≤ vec_capacity l.cursors;
}
