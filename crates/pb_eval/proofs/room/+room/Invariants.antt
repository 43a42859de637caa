use Rattle.std.proofs.Common.{◌≡◌, drop, max}
use Rattle.pb_statements.specs.Working.{rooms_in}
use Rattle.pb_eval.proofs.room.+room.Given as goal

abbrev pub invariant-rooms-loop-next : goal.invariant-rooms-loop-next
invariant-rooms-loop-next l = max l.found (rooms_in (drop l.next-index l.ss)) ≡ rooms_in l.ss
