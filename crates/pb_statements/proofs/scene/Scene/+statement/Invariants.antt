use Rattle.std.proofs.Common.{◌≡◌, ◌-◌, ◌+ℤ◌, pos, drop}
use Rattle.pb_statements.specs.Stored.{bound, SameRoom, store_of}
use Rattle.pb_statements.specs.Working.{repeated, stmts_in}
use Rattle.pb_statements.proofs.scene.Scene.+statement.Given as goal

abbrev pub invariant-statements-loop-next : goal.invariant-statements-loop-next
invariant-statements-loop-next g l = record {
  after : stmts_in (bound l.self l.initial.scratch) (drop l.next-index l.ss) (store_of l.scratch) ≡ stmts_in (bound l.self l.initial.scratch) l.ss (store_of l.initial.scratch);
  room : SameRoom l.initial.scratch l.scratch;
  same_reference : l.port.reader.ghost_name ≡ l.initial.port.reader.ghost_name;
}

abbrev pub invariant-walk-loop-k : goal.invariant-walk-loop-k
invariant-walk-loop-k g l = record {
  after : repeated (bound l.self l.initial.scratch) l.name l.body (l.turns.low +ℤ pos l.k) (l.turns.count - l.k) (store_of l.scratch) ≡ repeated (bound l.self l.initial.scratch) l.name l.body l.turns.low l.turns.count (store_of l.initial.scratch);
  room : SameRoom l.initial.scratch l.scratch;
  same_reference : l.port.reader.ghost_name ≡ l.initial.port.reader.ghost_name;
}
