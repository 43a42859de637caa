use Rattle.std.proofs.Common.{◌≡◌, ◌≤◌, drop, length}
use Rattle.pb_statements.specs.Codes.{DoesAll, steps_of}
use Rattle.pb_statements.proofs.scene.Scene.+statement_translation.Given as goal

abbrev pub invariant-put_statements-loop-left : goal.invariant-put_statements-loop-left
invariant-put_statements-loop-left g l = record {
  inside : l.left ≤ length l.ss;
  code : DoesAll l.self l.room (drop l.left l.ss) (steps_of l.code) (steps_of l.initial.code);
  same_reference : l.port.reader.ghost_name ≡ l.initial.port.reader.ghost_name;
}

abbrev pub decreases-put_statements-loop-left : goal.decreases-put_statements-loop-left
decreases-put_statements-loop-left g l = l.left
