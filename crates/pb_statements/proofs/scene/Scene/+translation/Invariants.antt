use Rattle.std.proofs.Common.{◌≡◌, ◌≤◌, drop, length}
use Rattle.pb_statements.specs.Codes.{MakesValues, steps_of}
use Rattle.pb_statements.proofs.scene.Scene.+translation.Given as goal

abbrev pub invariant-put_operands-loop-left : goal.invariant-put_operands-loop-left
invariant-put_operands-loop-left g l = record {
  inside : l.left ≤ length l.rest;
  code : MakesValues l.self l.depth (drop l.left l.rest) (steps_of l.code) (steps_of l.initial.code);
  same_reference : l.port.reader.ghost_name ≡ l.initial.port.reader.ghost_name;
}

abbrev pub decreases-put_operands-loop-left : goal.decreases-put_operands-loop-left
decreases-put_operands-loop-left g l = l.left
