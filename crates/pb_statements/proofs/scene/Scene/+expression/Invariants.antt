use Rattle.std.proofs.Common.{◌≡◌, drop}
use Rattle.pb_statements.specs.Stored.{bound, store_of}
use Rattle.pb_statements.specs.Working.{values_in}
use Rattle.pb_statements.proofs.scene.Scene.+expression.Given as goal

abbrev pub invariant-values-loop-next : goal.invariant-values-loop-next
invariant-values-loop-next g l = record {
  value : values_in (bound l.self l.scratch) (store_of l.scratch) l.total (drop l.next-index l.rest) ≡ values_in (bound l.self l.scratch) (store_of l.scratch) l.first l.rest;
  same_reference : l.port.reader.ghost_name ≡ l.initial.port.reader.ghost_name;
}
