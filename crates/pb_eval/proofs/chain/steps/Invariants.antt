use Rattle.std.proofs.Common.{◌≡◌, drop}
use Rattle.pb_statements.specs.Stored.{bound, store_of}
use Rattle.pb_eval.specs.Terms.{steps_value}
use Rattle.pb_eval.proofs.chain.steps.Given as goal

abbrev pub invariant-loop-next : goal.invariant-loop-next
invariant-loop-next g l = record {
  value : steps_value (bound l.scene l.scratch) (store_of l.scratch) l.total (drop l.next-index l.rest) ≡ steps_value (bound l.scene l.scratch) (store_of l.scratch) l.first l.rest;
  same_reference : l.port.reader.ghost_name ≡ l.initial.port.reader.ghost_name;
}
