use Rattle.std.proofs.Common.{arith}
use Rattle.pb_values.specs.Views.{view_cells}
use Rattle.pb_taskgraph.specs.declared.task.Part.{Part}
use Rattle.pb_core.proofs.WholeLemmas.{parts-hole, parts-whole}
use Rattle.pb_core.proofs.wholes.parts_written.Goals as goal

pub returns-then-not-view_written : goal.returns-then-not-view_written
returns-then-not-view_written c = parts-hole c.args.written.now (λ (part : Part). view_cells part.view) c.args.parts.now c.loop-part.part-index c.part-item.result c.loop-part-test.true c.part-item.is c.if-not-view_written.ensures

pub returns : goal.returns
returns c = parts-whole c.args.written.now (λ (part : Part). view_cells part.view) c.args.parts.now (λ k part below is. c.loop-part.invariant k part (omega arith) is)
