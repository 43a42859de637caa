use Rattle.std.proofs.Common.{take}
use Rattle.std.specs.List.{AllZip}
use Rattle.pb_run_graph.specs.Ready.{IsPartIn}
use Rattle.pb_run_graph.proofs.parts.parts_in.Given as goal

abbrev pub invariant-loop-part : goal.invariant-loop-part
invariant-loop-part l = AllZip (IsPartIn l.decls l.nodes l.seats) (take l.part-index l.parts) l.found.items
