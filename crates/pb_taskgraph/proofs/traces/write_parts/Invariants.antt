use Rattle.std.proofs.Common.{◌≡◌, ◌++◌, drop}
use Rattle.std.specs.List.{flat_map}
use Rattle.pb_taskgraph.specs.Trace.{after_blank}
use Rattle.pb_taskgraph.proofs.traces.write_parts.Given as goal

abbrev pub invariant-loop-part : goal.invariant-loop-part
invariant-loop-part l = l.text.items ++ flat_map after_blank (drop l.part-index l.parts) ≡ l.fn.text.items ++ flat_map after_blank l.parts
