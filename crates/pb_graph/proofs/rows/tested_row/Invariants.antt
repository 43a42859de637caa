use Rattle.std.proofs.Common.{◌≡◌, map, take}
use Rattle.pb_linear.specs.Sizes.{leasts_of}
use Rattle.pb_graph.specs.Rows.{may_touch}
use Rattle.pb_graph.proofs.rows.tested_row.Given as goal

abbrev pub invariant-loop-source : goal.invariant-loop-source
invariant-loop-source l = l.row.items ≡ map (λ source. may_touch (leasts_of l.ranges) l.area source l.read) (take l.source-index l.nodes)
