use Rattle.std.proofs.Common.{ap, length, arith}
use Rattle.pb_taskgraph.proofs.PackedLemmas.{length_in}
use Rattle.pb_taskgraph.proofs.outcomes.Outcomes.count.Goals as goal

pub returns : goal.returns
returns c = omega (arith, c.self.inside.words.ok.0, c.len.ensures, length_in c.self.inside.words.items c.self.inside.trapped.items, ap length c.self.view_is)
