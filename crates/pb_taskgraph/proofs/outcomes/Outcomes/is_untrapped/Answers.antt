use Rattle.std.proofs.Common.{◌≡◌, refl, Bool, true, false, not, IsTrue}
use Rattle.pb_taskgraph.proofs.PackedLemmas.{numbers-all}
use Rattle.pb_taskgraph.proofs.outcomes.Outcomes.is_untrapped.Goals as goal

not_true : (b : Bool) → IsTrue (not b) → b ≡ false
not_true false h = refl
not_true true h = absurd (let wrong : false ≡ true = h in cc)

pub returns : goal.returns
returns c = λ h. numbers-all c.self.inside.words.items c.self.inside.trapped.items c.args.self.now c.self.view_is (c.self.invariant.none (not_true c.self.inside.any h))
