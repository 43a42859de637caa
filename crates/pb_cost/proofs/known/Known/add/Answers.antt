use Rattle.std.proofs.Common.{◌≡◌, ◌⊎◌, subst, ap, map, List}
use Rattle.std.specs.List.{Contains}
use Rattle.pb_cost.specs.Known.{KnownCall, known_call}
use Rattle.pb_cost.proofs.KnownLemmas.{added, known}
use Rattle.pb_cost.proofs.known.Known.add.Goals as goal

pub returns : goal.returns
returns c = λ k h.
    let s = c.args.s.now in
    subst (λ (l : List KnownCall). Contains l k ⊎ (k ≡ known_call c.args.depth c.args.t s c.args.cost)) c.self.view_is
    (added (c.args.depth, c.args.t, s.count, s.of) c.args.cost c.self.inside.map.entries k (subst (λ (l : List KnownCall). Contains l k) (ap (map known) c.in_ok-insert.ensures.entries) h))
