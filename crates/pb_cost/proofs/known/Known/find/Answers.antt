use Rattle.std.proofs.Common.{◌∙◌, subst, List}
use Rattle.std.specs.Option.{IfSome}
use Rattle.std.specs.List.{Contains}
use Rattle.pb_cost.specs.Known.{KnownCall, known_call}
use Rattle.pb_cost.proofs.KnownLemmas.{if_found}
use Rattle.pb_cost.proofs.known.Known.find.Goals as goal

pub returns : goal.returns
returns c =
    let s = c.args.s.now in
    subst (λ (l : List KnownCall). IfSome c.copied.result (λ cost. Contains l (known_call c.args.depth c.args.t s cost))) c.self.view_is
    (if_found c.copied.result (c.args.depth, c.args.t, s.count, s.of) c.self.inside.map.entries (c.copied.ensures ∙ c.get.ensures.value))
