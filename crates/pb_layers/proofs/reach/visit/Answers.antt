use Rattle.std.proofs.Common.{sym, ◌∙◌, subst, ◌∷◌, [], false, List, ℕ}
use Rattle.std.proofs.Math.ListN.{set}
use Rattle.pb_layers.specs.Graphs.{IsVisited}
use Rattle.pb_layers.proofs.ListLemmas.{marked-read}
use Rattle.pb_layers.proofs.ReachedLemmas.{visited-taken}
use Rattle.pb_layers.proofs.reach.visit.Goals as goal

pub returns-in_ok-push : goal.returns-in_ok-push
returns-in_ok-push c =
    let within = c.args.within.now.items in
    let v = c.args.node in
    let P : List ℕ → Type 0 = λ l. IsVisited (v ∷ []) within c.args.found.now.items (set within v false) l in
    subst P (sym c.in_ok-push.ensures.items) (visited-taken within c.args.found.now.items v (marked-read within v c.index.result.now c.requires c.index.ensures ∙ c.if-index.true))
