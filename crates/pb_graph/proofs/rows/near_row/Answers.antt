use Rattle.std.proofs.Common.{◌∙◌, ap, sym, ◌++◌, ◌∷◌, [], map, take, arith}
use Rattle.std.proofs.lemmas.List.{map_more}
use Rattle.pb_linear.specs.Sizes.{leasts_of}
use Rattle.pb_graph.specs.Cached.{near_on}
use Rattle.pb_graph.proofs.CachedLemmas.{near_first}
use Rattle.pb_graph.proofs.rows.near_row.Goals as goal

pub loop-number-preserved-then-first-number : goal.loop-number-preserved-then-first-number
loop-number-preserved-then-first-number c =
    let leasts = leasts_of c.args.ranges.now in
    let n = c.loop-number.number in
    let nodes = c.args.nodes.now in
    let f = near_on leasts c.args.read.now c.args.axis c.args.area.now in
    let near = c.index-near.ensures ∙ near_first leasts nodes c.args.read.now c.args.axis c.args.area.now c.args.firsts.now c.loop-number.row.items n _ c.index-nodes-number.result c.requires.firsts (omega (arith, c.requires.room)) c.loop-number-test.true c.index-nodes-number.is c.if-first-number.true c.loop-number.invariant in
    c.in_ok-push.ensures.items ∙ ap (λ l. l ++ c.index-near.result.now ∷ []) c.loop-number.invariant ∙ ap (λ b. map f (take n nodes) ++ b ∷ []) (near ∙ ap f c.index-nodes-number.is) ∙ sym (map_more f nodes n c.index-nodes-number.result c.loop-number-test.true)
