use Rattle.std.proofs.Common.{◌∙◌, ap}
use Rattle.std.proofs.lemmas.Result.{IfOk-weaker}
use Rattle.pb_linear.specs.Sizes.{leasts_of}
use Rattle.pb_graph.specs.Cached.{near_on, part}
use Rattle.pb_graph.proofs.CachedLemmas.{both_are, near_known, same_length}
use Rattle.pb_graph.proofs.rows.touched_row.Goals as goal

pub both-requires : goal.both-requires
both-requires c =
    let leasts = leasts_of c.args.ranges.now in
    let nodes = part c.args.nodes.now c.args.rows.now.first c.args.rows.now.end in
    let r = c.args.read.now in
    let a = c.args.area.now in
    let x = near_known leasts nodes r 0 a c.deref.result.now c.args.rows.now.x c.in-Some.x.now (c.deref.ensures.value ∙ ap (λ r. r.x) c.rows.view_is) c.requires.rows.on_x c.in-Some.ensures in
    let y = near_known leasts nodes r 1 a c.deref-in-Some.result.now c.args.rows.now.y c.in-Some-find_row.y.now (c.deref-in-Some.ensures.value ∙ ap (λ r. r.y) c.rows.view_is) c.requires.rows.on_y c.in-Some-find_row.ensures in
    same_length (near_on leasts r 0 a) (near_on leasts r 1 a) nodes _ _ x y

pub returns-in-Some-find_row-clause-found : goal.returns-in-Some-find_row-clause-found
returns-in-Some-find_row-clause-found c =
    let leasts = leasts_of c.args.ranges.now in
    let nodes = part c.args.nodes.now c.args.rows.now.first c.args.rows.now.end in
    let r = c.args.read.now in
    let a = c.args.area.now in
    let x = near_known leasts nodes r 0 a c.deref.result.now c.args.rows.now.x c.in-Some.x.now (c.deref.ensures.value ∙ ap (λ r. r.x) c.rows.view_is) c.requires.rows.on_x c.in-Some.ensures in
    let y = near_known leasts nodes r 1 a c.deref-in-Some.result.now c.args.rows.now.y c.in-Some-find_row.y.now (c.deref-in-Some.ensures.value ∙ ap (λ r. r.y) c.rows.view_is) c.requires.rows.on_y c.in-Some-find_row.ensures in
    IfOk-weaker c.both.result _ _ (λ bs found. found ∙ both_are leasts nodes r a _ _ x y) c.both.ensures.found
