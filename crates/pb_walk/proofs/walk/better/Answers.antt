use Rattle.std.proofs.Common.{◌∙◌, sym, subst}
use Rattle.pb_walk.specs.Cursors.{IsBest}
use Rattle.pb_walk.proofs.BestLemmas.{best_done, best_kept_by, best_moved_by, item_at, none_taken}
use Rattle.pb_walk.proofs.walk.better.Goals as goal

pub returns-then-cursor : goal.returns-then-cursor
returns-then-cursor c =
    let x = c.index-cursors-k.result in
    let there = item_at c.args.cursors.now c.args.k x c.requires.inside c.index-cursors-k.is in
    best_done c.args.course c.args.cursors.now c.args.k x there c.args.found c.requires.best c.if-cursor.true

pub returns-in-None : goal.returns-in-None
returns-in-None c =
    let x = c.index-cursors-k.result in
    let there = item_at c.args.cursors.now c.args.k x c.requires.inside c.index-cursors-k.is in
    none_taken c.args.course c.args.cursors.now c.args.k x there (subst (IsBest c.args.course c.args.cursors.now c.args.k) c.in-None.is c.requires.best) c.if-cursor.false

pub returns-in-Less : goal.returns-in-Less
returns-in-Less c =
    let x = c.index-cursors-k.result in
    let there = item_at c.args.cursors.now c.args.k x c.requires.inside c.index-cursors-k.is in
    best_moved_by c.args.course c.args.cursors.now c.args.k x there c.in-Some.best (subst (IsBest c.args.course c.args.cursors.now c.args.k) c.in-Some.is c.requires.best) c.index-cursors-best.result c.index-cursors-best.is
    c.if-cursor.false (sym c.in-Less.ensures)

pub returns-in_default : goal.returns-in_default
returns-in_default c =
    let x = c.index-cursors-k.result in
    let there = item_at c.args.cursors.now c.args.k x c.requires.inside c.index-cursors-k.is in
    best_kept_by c.args.course c.args.cursors.now c.args.k x there c.in-Some.best (subst (IsBest c.args.course c.args.cursors.now c.args.k) c.in-Some.is c.requires.best) c.index-cursors-best.result c.index-cursors-best.is
    (λ e. c.in_default.not-Less (c.compare.ensures ∙ e))
