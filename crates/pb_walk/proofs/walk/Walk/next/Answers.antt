use Rattle.std.proofs.Common.{◌∙◌, List, None, ap, length, subst, sym}
use Rattle.pb_walk.specs.declared.cursor.Cursor.{Cursor}
use Rattle.pb_walk.specs.Cursors.{IsBest, IsFirstOf}
use Rattle.pb_walk.proofs.NextLemmas.{ended, read_cursor, went_on}
use Rattle.pb_walk.proofs.walk.Walk.next.Goals as goal

pub returns-in_err-k-clause-first : goal.returns-in_err-k-clause-first
returns-in_err-k-clause-first c =
    let course = c.self.inside.course in
    let none = subst (λ (cs : List Cursor). IsBest course cs (length cs) None) c.deref.ensures.value c.in_err-k.ensures in
    c.from_residual.ensures ∙ (ended course c.self.inside.cursors.items c.self.inside.room c.args.self.now (sym c.self.view_is) none).0

pub returns-in_err-k-clause-rest : goal.returns-in_err-k-clause-rest
returns-in_err-k-clause-rest c =
    let course = c.self.inside.course in
    let none = subst (λ (cs : List Cursor). IsBest course cs (length cs) None) c.deref.ensures.value c.in_err-k.ensures in
    (ended course c.self.inside.cursors.items c.self.inside.room c.args.self.now (sym c.self.view_is) none).1

pub after-requires : goal.after-requires
after-requires c =
    let course = c.self.inside.course in
    let cs = c.self.inside.cursors.items in
    let first = subst (λ (l : List Cursor). IsFirstOf course l (length l) c.in_ok-k.k) c.deref.ensures.value c.in_ok-k.ensures in
    ap (λ (d : Cursor). d.done) (sym (read_cursor course cs c.in_ok-k.k first c.index-cursor.result.now c.index-cursor.ensures)) ∙ first.left

pub returns-clause-first : goal.returns-clause-first
returns-clause-first c =
    let course = c.self.inside.course in
    let cs = c.self.inside.cursors.items in
    let first = subst (λ (l : List Cursor). IsFirstOf course l (length l) c.in_ok-k.k) c.deref.ensures.value c.in_ok-k.ensures in
    (went_on course cs c.self.inside.room c.in_ok-k.k first c.index-cursor.result.now c.after.result c.args.self.now c.index-cursor.ensures c.after.ensures (sym c.self.view_is)).0

pub returns-clause-rest : goal.returns-clause-rest
returns-clause-rest c =
    let course = c.self.inside.course in
    let cs = c.self.inside.cursors.items in
    let first = subst (λ (l : List Cursor). IsFirstOf course l (length l) c.in_ok-k.k) c.deref.ensures.value c.in_ok-k.ensures in
    (went_on course cs c.self.inside.room c.in_ok-k.k first c.index-cursor.result.now c.after.result c.args.self.now c.index-cursor.ensures c.after.ensures (sym c.self.view_is)).1
