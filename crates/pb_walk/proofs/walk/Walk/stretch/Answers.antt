use Rattle.std.proofs.Common.{◌∙◌, List, None, ap, length, refl, subst, sym}
use Rattle.pb_walk.specs.Cursors.{IsBest, IsFirstOf, steps_of}
use Rattle.pb_walk.specs.Stretches.{GoesFirst}
use Rattle.pb_walk.specs.Walks.{WalkValue}
use Rattle.pb_walk.specs.declared.cursor.Cursor.{Cursor}
use Rattle.pb_walk.proofs.NextLemmas.{none_left, read_cursor}
use Rattle.pb_walk.proofs.StretchLemmas.{took, took_one}
use Rattle.pb_walk.proofs.walk.Walk.stretch.Goals as goal

pub returns-in_err-k-clause-none : goal.returns-in_err-k-clause-none
returns-in_err-k-clause-none c =
    let course = c.self.inside.course in
    let none = subst (λ (cs : List Cursor). IsBest course cs (length cs) None) c.deref.ensures.value c.in_err-k.ensures in
    rw c.from_residual.ensures (ap (λ (w : WalkValue). w.left) (sym c.self.view_is) ∙ none_left course c.self.inside.cursors.items none, refl)

pub line-line-requires : goal.line-line-requires
line-line-requires c =
    let course = c.self.inside.course in
    let cs = c.self.inside.cursors.items in
    let first = subst (λ (l : List Cursor). IsFirstOf course l (length l) c.in_ok-k.k) c.deref.ensures.value c.in_ok-k.ensures in
    ap (λ (d : Cursor). d.done) (sym (read_cursor course cs c.in_ok-k.k first c.index-cursor.result.now c.index-cursor.ensures)) ∙ first.left

pub after-requires-2 : goal.after-requires-2
after-requires-2 c =
    let course = c.self.inside.course in
    let cs = c.self.inside.cursors.items in
    let first = subst (λ (l : List Cursor). IsFirstOf course l (length l) c.in_ok-k.k) c.deref.ensures.value c.in_ok-k.ensures in
    ap (λ (d : Cursor). d.done) (sym (read_cursor course cs c.in_ok-k.k first c.index-cursor.result.now c.index-cursor.ensures)) ∙ first.left

pub returns-then-goes_first-clause-taken : goal.returns-then-goes_first-clause-taken
returns-then-goes_first-clause-taken c =
    let course = c.self.inside.course in
    let cs = c.self.inside.cursors.items in
    let k = c.in_ok-k.k in
    let end = c.at_last-end.result in
    let first = subst (λ (l : List Cursor). IsFirstOf course l (length l) k) c.deref.ensures.value c.in_ok-k.ensures in
    let before = subst (λ (l : List Cursor). GoesFirst (steps_of course) l k (length l) end) c.deref-2.ensures.value (c.goes_first.ensures c.if-goes_first.true) in
    took course cs c.self.inside.room k first c.index-cursor.result.now c.index-cursor.ensures c.args.self.now (sym c.self.view_is) c.sweep_of-sweep.result c.line-line.result c.line-line.ensures c.sweep_of-sweep.ensures
    end c.after.result c.at_last-end.ensures before c.after.ensures

pub returns-clause-taken : goal.returns-clause-taken
returns-clause-taken c =
    let course = c.self.inside.course in
    let cs = c.self.inside.cursors.items in
    let k = c.in_ok-k.k in
    let first = subst (λ (l : List Cursor). IsFirstOf course l (length l) k) c.deref.ensures.value c.in_ok-k.ensures in
    took_one course cs c.self.inside.room k first c.index-cursor.result.now c.index-cursor.ensures c.args.self.now (sym c.self.view_is) c.sweep_of-sweep.result c.line-line.result c.line-line.ensures
    c.first.result c.first.ensures c.after-2.result c.after-2.ensures
