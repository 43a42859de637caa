use Rattle.std.proofs.Common.{◌∙◌, subst, sym, arith}
use Rattle.pb_jobs.proofs.AdvanceLemmas.{can_go, goes_on, index_there, moved_shaped}
use Rattle.pb_jobs.proofs.ListLemmas.{some_same}
use Rattle.pb_jobs.specs.Distances.{IsShaped}
use Rattle.pb_jobs.specs.declared.advance.Advance.{Advance}
use Rattle.pb_jobs.proofs.shown.Shown.next_view.Goals as goal

pub after-requires-clause-can : goal.after-requires-clause-can
after-requires-clause-can c =
    let v = c.index-2.result.now in
    let at_v = index_there c.args.self.now.views.items c.args.k v (omega (arith, c.requires.read, c.requires.count)) c.index-2.ensures in
    let at_a = index_there c.args.self.now.advances.items c.args.k c.index.result.now (omega (arith, c.requires.read, c.requires.advances.count)) c.index.ensures in
    can_go c.args.matrices.now c.args.reads.now c.args.windows.now c.args.stretch.now c.requires.within c.args.i c.requires.next c.args.k c.requires.read c.requires.windows c.args.self.now.views.items c.requires.shown c.args.self.now.advances.items c.requires.advances v at_v c.index.result.now at_a

pub returns-clause-shown : goal.returns-clause-shown
returns-clause-shown c =
    let v = c.index-2.result.now in
    let at_v = index_there c.args.self.now.views.items c.args.k v (omega (arith, c.requires.read, c.requires.count)) c.index-2.ensures in
    let at_a = index_there c.args.self.now.advances.items c.args.k c.index.result.now (omega (arith, c.requires.read, c.requires.advances.count)) c.index.ensures in
    goes_on c.args.matrices.now c.args.reads.now c.args.windows.now c.args.stretch.now c.requires.within c.args.i c.requires.next c.args.k c.requires.read c.requires.windows c.args.self.now.views.items c.requires.shown c.args.self.now.advances.items c.requires.advances v at_v c.index.result.now at_a c.after.result c.after.ensures

pub after-requires-clause-shaped : goal.after-requires-clause-shaped
after-requires-clause-shaped c =
    let v = c.index-2.result.now in
    let at_v = index_there c.args.self.now.views.items c.args.k v (omega (arith, c.requires.read, c.requires.count)) c.index-2.ensures in
    let at_a = index_there c.args.self.now.advances.items c.args.k c.index.result.now (omega (arith, c.requires.read, c.requires.advances.count)) c.index.ensures in
    c.requires.shaped c.args.k c.index.result.now v at_a at_v

pub returns-clause-shaped : goal.returns-clause-shaped
returns-clause-shaped c a at_a =
    let here = index_there c.args.self.now.advances.items c.args.k c.index.result.now (omega (arith, c.requires.read, c.requires.advances.count)) c.index.ensures in
    subst (λ (b : Advance). IsShaped b c.after.result) (some_same c.index.result.now a (sym here ∙ at_a)) (moved_shaped c.index.result.now c.index-2.result.now.first c.after.result c.after.ensures)
