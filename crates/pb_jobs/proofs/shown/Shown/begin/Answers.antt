use Rattle.std.proofs.Common.{◌≡◌, ◌∙◌, ◌<◌, ap, refl, sym, subst, length, slice_get, Some, arith}
use Rattle.std.specs.Prelude.{slice_index_or}
use Rattle.pb_program.specs.declared.view.Read.{Read}
use Rattle.pb_walk.specs.Stretches.{place_on}
use Rattle.pb_jobs.proofs.AdvanceLemmas.{advances_more, index_there, room_at, shaped_more, shown_with, window_on}
use Rattle.pb_values.specs.declared.view.View.{View}
use Rattle.pb_jobs.specs.Advances.{AreShaped}
use Rattle.pb_jobs.specs.Distances.{IsShaped}
use Rattle.pb_jobs.specs.Shown.{AreShown}
use Rattle.pb_jobs.proofs.ListLemmas.{some_at}
use Rattle.pb_jobs.proofs.ShownLemmas.{matrix_there}
use Rattle.pb_jobs.proofs.shown.Shown.begin.Goals as goal

pub bounds-matrices-reads : goal.bounds-matrices-reads
bounds-matrices-reads c =
    let r = c.index-reads-k.result in
    let at_r : slice_get c.args.reads.now c.loop-k.k ≡ Some r = index_there c.args.reads.now c.loop-k.k r c.loop-k-test.true c.index-reads-k.is in
    let w = some_at c.args.windows.now c.loop-k.k (omega (arith, c.loop-k-test.true, c.requires.windows)) in
    let p = place_on c.args.stretch.now 0 in
    subst (λ (q : Read). q.matrix < length c.args.matrices.now) c.index-reads-k.is (matrix_there c.args.matrices.now p.x p.y c.args.reads.now c.args.windows.now (c.requires.within 0 c.requires.some).within c.loop-k.k r w.0 at_r w.1)

pub advance_along-requires : goal.advance_along-requires
advance_along-requires c =
    let r = c.index-reads-k.result in
    let at_r : slice_get c.args.reads.now c.loop-k.k ≡ Some r = index_there c.args.reads.now c.loop-k.k r c.loop-k-test.true c.index-reads-k.is in
    let w = c.index-windows-k.result in
    let at_w : slice_get c.args.windows.now c.loop-k.k ≡ Some w = index_there c.args.windows.now c.loop-k.k w (omega (arith, c.loop-k-test.true, c.requires.windows)) c.index-windows-k.is in
    let m = c.index-matrices-reads.result in
    let p = place_on c.args.stretch.now 0 in
    let there : r.matrix < length c.args.matrices.now = matrix_there c.args.matrices.now p.x p.y c.args.reads.now c.args.windows.now (c.requires.within 0 c.requires.some).within c.loop-k.k r w at_r at_w in
    let at_m : slice_get c.args.matrices.now r.matrix ≡ Some m = index_there c.args.matrices.now r.matrix m there (c.index-matrices-reads.is ∙ ap (λ (q : Read). slice_index_or c.args.matrices.now q.matrix m) (sym c.index-reads-k.is)) in
    window_on c.args.matrices.now c.args.reads.now c.args.windows.now c.args.stretch.now c.requires.within c.loop-k.k r w at_r at_w m at_m

pub at-requires : goal.at-requires
at-requires c =
    let r = c.index-reads-k.result in
    let at_r : slice_get c.args.reads.now c.loop-k.k ≡ Some r = index_there c.args.reads.now c.loop-k.k r c.loop-k-test.true c.index-reads-k.is in
    let w = c.index-windows-k.result in
    let at_w : slice_get c.args.windows.now c.loop-k.k ≡ Some w = index_there c.args.windows.now c.loop-k.k w (omega (arith, c.loop-k-test.true, c.requires.windows)) c.index-windows-k.is in
    let m = c.index-matrices-reads.result in
    let p = place_on c.args.stretch.now 0 in
    let there : r.matrix < length c.args.matrices.now = matrix_there c.args.matrices.now p.x p.y c.args.reads.now c.args.windows.now (c.requires.within 0 c.requires.some).within c.loop-k.k r w at_r at_w in
    let at_m : slice_get c.args.matrices.now r.matrix ≡ Some m = index_there c.args.matrices.now r.matrix m there (c.index-matrices-reads.is ∙ ap (λ (q : Read). slice_index_or c.args.matrices.now q.matrix m) (sym c.index-reads-k.is)) in
    let views = c.put_advance.new.self.views.items in
    let are : AreShown c.args.matrices.now p.x p.y c.args.reads.now c.args.windows.now (length c.args.reads.now) views = subst (λ l. AreShown c.args.matrices.now p.x p.y c.args.reads.now c.args.windows.now (length c.args.reads.now) l.items) (sym c.put_advance.ensures.views) c.loop-k.invariant.shown in
    let v = c.index.result.now in
    let at_v : slice_get views c.loop-k.k ≡ Some v = index_there views c.loop-k.k v (omega (arith, c.loop-k-test.true, are.count)) c.index.ensures in
    room_at c.args.matrices.now c.args.reads.now c.args.windows.now c.args.stretch.now c.requires.within 0 c.requires.some views are c.loop-k.k r w m v c.in-Some.advance at_r at_w at_m at_v c.in-Some.ensures

pub loop-k-preserved : goal.loop-k-preserved
loop-k-preserved c =
    let r = c.index-reads-k.result in
    let at_r : slice_get c.args.reads.now c.loop-k.k ≡ Some r = index_there c.args.reads.now c.loop-k.k r c.loop-k-test.true c.index-reads-k.is in
    let w = c.index-windows-k.result in
    let at_w : slice_get c.args.windows.now c.loop-k.k ≡ Some w = index_there c.args.windows.now c.loop-k.k w (omega (arith, c.loop-k-test.true, c.requires.windows)) c.index-windows-k.is in
    let m = c.index-matrices-reads.result in
    let p = place_on c.args.stretch.now 0 in
    let there : r.matrix < length c.args.matrices.now = matrix_there c.args.matrices.now p.x p.y c.args.reads.now c.args.windows.now (c.requires.within 0 c.requires.some).within c.loop-k.k r w at_r at_w in
    let at_m : slice_get c.args.matrices.now r.matrix ≡ Some m = index_there c.args.matrices.now r.matrix m there (c.index-matrices-reads.is ∙ ap (λ (q : Read). slice_index_or c.args.matrices.now q.matrix m) (sym c.index-reads-k.is)) in
    let views = c.put_advance.new.self.views.items in
    let are : AreShown c.args.matrices.now p.x p.y c.args.reads.now c.args.windows.now (length c.args.reads.now) views = subst (λ l. AreShown c.args.matrices.now p.x p.y c.args.reads.now c.args.windows.now (length c.args.reads.now) l.items) (sym c.put_advance.ensures.views) c.loop-k.invariant.shown in
    let shaped : AreShaped c.loop-k.self.advances.items views = subst (λ l. AreShaped c.loop-k.self.advances.items l.items) (sym c.put_advance.ensures.views) c.loop-k.invariant.shaped in
    let v = c.index.result.now in
    let at_v : slice_get views c.loop-k.k ≡ Some v = index_there views c.loop-k.k v (omega (arith, c.loop-k-test.true, are.count)) c.index.ensures in
    let a = c.in-Some.advance in
    let u = c.by_fields.result in
    let is : IsShaped a u = subst (IsShaped a) (sym c.by_fields.ensures) c.at.ensures.shaped in
    record {
      advances = advances_more c.args.matrices.now c.args.stretch.now c.args.reads.now c.args.windows.now c.loop-k.k c.loop-k.self.advances.items _ r w c.in-Some.advance m c.loop-k.invariant.advances at_r at_w at_m c.in-Some.ensures c.put_advance.ensures.advances;
      shaped = shaped_more c.loop-k.self.advances.items c.put_advance.new.self.advances.items views _ c.loop-k.k a u c.loop-k.invariant.advances.count shaped is c.put_advance.ensures.advances refl;
      shown = shown_with c.args.matrices.now c.args.reads.now c.args.windows.now c.args.stretch.now c.requires.within 0 c.requires.some views are c.loop-k.k r w m v a at_r at_w at_m at_v c.in-Some.ensures _ u (ap (λ (q : View). q.first) c.by_fields.ensures ∙ c.at.ensures.first) is refl;
    }
