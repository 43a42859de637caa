use Rattle.std.proofs.Common.{◌≡◌, ◌∙◌, ◌<◌, ap, sym, subst, length, slice_get, Some, arith, ◌++◌, ◌∷◌, []}
use Rattle.std.specs.Prelude.{slice_index_or}
use Rattle.std.proofs.lemmas.Option.{slice_get-get_or}
use Rattle.pb_program.specs.declared.view.Read.{Read}
use Rattle.pb_jobs.proofs.ListLemmas.{some_at}
use Rattle.pb_jobs.proofs.ShownLemmas.{lies_within, matrix_there, shown_more}
use Rattle.pb_jobs.proofs.shown.Shown.show.Goals as goal

pub bounds-matrices-reads : goal.bounds-matrices-reads
bounds-matrices-reads c =
    let r = c.index-reads-k.result in
    let at_r : slice_get c.args.reads.now c.loop-k.k ≡ Some r = slice_get-get_or c.args.reads.now c.loop-k.k r c.loop-k-test.true ∙ ap Some (sym c.index-reads-k.is) in
    let w = some_at c.args.windows.now c.loop-k.k (omega (arith, c.loop-k-test.true, c.requires.windows)) in
    subst (λ (q : Read). q.matrix < length c.args.matrices.now) c.index-reads-k.is (matrix_there c.args.matrices.now c.args.x c.args.y c.args.reads.now c.args.windows.now c.requires.within c.loop-k.k r w.0 at_r w.1)

pub show-requires-clause-within : goal.show-requires-clause-within
show-requires-clause-within c =
    let r = c.index-reads-k.result in
    let at_r : slice_get c.args.reads.now c.loop-k.k ≡ Some r = slice_get-get_or c.args.reads.now c.loop-k.k r c.loop-k-test.true ∙ ap Some (sym c.index-reads-k.is) in
    let w = c.index-windows-k.result in
    let at_w : slice_get c.args.windows.now c.loop-k.k ≡ Some w = slice_get-get_or c.args.windows.now c.loop-k.k w (omega (arith, c.loop-k-test.true, c.requires.windows)) ∙ ap Some (sym c.index-windows-k.is) in
    let m = c.index-matrices-reads.result in
    let there : r.matrix < length c.args.matrices.now = matrix_there c.args.matrices.now c.args.x c.args.y c.args.reads.now c.args.windows.now c.requires.within c.loop-k.k r w at_r at_w in
    let at_m : slice_get c.args.matrices.now r.matrix ≡ Some m = slice_get-get_or c.args.matrices.now r.matrix m there ∙ ap Some (sym (c.index-matrices-reads.is ∙ ap (λ (q : Read). slice_index_or c.args.matrices.now q.matrix m) (sym c.index-reads-k.is))) in
    lies_within c.args.matrices.now c.args.x c.args.y c.args.reads.now c.args.windows.now c.requires.within c.loop-k.k r w at_r at_w m at_m

pub loop-k-preserved : goal.loop-k-preserved
loop-k-preserved c =
    let r = c.index-reads-k.result in
    let at_r : slice_get c.args.reads.now c.loop-k.k ≡ Some r = slice_get-get_or c.args.reads.now c.loop-k.k r c.loop-k-test.true ∙ ap Some (sym c.index-reads-k.is) in
    let w = c.index-windows-k.result in
    let at_w : slice_get c.args.windows.now c.loop-k.k ≡ Some w = slice_get-get_or c.args.windows.now c.loop-k.k w (omega (arith, c.loop-k-test.true, c.requires.windows)) ∙ ap Some (sym c.index-windows-k.is) in
    let m = c.index-matrices-reads.result in
    let there : r.matrix < length c.args.matrices.now = matrix_there c.args.matrices.now c.args.x c.args.y c.args.reads.now c.args.windows.now c.requires.within c.loop-k.k r w at_r at_w in
    let at_m : slice_get c.args.matrices.now r.matrix ≡ Some m = slice_get-get_or c.args.matrices.now r.matrix m there ∙ ap Some (sym (c.index-matrices-reads.is ∙ ap (λ (q : Read). slice_index_or c.args.matrices.now q.matrix m) (sym c.index-reads-k.is))) in
    record {
      shown = shown_more c.args.matrices.now c.args.x c.args.y c.args.reads.now c.args.windows.now c.loop-k.k c.loop-k.self.views.items _ r w m c.show.result c.loop-k.invariant.shown at_r at_w at_m c.show.ensures (c.put.ensures.views ∙ ap (λ v. c.loop-k.self.views.items ++ v ∷ []) c.by_fields.ensures);
      advances = c.put.ensures.advances ∙ c.loop-k.invariant.advances;
      cells = c.put.ensures.cells ∙ c.loop-k.invariant.cells;
    }
