use Rattle.std.proofs.Common.{◌∙◌, sym, ap, arith}
use Rattle.std.specs.Prelude.{slice_index_or}
use Rattle.pb_program.specs.declared.view.Read.{Read}
use Rattle.pb_jobs.proofs.ListLemmas.{item_at}
use Rattle.pb_jobs.proofs.OutputLemmas.{lies_at, matrix_there, view_at, window_there, window_within}
use Rattle.pb_jobs.proofs.instance.Instance.output_box.Goals as goal

pub bounds-out_windows-k : goal.bounds-out_windows-k
bounds-out_windows-k c =
    let can = c.requires.can in
    let at = item_at c.outs.result.now can.rule.outs c.args.k c.index-outs-k.result (c.outs.ensures can.rule can.there) (c.requires.below can.rule can.there) c.index-outs-k.is in
    window_there c.requires.ready can c.args.k c.index-outs-k.result at c.out_windows.result.now (c.out_windows.ensures can.rule can.there)

pub bounds-views-base : goal.bounds-views-base
bounds-views-base c =
    let can = c.requires.can in
    let out = c.index-outs-k.result in
    let at = item_at c.outs.result.now can.rule.outs c.args.k out (c.outs.ensures can.rule can.there) (c.requires.below can.rule can.there) c.index-outs-k.is in
    omega (arith, matrix_there c.requires.ready can c.args.k out at c.views-views.result.now c.views-views.ensures, ap (λ (q : Read). q.matrix) c.index-outs-k.is)

pub rect-rect-requires-clause-within : goal.rect-rect-requires-clause-within
rect-rect-requires-clause-within c =
    let can = c.requires.can in
    let out = c.index-outs-k.result in
    let at = item_at c.outs.result.now can.rule.outs c.args.k out (c.outs.ensures can.rule can.there) (c.requires.below can.rule can.there) c.index-outs-k.is in
    let m = c.index-views-base.result in
    let at_m = view_at c.requires.ready can c.args.k out at c.views-views.result.now c.views-views.ensures m (c.index-views-base.is ∙ ap (λ (q : Read). slice_index_or c.views-views.result.now q.matrix m) (sym c.index-outs-k.is)) in
    window_within c.requires.ready can c.args.k out at c.out_windows.result.now (c.out_windows.ensures can.rule can.there) c.index-out_windows-k.result c.index-out_windows-k.is m at_m

pub returns : goal.returns
returns c = λ r there.
    let can = c.requires.can in
    let out = c.index-outs-k.result in
    let at = item_at c.outs.result.now can.rule.outs c.args.k out (c.outs.ensures can.rule can.there) (c.requires.below can.rule can.there) c.index-outs-k.is in
    let m = c.index-views-base.result in
    let at_m = view_at c.requires.ready can c.args.k out at c.views-views.result.now c.views-views.ensures m (c.index-views-base.is ∙ ap (λ (q : Read). slice_index_or c.views-views.result.now q.matrix m) (sym c.index-outs-k.is)) in
    lies_at c.requires.ready can c.args.k out at c.out_windows.result.now (c.out_windows.ensures can.rule can.there) c.index-out_windows-k.result c.index-out_windows-k.is m at_m (record { base = (slice_index_or c.outs.result.now c.args.k out).matrix; rect = c.rect-rect.result }) (ap (λ (q : Read). q.matrix) (sym c.index-outs-k.is)) c.rect-rect.ensures r there
