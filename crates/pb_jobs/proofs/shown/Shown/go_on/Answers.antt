use Rattle.std.proofs.Common.{ap, refl, set, arith}
use Rattle.pb_values.specs.declared.view.View.{View}
use Rattle.pb_jobs.proofs.AdvanceLemmas.{half_begun, half_done, half_more, shaped_set}
use Rattle.pb_jobs.proofs.shown.Shown.go_on.Goals as goal

pub loop-k-init : goal.loop-k-init
loop-k-init c = record {
  views = half_begun c.args.matrices.now c.args.reads.now c.args.windows.now c.args.stretch.now c.args.i c.args.self.now.views.items c.requires.shown;
  shaped = c.requires.shaped;
  advances = refl;
}

pub next_view-view-requires-clause-shown : goal.next_view-view-requires-clause-shown
next_view-view-requires-clause-shown c = c.loop-k.invariant.views.still c.loop-k.k (omega arith)

pub loop-k-preserved : goal.loop-k-preserved
loop-k-preserved c = record {
  views = half_more c.args.matrices.now c.args.reads.now c.args.windows.now c.args.stretch.now c.args.i c.loop-k.k c.loop-k.self.views.items _ c.next_view-view.result c.loop-k.invariant.views c.next_view-view.ensures.shown
      (ap (λ (v : View). set c.loop-k.self.views.items c.loop-k.k v) c.by_fields.ensures);
  shaped = shaped_set c.loop-k.self.advances.items c.loop-k.self.views.items _ c.loop-k.k c.next_view-view.result c.loop-k.invariant.shaped c.next_view-view.ensures.shaped (ap (λ (v : View). set c.loop-k.self.views.items c.loop-k.k v) c.by_fields.ensures);
  advances = c.loop-k.invariant.advances;
}

pub returns-clause-shown : goal.returns-clause-shown
returns-clause-shown c = λ _.
    half_done c.args.matrices.now c.args.reads.now c.args.windows.now c.args.stretch.now c.args.i c.loop-k.k c.loop-k.self.views.items (omega (arith, c.loop-k-test.false)) c.loop-k.invariant.views
