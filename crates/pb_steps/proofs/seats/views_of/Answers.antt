use Rattle.std.proofs.Common.{ap}
use Rattle.pb_program.specs.Forms.{DeclValue}
use Rattle.pb_steps.proofs.ShowLemmas.{next_view}
use Rattle.pb_steps.proofs.seats.views_of.Goals as goal

pub loop-k-preserved : goal.loop-k-preserved
loop-k-preserved c =
    next_view c.args.decls.now c.args.seats.now c.loop-k.k c.index-decls-k.result _ c.decl.inside.dims c.loop-k-test.true c.index-decls-k.is (ap (λ (d : DeclValue). d.dims) c.decl.view_is) c.requires.count c.loop-k.views.items _ c.view.result c.loop-k.invariant c.view.ensures c.in_ok-push.ensures.items
