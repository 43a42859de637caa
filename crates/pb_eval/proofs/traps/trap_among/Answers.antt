use Rattle.std.proofs.Common.{◌<◌, ◌≤◌, ◌∙◌, length, arith}
use Rattle.pb_eval.proofs.TrapLemmas.{views_end, views_none, views_some}
use Rattle.pb_eval.proofs.traps.trap_among.Goals as goal

pub returns-in-Some-clause-trap : goal.returns-in-Some-clause-trap
returns-in-Some-clause-trap g c =
    let inside : c.loop-view.view-index < length c.args.views.now = omega arith in
    views_some _ _ _ _ _ inside c.view-item.is c.in-Some.ensures.trap ∙ c.loop-view.invariant.trap

pub loop-view-preserved : goal.loop-view-preserved
loop-view-preserved g c =
    let inside : c.loop-view.view-index < length c.args.views.now = omega arith in
    record {
      trap = views_none _ _ _ _ inside c.view-item.is c.in-None.ensures.trap ∙ c.loop-view.invariant.trap;
      same_reference = c.view_trap.ensures.same_reference ∙ c.loop-view.invariant.same_reference;
    }

pub returns-clause-trap : goal.returns-clause-trap
returns-clause-trap g c =
    let past : length c.args.views.now ≤ c.loop-view.view-index = omega arith in
    views_end _ _ _ past ∙ c.loop-view.invariant.trap
