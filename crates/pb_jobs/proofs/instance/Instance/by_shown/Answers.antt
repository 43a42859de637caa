use Rattle.std.proofs.Common.{subst, sym, length, List}
use Rattle.pb_program.specs.declared.view.Read.{Read}
use Rattle.pb_values.specs.declared.view.View.{View}
use Rattle.pb_jobs.specs.Shown.{AreShown}
use Rattle.pb_jobs.proofs.GiveLemmas.{as_many, few, lie_within, rule_below}
use Rattle.pb_jobs.proofs.instance.Instance.by_shown.Goals as goal

pub reads-requires : goal.reads-requires
reads-requires g c = rule_below c.args.self.now c.args.rule c.requires.can.rule c.requires.can.there

pub read_windows-requires-clause-below : goal.read_windows-requires-clause-below
read_windows-requires-clause-below g c = rule_below c.args.self.now c.args.rule c.requires.can.rule c.requires.can.there

pub show-requires-clause-few : goal.show-requires-clause-few
show-requires-clause-few g c =
    let can = c.requires.can in
    few c.args.self.now c.requires.ready c.args.rule c.args.x c.args.y _ can c.reads.result.now (c.reads.ensures can.rule can.there) c.read_windows.result.now (c.read_windows.ensures can.rule can.there) c.views.result.now c.views.ensures

pub show-requires-clause-windows : goal.show-requires-clause-windows
show-requires-clause-windows g c =
    let can = c.requires.can in
    as_many c.args.self.now c.requires.ready c.args.rule c.args.x c.args.y _ can c.reads.result.now (c.reads.ensures can.rule can.there) c.read_windows.result.now (c.read_windows.ensures can.rule can.there) c.views.result.now c.views.ensures

pub show-requires-clause-within : goal.show-requires-clause-within
show-requires-clause-within g c =
    let can = c.requires.can in
    lie_within c.args.self.now c.requires.ready c.args.rule c.args.x c.args.y _ can c.reads.result.now (c.reads.ensures can.rule can.there) c.read_windows.result.now (c.read_windows.ensures can.rule can.there) c.views.result.now c.views.ensures

pub by_body-requires-clause-shown : goal.by_body-requires-clause-shown
by_body-requires-clause-shown g c r at =
    let are = subst (AreShown c.views.result.now c.args.x c.args.y c.reads.result.now c.read_windows.result.now (length c.reads.result.now)) (sym c.deref.ensures.value) c.show.ensures.shown in
    record {
      windows = c.read_windows.result.now;
      are = c.read_windows.ensures r at;
      shown = subst (λ (p : List View × List Read). AreShown p.0 c.args.x c.args.y p.1 c.read_windows.result.now (length p.1) c.deref.result.now) (λ j. (c.views.ensures j, c.reads.ensures r at j)) are;
    }
