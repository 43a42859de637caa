use Rattle.std.proofs.Common.{subst, sym, length}
use Rattle.pb_jobs.specs.Shown.{AreShown}
use Rattle.pb_jobs.proofs.GiveLemmas.{as_many, few, gives_told, lie_within, reads_told, rule_below}
use Rattle.pb_jobs.proofs.instance.Instance.gives.Goals as goal

pub reads-requires : goal.reads-requires
reads-requires g c = rule_below c.args.self.now c.args.rule c.requires.can.rule c.requires.can.there

pub read_windows-requires-clause-below : goal.read_windows-requires-clause-below
read_windows-requires-clause-below g c = rule_below c.args.self.now c.args.rule c.requires.can.rule c.requires.can.there

pub show-requires-clause-few : goal.show-requires-clause-few
show-requires-clause-few g c =
    let can = c.requires.can in
    few c.args.self.now c.requires.ready c.args.rule c.args.x c.args.y _ can c.reads.result.now (c.reads.ensures can.rule can.there) c.read_windows.result.now (c.read_windows.ensures can.rule can.there) c.views.result.now c.views.ensures

pub show-requires-clause-windows : goal.show-requires-clause-windows
show-requires-clause-windows g c =
    let can = c.requires.can in
    as_many c.args.self.now c.requires.ready c.args.rule c.args.x c.args.y _ can c.reads.result.now (c.reads.ensures can.rule can.there) c.read_windows.result.now (c.read_windows.ensures can.rule can.there) c.views.result.now c.views.ensures

pub show-requires-clause-within : goal.show-requires-clause-within
show-requires-clause-within g c =
    let can = c.requires.can in
    lie_within c.args.self.now c.requires.ready c.args.rule c.args.x c.args.y _ can c.reads.result.now (c.reads.ensures can.rule can.there) c.read_windows.result.now (c.read_windows.ensures can.rule can.there) c.views.result.now c.views.ensures

pub run_over-requires-clause-reads : goal.run_over-requires-clause-reads
run_over-requires-clause-reads g c =
    let can = c.requires.can in
    let are = subst (AreShown c.views.result.now c.args.x c.args.y c.reads.result.now c.read_windows.result.now (length c.reads.result.now)) (sym c.deref.ensures.value) c.show.ensures.shown in
    reads_told c.args.self.now c.requires.ready c.args.rule c.args.x c.args.y _ can c.reads.result.now (c.reads.ensures can.rule can.there) c.read_windows.result.now (c.read_windows.ensures can.rule can.there) c.views.result.now c.views.ensures c.deref.result.now are

pub returns-clause-found : goal.returns-clause-found
returns-clause-found g c =
    let can = c.requires.can in
    let are = subst (AreShown c.views.result.now c.args.x c.args.y c.reads.result.now c.read_windows.result.now (length c.reads.result.now)) (sym c.deref.ensures.value) c.show.ensures.shown in
    gives_told c.args.self.now c.requires.ready c.args.rule c.args.x c.args.y _ can c.reads.result.now (c.reads.ensures can.rule can.there) c.read_windows.result.now (c.read_windows.ensures can.rule can.there) c.views.result.now c.views.ensures c.deref.result.now are
    c.run_over.result c.run_over.new.scratch c.run_over.ensures.found
