use Rattle.std.proofs.Common.{◌∙◌, refl, sym, ap, []}
use Rattle.pb_walk.specs.Walks.{WalkValue, walk_of}
use Rattle.pb_jobs.proofs.StepLemmas.{base_there, begun, ended, entry, inside, may, more}
use Rattle.pb_run_work.proofs.CopyLemmas.{copied, fits, may_read, next}
use Rattle.pb_run_work.proofs.copies.run_copy.Goals as goal

pub loop-stop-init : goal.loop-stop-init
loop-stop-init g c = record {
  among = begun (walk_of [] c.args.parts.now) (g.C.CellReader.turn c.args.port.now) (g.C.CellReader.turn c.args.port.now) c.begin.new.self.left refl (ap (λ (w : WalkValue). w.left) c.begin.ensures);
  room = ap (λ (w : WalkValue). w.room) c.begin.ensures;
}

pub cell_at-requires : goal.cell_at-requires
cell_at-requires g c = fits c.requires.copy c.loop-stop.invariant.among c.in-Some.stop c.in-Some.ensures.first c.saturating_sub-x.result c.saturating_sub-y.result c.saturating_sub-x.ensures c.saturating_sub-y.ensures

pub read-outcome-requires : goal.read-outcome-requires
read-outcome-requires g c = may_read c.requires.copy c.loop-stop.invariant.among c.in-Some.stop c.in-Some.ensures.first c.saturating_sub-x.result c.saturating_sub-y.result c.saturating_sub-x.ensures c.saturating_sub-y.ensures c.cell_at.result c.cell_at.ensures

pub bounds-views-stop : goal.bounds-views-stop
bounds-views-stop g c = base_there (copied c.requires.copy c.loop-stop.invariant.among c.in-Some.stop c.in-Some.ensures.first).next c.args.views.now refl

pub place-cell-requires : goal.place-cell-requires
place-cell-requires g c = inside (copied c.requires.copy c.loop-stop.invariant.among c.in-Some.stop c.in-Some.ensures.first).next c.args.views.now refl c.index-views-stop.result c.index-views-stop.is

pub write-requires : goal.write-requires
write-requires g c =
    let is = next c.requires.copy c.loop-stop.invariant.among c.in-Some.stop c.in-Some.ensures.first c.saturating_sub-x.result c.saturating_sub-y.result c.saturating_sub-x.ensures c.saturating_sub-y.ensures c.cell_at.result c.cell_at.ensures c.read-outcome.result c.read-outcome.ensures.outcome in
    let at = entry is c.args.views.now refl c.index-views-stop.result c.index-views-stop.is c.place-cell.result c.place-cell.ensures in
    may c.loop-stop.invariant.among c.place-cell.result c.read-outcome.result at (g.C.CellReader.turn c.read-outcome.new.self) c.read-outcome.ensures.stays

pub loop-stop-preserved : goal.loop-stop-preserved
loop-stop-preserved g c =
    let is = next c.requires.copy c.loop-stop.invariant.among c.in-Some.stop c.in-Some.ensures.first c.saturating_sub-x.result c.saturating_sub-y.result c.saturating_sub-x.ensures c.saturating_sub-y.ensures c.cell_at.result c.cell_at.ensures c.read-outcome.result c.read-outcome.ensures.outcome in
    let at = entry is c.args.views.now refl c.index-views-stop.result c.index-views-stop.is c.place-cell.result c.place-cell.ensures in
    record {
      among = more c.loop-stop.invariant.among c.place-cell.result c.read-outcome.result at (g.C.CellReader.turn c.read-outcome.new.self) c.read-outcome.ensures.stays (g.C.CellReader.turn c.write.new.self) c.next.new.self.left c.write.ensures (ap (λ (w : WalkValue). w.left) c.next.ensures.rest);
      room = ap (λ (w : WalkValue). w.room) c.next.ensures.rest ∙ c.loop-stop.invariant.room;
    }

pub returns-clause-written : goal.returns-clause-written
returns-clause-written g c = ended c.loop-stop.invariant.among c.requires.copy.count (sym c.in_default.is ∙ c.next.ensures.first)
