use Rattle.std.proofs.Common.{◌∙◌, [], refl, sym, ap, subst}
use Rattle.pb_program.specs.Trees.{bare_prog}
use Rattle.pb_eval.specs.Running.{Gives}
use Rattle.pb_walk.specs.Walks.{WalkValue, walk_of}
use Rattle.pb_jobs.specs.Instances.{given_by, of_sizes}
use Rattle.pb_jobs.specs.Rooms.{HasRoomFor}
use Rattle.pb_jobs.specs.declared.room.Rooms.{Rooms}
use Rattle.pb_jobs.proofs.StepLemmas.{base_there, begun, ended, entry, inside, itself, may, more, same_rooms, stop_at}
use Rattle.pb_jobs.proofs.WholeLemmas.{can_give, can_run, counted, next}
use Rattle.pb_jobs.proofs.instance.Instance.run_whole.Goals as goal

pub gives-gave-requires-clause-can : goal.gives-gave-requires-clause-can
gives-gave-requires-clause-can g c = can_run c.requires.whole

pub loop-stop-init : goal.loop-stop-init
loop-stop-init g c = record {
  among = begun (walk_of [] c.args.parts.now) (g.C.CellReader.turn c.args.port.now) (g.C.CellReader.turn c.gives-gave.new.port) c.begin.new.self.left c.gives-gave.ensures.stays (ap (λ (w : WalkValue). w.left) c.begin.ensures);
  room = same_rooms c.args.scratch.now (record { walk = c.begin.new.self; rule = c.gives-gave.new.scratch }) c.gives-gave.ensures.room (ap (λ (w : WalkValue). w.room) c.begin.ensures);
  body = refl;
}

pub outcome-outcome-requires-clause-can : goal.outcome-outcome-requires-clause-can
outcome-outcome-requires-clause-can g c = can_give c.requires.whole

pub outcome-outcome-requires-clause-room : goal.outcome-outcome-requires-clause-room
outcome-outcome-requires-clause-room g c =
    let v = c.args.self.now in
    subst (λ (r : Rooms). HasRoomFor (bare_prog v.program) v.number (of_sizes v) r c.args.rule) (sym c.loop-stop.invariant.room) c.requires.room

pub bounds-views-stop : goal.bounds-views-stop
bounds-views-stop g c = base_there (c.requires.whole.each _ c.in-Some.stop (stop_at c.loop-stop.invariant.among c.in-Some.stop c.in-Some.ensures.first)) c.views-views.result.now c.views-views.ensures

pub place-cell-requires : goal.place-cell-requires
place-cell-requires g c = inside (c.requires.whole.each _ c.in-Some.stop (stop_at c.loop-stop.invariant.among c.in-Some.stop c.in-Some.ensures.first)) c.views-views.result.now c.views-views.ensures c.index-views-stop.result c.index-views-stop.is

pub write-requires : goal.write-requires
write-requires g c =
    let w = c.requires.whole in
    let start = g.C.CellReader.turn c.args.port.now in
    let gives = subst (Gives (given_by c.args.self.now c.args.rule w.rule 0 0 start) c.gives-gave.result) (sym c.loop-stop.invariant.body) (c.gives-gave.ensures.found w.rule w.there) in
    let is = next w c.loop-stop.invariant.among c.in-Some.stop c.in-Some.ensures.first c.outcome-outcome.result (c.outcome-outcome.ensures w.rule (given_by c.args.self.now c.args.rule w.rule 0 0 start) w.there gives (counted w)) in
    may c.loop-stop.invariant.among c.place-cell.result c.outcome-outcome.result (entry is c.views-views.result.now c.views-views.ensures c.index-views-stop.result c.index-views-stop.is c.place-cell.result c.place-cell.ensures) (g.C.CellReader.turn c.loop-stop.port) refl

pub loop-stop-preserved : goal.loop-stop-preserved
loop-stop-preserved g c =
    let w = c.requires.whole in
    let start = g.C.CellReader.turn c.args.port.now in
    let gives = subst (Gives (given_by c.args.self.now c.args.rule w.rule 0 0 start) c.gives-gave.result) (sym c.loop-stop.invariant.body) (c.gives-gave.ensures.found w.rule w.there) in
    let is = next w c.loop-stop.invariant.among c.in-Some.stop c.in-Some.ensures.first c.outcome-outcome.result (c.outcome-outcome.ensures w.rule (given_by c.args.self.now c.args.rule w.rule 0 0 start) w.there gives (counted w)) in
    record {
      among = more c.loop-stop.invariant.among c.place-cell.result c.outcome-outcome.result (entry is c.views-views.result.now c.views-views.ensures c.index-views-stop.result c.index-views-stop.is c.place-cell.result c.place-cell.ensures) (g.C.CellReader.turn c.loop-stop.port) refl
          (g.C.CellReader.turn c.write.new.self) c.next.new.self.left c.write.ensures (ap (λ (q : WalkValue). q.left) c.next.ensures.rest);
      room = same_rooms c.loop-stop.scratch (record { walk = c.next.new.self; rule = c.loop-stop.scratch.rule }) (itself c.loop-stop.scratch.rule.body) (ap (λ (q : WalkValue). q.room) c.next.ensures.rest) ∙ c.loop-stop.invariant.room;
      body = c.loop-stop.invariant.body;
    }

pub returns-clause-written : goal.returns-clause-written
returns-clause-written g c = ended c.loop-stop.invariant.among c.requires.whole.count (sym c.in_default.is ∙ c.next.ensures.first)
