use Rattle.std.proofs.Common.{◌∙◌, List, ap, refl, slice_get, subst, sym}
use Rattle.pb_program.specs.Trees.{bare_prog}
use Rattle.pb_walk.specs.declared.stop.Stop.{Stop}
use Rattle.pb_walk.specs.Stretches.{place_on}
use Rattle.pb_walk.specs.Walks.{WalkValue, walk_of}
use Rattle.pb_jobs.specs.Instances.{of_sizes}
use Rattle.pb_jobs.specs.Rooms.{HasRoomFor, rooms_of}
use Rattle.pb_jobs.specs.declared.room.Rooms.{Rooms}
use Rattle.pb_jobs.proofs.BlockLemmas.{piece_there}
use Rattle.pb_jobs.proofs.LineLemmas.{among_after, first_is, made_here, shorter}
use Rattle.pb_jobs.proofs.ListLemmas.{all_at}
use Rattle.pb_jobs.proofs.StepLemmas.{begun, ended, itself, same_rooms}
use Rattle.pb_jobs.proofs.instance.Instance.run_block.Goals as goal

pub loop-stretch-init : goal.loop-stretch-init
loop-stretch-init g c = record {
  among = begun (walk_of c.args.steps.now c.args.parts.now) (g.C.CellReader.turn c.args.port.now) (g.C.CellReader.turn c.args.port.now) c.begin.new.self.left refl (ap (λ (w : WalkValue). w.left) c.begin.ensures);
  room = same_rooms c.args.scratch.now (record { walk = c.begin.new.self; rule = c.args.scratch.now.rule }) (itself c.args.scratch.now.rule.body) (ap (λ (w : WalkValue). w.room) c.begin.ensures);
}

pub rule_of-rule-requires : goal.rule_of-rule-requires
rule_of-rule-requires g c = piece_there c.requires.block c.loop-stretch.invariant.among (place_on c.in-Some.stretch 0) (first_is c.requires.block c.loop-stretch.invariant.among c.in-Some.stretch c.in-Some.ensures.taken)

pub run_stretch-requires-clause-made : goal.run_stretch-requires-clause-made
run_stretch-requires-clause-made g c = made_here c.requires.block c.loop-stretch.invariant.among c.in-Some.stretch c.in-Some.ensures.taken c.rule_of-rule.result c.rule_of-rule.ensures

pub run_stretch-requires-clause-room : goal.run_stretch-requires-clause-room
run_stretch-requires-clause-room g c =
    let v = c.args.self.now in
    subst (λ (r : Rooms). HasRoomFor (bare_prog v.program) v.number (of_sizes v) r c.rule_of-rule.result) (sym c.loop-stretch.invariant.room)
    (all_at (HasRoomFor (bare_prog v.program) v.number (of_sizes v) (rooms_of c.args.scratch.now)) c.args.rules.now c.in-Some.stretch.piece c.rule_of-rule.result c.requires.room c.rule_of-rule.ensures)

pub loop-stretch-smaller : goal.loop-stretch-smaller
loop-stretch-smaller g c = shorter c.in-Some.stretch c.in-Some.ensures.taken

pub loop-stretch-preserved : goal.loop-stretch-preserved
loop-stretch-preserved g c = record {
  among = among_after c.requires.block c.loop-stretch.invariant.among c.in-Some.stretch c.in-Some.ensures.taken (g.C.CellReader.turn c.run_stretch.new.port) c.run_stretch.ensures.written;
  room = same_rooms c.loop-stretch.scratch (record { walk = c.stretch.new.self; rule = c.run_stretch.new.scratch }) c.run_stretch.ensures.room (ap (λ (w : WalkValue). w.room) c.in-Some.ensures.taken.rest) ∙ c.loop-stretch.invariant.room;
}

pub returns-clause-written : goal.returns-clause-written
returns-clause-written g c = ended c.loop-stretch.invariant.among c.requires.block.count (sym (ap (λ (l : List Stop). slice_get l 0) c.in_default.ensures.none.0))
