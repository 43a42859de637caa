use Rattle.std.proofs.Common.{get_or}
use Rattle.std.proofs.lemmas.List.{take_all}
use Rattle.std.proofs.Common.{subst}
use Rattle.std.specs.List.{All}
use Rattle.pb_linear.specs.Sizes.{sizes_of}
use Rattle.pb_program.specs.Trees.{bare_prog}
use Rattle.pb_jobs.specs.Rooms.{HasRoomFor}
use Rattle.pb_jobs.proofs.RoomLemmas.{grows_over, next_room, room_grows}
use Rattle.pb_jobs.proofs.room.rules_rooms.Goals as goal

pub rule_rooms-requires-clause-need : goal.rule_rooms-requires-clause-need
rule_rooms-requires-clause-need c = c.requires.needs c.loop-rule.rule-index 0 c.loop-rule-test.true

pub loop-rule-preserved : goal.loop-rule-preserved
loop-rule-preserved c = record {
  grows = grows_over c.args.least c.loop-rule.rooms c.greater-rooms.result c.loop-rule.invariant.grows c.greater-rooms.ensures.first;
  room = next_room (bare_prog c.args.p.now) c.args.t (sizes_of c.args.s.now) c.args.rules.now c.loop-rule.rule-index c.loop-rule.rooms c.greater-rooms.result c.loop-rule-test.true c.greater-rooms.ensures.first
      (room_grows (bare_prog c.args.p.now) c.args.t (sizes_of c.args.s.now) c.rule_rooms.result c.greater-rooms.result (get_or c.args.rules.now c.loop-rule.rule-index 0) c.greater-rooms.ensures.second c.rule_rooms.ensures) c.loop-rule.invariant.room;
}

pub returns-clause-room : goal.returns-clause-room
returns-clause-room c = subst (All (HasRoomFor (bare_prog c.args.p.now) c.args.t (sizes_of c.args.s.now) c.loop-rule.rooms)) (take_all c.loop-rule.rule-index c.args.rules.now c.loop-rule-test.false) c.loop-rule.invariant.room
