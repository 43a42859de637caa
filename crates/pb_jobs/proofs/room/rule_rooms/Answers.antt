use Rattle.pb_linear.specs.Sizes.{sizes_of}
use Rattle.pb_program.specs.Trees.{bare_prog}
use Rattle.pb_jobs.proofs.RoomLemmas.{rule_room}
use Rattle.pb_jobs.proofs.room.rule_rooms.Goals as goal

pub outs_room-requires-clause-runnable : goal.outs_room-requires-clause-runnable
outs_room-requires-clause-runnable c = λ transform rule there at. (c.requires.need transform rule there at).0

pub returns : goal.returns
returns c = rule_room (bare_prog c.args.p.now) c.args.t (sizes_of c.args.s.now) c.args.rule c.locals_room.result c.outs_room.result 0 c.requires.need c.locals_room.ensures c.outs_room.ensures
