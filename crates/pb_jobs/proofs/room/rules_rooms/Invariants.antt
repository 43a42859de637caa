use Rattle.std.proofs.Common.{take}
use Rattle.std.specs.List.{All}
use Rattle.pb_linear.specs.Sizes.{sizes_of}
use Rattle.pb_program.specs.Trees.{bare_prog}
use Rattle.pb_jobs.specs.Rooms.{Grows, HasRoomFor}
use Rattle.pb_jobs.proofs.room.rules_rooms.Given as goal

abbrev pub invariant-loop-rule : goal.invariant-loop-rule
invariant-loop-rule l = record { grows : Grows l.fn.least l.rooms; room : All (HasRoomFor (bare_prog l.p) l.t (sizes_of l.s) l.rooms) (take l.rule-index l.rules) }
