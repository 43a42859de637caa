use Rattle.pb_walk.proofs.NextLemmas.{nothing_begun}
use Rattle.pb_walk.proofs.walk.Walk.with_room.Goals as goal

pub returns : goal.returns
returns c = nothing_begun c.in_ok-with_capacity.field-0.items c.args.pieces c.in_ok-with_capacity.ensures.items
