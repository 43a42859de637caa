use Rattle.std.proofs.Common.{◌≡◌, rules, arith, to_z, of_z, w64}
use Rattle.std.proofs.lemmas.Grind.{common_steps}
use Rattle.pb_statements.specs.Stored.{store_of}
use Rattle.pb_statements.proofs.StoreLemmas.{output_put, output_room}
use Rattle.pb_statements.proofs.scratch.Scratch.set_output.Goals as goal

pub overflow_mul-y : goal.overflow_mul-y
overflow_mul-y c =
    let s = c.index-spot.result.now in
    let room = output_room c.args.self.now.locals.items c.args.self.now.numbers.items c.args.self.now.spots.items c.args.self.now.laid c.args.k s c.requires.there c.index-spot.ensures c.args.x c.args.y (c.requires.across s c.index-spot.ensures) (c.requires.down s c.index-spot.ensures) c.args.n in
    grind (arith, common_steps, room)

pub overflow_add-y : goal.overflow_add-y
overflow_add-y c =
    let s = c.index-spot.result.now in
    let room = output_room c.args.self.now.locals.items c.args.self.now.numbers.items c.args.self.now.spots.items c.args.self.now.laid c.args.k s c.requires.there c.index-spot.ensures c.args.x c.args.y (c.requires.across s c.index-spot.ensures) (c.requires.down s c.index-spot.ensures) c.args.n in
    grind (arith, common_steps, room)

pub overflow_add-spot : goal.overflow_add-spot
overflow_add-spot c =
    let s = c.index-spot.result.now in
    let room = output_room c.args.self.now.locals.items c.args.self.now.numbers.items c.args.self.now.spots.items c.args.self.now.laid c.args.k s c.requires.there c.index-spot.ensures c.args.x c.args.y (c.requires.across s c.index-spot.ensures) (c.requires.down s c.index-spot.ensures) c.args.n in
    grind (arith, common_steps, room)

pub index_mut-requires : goal.index_mut-requires
index_mut-requires c =
    let s = c.index-spot.result.now in
    let room = output_room c.args.self.now.locals.items c.args.self.now.numbers.items c.args.self.now.spots.items c.args.self.now.laid c.args.k s c.requires.there c.index-spot.ensures c.args.x c.args.y (c.requires.across s c.index-spot.ensures) (c.requires.down s c.index-spot.ensures) c.args.n in
    grind (arith, common_steps, room)

pub returns-clause-store : goal.returns-clause-store
unfolding store_of
returns-clause-store c =
    let s = c.index-spot.result.now in
    let same : to_z w64 (of_z w64 c.args.n) ≡ c.args.n = search rules in
    output_put c.args.self.now.locals.items c.args.self.now.numbers.items c.args.self.now.spots.items c.args.self.now.laid c.args.k s c.requires.there c.index-spot.ensures c.args.x c.args.y (c.requires.across s c.index-spot.ensures) (c.requires.down s c.index-spot.ensures) _ c.args.n same
