use Rattle.std.proofs.Common.{◌≡◌, true, arith}
use Rattle.std.specs.Result.{is_ok}
use Rattle.std.proofs.lemmas.Grind.{common_steps}
use Rattle.pb_walk.proofs.NextLemmas.{more_begun, pushed}
use Rattle.pb_walk.proofs.walk.begin_all.Goals as goal

pub loop-piece-preserved : goal.loop-piece-preserved
loop-piece-preserved c =
    let old = c.loop-piece.cursors.items in
    let new = c.push.new.self.items in
    let there : is_ok c.push.result ≡ true = grind (arith, common_steps, c.push.ensures.full, c.requires, c.loop-piece.invariant.room, c.loop-piece.invariant.count, c.loop-piece-test.true) in
    let one = pushed (is_ok c.push.result) old new c.begin.result c.push.ensures.items there in
    let more =
    more_begun c.args.course old new c.begin.result c.args.pieces.now c.loop-piece.piece-index _ c.loop-piece-test.true c.begin.ensures.spot c.begin.ensures.begun one c.loop-piece.invariant.spots c.loop-piece.invariant.begun
    in
    record {
      spots = more.0;
      begun = more.1;
      count = grind (arith, common_steps, one, c.loop-piece.invariant.count);
      room = omega (arith, c.push.ensures.capacity, c.loop-piece.invariant.room);
    }
