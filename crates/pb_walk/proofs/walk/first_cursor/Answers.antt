use Rattle.std.proofs.Common.{◌≡◌, ℕ, length, subst, arith}
use Rattle.pb_walk.specs.Cursors.{IsBest}
use Rattle.pb_walk.proofs.walk.first_cursor.Goals as goal

pub returns : goal.returns
returns c =
    let all : c.loop-k.k ≡ length c.args.cursors.now = omega arith in
    subst (λ (n : ℕ). IsBest c.args.course c.args.cursors.now n c.loop-k.found) all c.loop-k.invariant
