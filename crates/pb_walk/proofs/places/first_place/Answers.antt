use Rattle.pb_walk.proofs.PairLemmas.{first_pair}
use Rattle.pb_walk.proofs.places.first_place.Goals as goal

pub returns-then-sweep : goal.returns-then-sweep
returns-then-sweep c =
    let w = c.args.sweep in
    let r = c.args.rect in
    let across = c.first_number.ensures in
    let down = c.first_number-then-sweep.ensures in
    record {
      inside = record { left = across.inside.from; right = across.inside.below; low = down.inside.from; high = down.inside.below };
      before = λ x y h. rw c.if-sweep.true (first_pair w.outer w.inner (record { low = r.x0; high = r.x1 }) (record { low = r.y0; high = r.y1 }) c.first_number.result c.first_number-then-sweep.result
          across down x y (record { from = h.left; below = h.right }) (record { from = h.low; below = h.high }));
    }

pub returns-else-sweep : goal.returns-else-sweep
returns-else-sweep c =
    let w = c.args.sweep in
    let r = c.args.rect in
    let across = c.first_number-else-sweep.ensures in
    let down = c.first_number-else-sweep-2.ensures in
    record {
      inside = record { left = across.inside.from; right = across.inside.below; low = down.inside.from; high = down.inside.below };
      before = λ x y h. rw c.if-sweep.false (first_pair w.outer w.inner (record { low = r.y0; high = r.y1 }) (record { low = r.x0; high = r.x1 }) c.first_number-else-sweep-2.result c.first_number-else-sweep.result
          down across y x (record { from = h.low; below = h.high }) (record { from = h.left; below = h.right }));
    }
