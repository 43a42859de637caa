use Rattle.std.proofs.Common.{◌≡◌, arith, rules, to_z, of_z, w64}
use Rattle.pb_statements.proofs.StoreLemmas.{put_past, put_tall, put_there, put_wide}
use Rattle.pb_statements.proofs.scratch.Scratch.put_output.Goals as goal

pub returns-then-k-len-clause-after : goal.returns-then-k-len-clause-after
returns-then-k-len-clause-after c = λ a. put_past a c.args.self.now c.args.k c.args.n c.args.x c.args.y (omega arith)

pub returns-then-x-spot-clause-after : goal.returns-then-x-spot-clause-after
returns-then-x-spot-clause-after c = λ a. put_wide a c.args.self.now c.args.k c.args.n c.args.x c.args.y c.index-spot.result.now (omega arith) c.index-spot.ensures c.if-x-spot.true

pub returns-then-y-spot-clause-after : goal.returns-then-y-spot-clause-after
returns-then-y-spot-clause-after c = λ a. put_tall a c.args.self.now c.args.k c.args.n c.args.x c.args.y c.index-spot.result.now (omega arith) c.index-spot.ensures c.if-y-spot.true

pub returns-clause-after : goal.returns-clause-after
returns-clause-after c =
    let same : to_z w64 (of_z w64 c.args.n) ≡ c.args.n = search rules in
    λ a. put_there a c.args.self.now c.args.k c.args.n c.args.x c.args.y c.index-spot.result.now _ _ (omega arith) c.index-spot.ensures c.if-x-spot.false c.if-y-spot.false same c.set_output.ensures.store
