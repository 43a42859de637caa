use Rattle.std.proofs.Common.{◌≡◌, arith, rules, to_z, of_z, w64}
use Rattle.pb_statements.proofs.StoreLemmas.{only_past, only_tall, only_there, only_wide}
use Rattle.pb_statements.proofs.scratch.Scratch.assign_output.Goals as goal

pub returns-then-k-len-clause-after : goal.returns-then-k-len-clause-after
returns-then-k-len-clause-after c = λ a. only_past a c.args.self.now c.args.k c.args.n (omega arith)

pub returns-then-spot-ne1-clause-after : goal.returns-then-spot-ne1-clause-after
returns-then-spot-ne1-clause-after c = λ a. only_wide a c.args.self.now c.args.k c.args.n c.index-spot.result.now (omega arith) c.index-spot.ensures c.if-spot-ne1.true

pub returns-then-spot-ne1-2-clause-after : goal.returns-then-spot-ne1-2-clause-after
returns-then-spot-ne1-2-clause-after c = λ a. only_tall a c.args.self.now c.args.k c.args.n c.index-spot.result.now (omega arith) c.index-spot.ensures c.if-spot-ne1-2.true

pub returns-clause-after : goal.returns-clause-after
returns-clause-after c =
    let same : to_z w64 (of_z w64 c.args.n) ≡ c.args.n = search rules in
    λ a. only_there a c.args.self.now c.args.k c.args.n c.index-spot.result.now _ _ (omega arith) c.index-spot.ensures (omega arith) (omega arith) same c.set_output.ensures.store
