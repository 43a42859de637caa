use Rattle.std.proofs.Common.{◌≡◌, ◌+◌, ◌∷◌, [], ap, arith, length}
use Rattle.std.proofs.lemmas.List.{length-append}
use Rattle.pb_steal.specs.Deques.{OwnValue}
use Rattle.pb_steal.proofs.runner.push_all.Goals as goal

pub push-requires : goal.push-requires
push-requires g c =
    let l = c.loop-ticket in
    let all : length l.own.pushed + length l.row.items ≡ length c.args.own.now.pushed + length c.args.row.now.items = omega (arith, ap length l.invariant.all, length-append l.own.pushed l.row.items, length-append c.args.own.now.pushed c.args.row.now.items) in
    omega (arith, all, c.requires, ap (λ (o : OwnValue). o.room) l.invariant.own, ap length c.in-Some.ensures.items, length-append (c.in-Some.ticket ∷ []) c.pop_front.new.self.items)
