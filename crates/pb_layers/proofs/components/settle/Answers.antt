use Rattle.std.proofs.Common.{ap, length, arith}
use Rattle.pb_layers.specs.Graphs.{Out}
use Rattle.pb_layers.proofs.NamedLemmas.{members-inside, named-as, named-more}
use Rattle.pb_layers.proofs.TakenLemmas.{down-inside}
use Rattle.pb_layers.proofs.components.settle.Goals as goal

pub name-requires-clause-members : goal.name-requires-clause-members
name-requires-clause-members c =
    members-inside (Out c.args.graph.now.down.items) c.left.components.left.items _ c.in_ok-members.members.items _ _ c.in_ok-members.ensures.taken c.deref-in-left.ensures.value
    (omega (arith, ap length c.deref.ensures.value, c.requires.turned.room_down, c.left.invariant.settled.named.room_left))

pub name-requires-clause-inside : goal.name-requires-clause-inside
name-requires-clause-inside c = λ u v out.
    let below = down-inside c.args.nodes c.args.graph.now.down.items c.args.graph.now.up.items _ c.requires.turned c.deref.ensures.value u v out in
    omega (arith, ap length c.deref.ensures.value, c.requires.turned.room_down)

pub left-preserved : goal.left-preserved
left-preserved c = record {
  settled = record {
    named = named-more c.args.graph.now.down.items c.args.nodes c.requires.turned.inside c.left.components.left.items _ c.in_ok-members.members.items _ _ _ _ c.left.invariant.settled.named c.in_ok-members.ensures.taken (named-as _ _ _ _ _ _ _ _ c.deref.ensures.value c.deref-in-left.ensures.value c.name.ensures);
    room_ahead = omega (arith, c.in_ok-members.ensures.room, c.left.invariant.settled.named.room_left);
    clear = c.in_ok-members.ensures.clear;
  };
  fewer = λ v on. c.left.invariant.fewer v (c.in_ok-members.ensures.taken.fewer v on);
}
