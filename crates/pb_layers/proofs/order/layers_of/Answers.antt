use Rattle.std.proofs.Common.{inr}
use Rattle.pb_layers.proofs.AnswerLemmas.{firsts-as, least-inside, members-as, numbered-as, refused-is, root-inside, used-is, without-as}
use Rattle.pb_layers.proofs.order.layers_of.Goals as goal

pub returns-in-Some-clause-refused : goal.returns-in-Some-clause-refused
returns-in-Some-clause-refused c =
    let least = c.in_ok-components.components.least.items in
    let lists = c.in_ok-lists.lists.items in
    inr (refused-is c.args.joined.now c.args.edges.now c.args.nodes c.requires.joined c.requires.edges least c.in_ok-components.components.depth.items c.in_ok-components.ensures lists
    (firsts-as c.args.edges.now least c.deref.result.now lists c.deref.ensures.value c.in_ok-lists.ensures)
    c.in-Some.root
    (without-as least c.deref-2.result.now lists c.deref-3.result.now c.in-Some.root c.deref-2.ensures.value c.deref-3.ensures.value c.in-Some.ensures)
    c.in_ok-nodes.nodes.items
    (members-as least c.deref-in-Some.result.now c.in-Some.root c.in_ok-nodes.nodes.items c.deref-in-Some.ensures.value c.in_ok-nodes.ensures))

pub numbered-requires-clause-inside : goal.numbered-requires-clause-inside
numbered-requires-clause-inside c = least-inside _ c.args.nodes _ _ c.in_ok-components.ensures

pub numbered-requires-clause-roots : goal.numbered-requires-clause-roots
numbered-requires-clause-roots c = root-inside c.args.joined.now c.args.edges.now c.args.nodes c.requires.joined c.requires.edges _ _ c.in_ok-components.ensures

pub returns-clause-found : goal.returns-clause-found
returns-clause-found c =
    let least = c.in_ok-components.components.least.items in
    let lists = c.in_ok-lists.lists.items in
    used-is c.args.joined.now c.args.edges.now c.args.nodes c.requires.joined c.requires.edges least c.in_ok-components.components.depth.items c.in_ok-components.ensures lists
    (firsts-as c.args.edges.now least c.deref.result.now lists c.deref.ensures.value c.in_ok-lists.ensures)
    c.in_ok-numbered.field-0
    (numbered-as c.args.edges.now c.args.nodes least c.in_ok-components.components.depth.items lists c.deref-4.result.now c.in_ok-numbered.field-0 c.deref-4.ensures.value c.in_ok-numbered.ensures)
